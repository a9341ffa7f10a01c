use Rattle.std.proofs.Common.{arith}
use Rattle.pairs.proofs.Calling.{shown_fits}
use Rattle.pairs.proofs.pair.Pair.allocate_second.Goals as goal

pub overflow_add-result : goal.overflow_add-result
overflow_add-result g c =
    let s = c.args.self.now in
    let e = c.span-base.ensures in
    let l = shown_fits c.args.kind (g.A.Meant.means s.first) (g.B.Meant.means s.second) (g.B.Meant.lawful s.second) c.args.n c.check_open.result c.allocate.result c.hand_up.result (c.in_ok-start.start, c.in_ok-start.length) c.check_open.ensures c.in_ok-check_open.was c.allocate.ensures.answer c.hand_up.ensures c.in_ok-start.was in
    omega arith

use Rattle.std.proofs.Common.{sym}
use Rattle.heap.specs.declared.fault.Kind.TheVariants.{FreeList as FreeListK}
use Rattle.heap.proofs.Checked.{fill_covered, fill_refused}
use Rattle.heap.proofs.Offers.{own_fill}
use Rattle.free_list.specs.FreeLists.{unheld, free_listed}
use Rattle.free_list.specs.FreeList.{listed}
use Rattle.free_list.specs.Unheld.{covered_below}
use Rattle.free_list.specs.FreeListed.{below_fills, free_listed_lawful}
use Rattle.free_list.specs.Keeping.{below_fill_keeps}
use Rattle.free_list.proofs.free_list.FreeListHeap.fill.Goals as goal

pub returns : goal.returns
returns g c =
    let s = c.args.self.now in
    let m = g.H.Meant.means s.below in
    let m' = g.H.Meant.means c.fill.new.self in
    let held = listed s.held in
    let L = g.R.Rounding.LARGEST in
    let R = g.R.Rounding.rounds in
    let a = c.args.a in
    let n = c.args.c in
    let r = c.fill.result in
    let e = c.fill.ensures in
    let v = free_listed_lawful L R held m g.R.Rounding.lawful (g.H.Meant.lawful s.below) in
    let i = fill_covered FreeListK (free_listed L R held m) v a c.covering.result c.covering.ensures n (sym c.in_ok-check_fill.ensures) in
    record {
      answer = rw c.make_own.ensures (own_fill FreeListK m.kind (unheld held m.live) m.live a a n (covered_below held m.live a n) (λ _. i) r e.answer);
      after = rw c.make_own.ensures (below_fills L R held m m' a n c.args.b r e.after);
      kept = λ from h k. rw c.make_own.ensures (below_fill_keeps R (listed from.held) (g.H.Meant.means from.below).live held m m' (λ q. g.H.Meant.keeps from.below q s.below) (λ q. g.H.Meant.keeps from.below q c.fill.new.self) h k a n c.args.b r e.after (e.kept from.below));
    }

pub returns-in_err-check_fill-clause-answer : goal.returns-in_err-check_fill-clause-answer
returns-in_err-check_fill-clause-answer g c =
    let s = c.args.self.now in
    let m = g.H.Meant.means s.below in
    let held = listed s.held in
    let L = g.R.Rounding.LARGEST in
    let R = g.R.Rounding.rounds in
    fill_refused FreeListK (free_listed L R held m) (free_listed_lawful L R held m g.R.Rounding.lawful (g.H.Meant.lawful s.below)) c.args.a c.covering.result c.covering.ensures c.args.c _ c.from_residual.result c.in_err-check_fill.ensures c.from_residual.ensures.1

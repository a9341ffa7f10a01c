use Rattle.std.proofs.Common.{sym, arith}
use Rattle.heap.specs.declared.fault.Kind.TheVariants.{Bump as BumpK}
use Rattle.heap.proofs.Checked.{get_checked}
use Rattle.bump.specs.Table.{bump_means}
use Rattle.bump.specs.Laws.{bump_lawful, covered_region}
use Rattle.bump.proofs.BumpHeap.get.Goals as goal

pub bounds-self-a : goal.bounds-self-a
bounds-self-a c =
    let xs = c.args.self.now.region.now in
    let cursor = c.args.self.now.cursor in
    let k = (get_checked BumpK (bump_means xs cursor) (bump_lawful xs cursor) c.args.a c.find.result c.find.ensures).accepted (sym c.in_ok-check_get.ensures) in
    let z = covered_region xs cursor c.args.a 1 (omega arith) k in
    omega arith

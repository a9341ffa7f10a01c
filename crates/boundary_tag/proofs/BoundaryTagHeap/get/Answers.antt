use Rattle.std.proofs.Common.{sym, arith}
use Rattle.heap.specs.declared.fault.Kind.TheVariants.{BoundaryTag as TagK}
use Rattle.heap.proofs.Checked.{get_checked}
use Rattle.boundary_tag.specs.Chunks.{tag_means}
use Rattle.boundary_tag.specs.Laws.{tag_lawful, covered_region}
use Rattle.boundary_tag.proofs.BoundaryTagHeap.get.Goals as goal

pub bounds-self-a : goal.bounds-self-a
bounds-self-a c =
    let xs = c.args.self.now.region.now in
    let a = c.args.a in
    let k = (get_checked TagK (tag_means xs) (tag_lawful xs) a c.find.result c.find.ensures).accepted (sym c.in_ok-check_get.ensures) in
    let z = covered_region xs a 1 (omega arith) k in
    omega arith

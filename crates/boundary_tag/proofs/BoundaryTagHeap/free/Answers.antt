use Rattle.std.proofs.Common.{◌<◌, Ok, sym, ◌∙◌}
use Rattle.heap.specs.declared.fault.Kind.TheVariants.{BoundaryTag as TagK}
use Rattle.heap.proofs.Checked.{free_checked, free_refused}
use Rattle.boundary_tag.specs.Chunks.{chunks, live_in, tag_means, Release}
use Rattle.boundary_tag.specs.Laws.{tag_lawful}
use Rattle.boundary_tag.proofs.Joining.{release}
use Rattle.boundary_tag.proofs.Calls.{tag_frees, keeps_frees}
use Rattle.boundary_tag.proofs.BoundaryTagHeap.free.Goals as goal

released : (c : goal.After-write) → Release c.args.a c.args.self.now.region.now c.write.new.region
released c =
    let xs = c.args.self.now.region.now in
    let live : 0 < live_in (chunks xs) 0 c.args.a = free_checked TagK (tag_means xs) (tag_lawful xs) c.args.a c.find.result c.find.ensures (Ok tt) (sym c.in_ok-check_free.was ∙ c.check_free.ensures) in
    release xs c.write.new.region c.args.a c.joined.result live c.joined.ensures.value c.write.ensures

pub returns-in_err-check_free-clause-answer : goal.returns-in_err-check_free-clause-answer
returns-in_err-check_free-clause-answer c =
    let xs = c.args.self.now.region.now in
    free_refused TagK (tag_means xs) (tag_lawful xs) c.args.a c.find.result c.find.ensures _ c.from_residual.result c.in_err-check_free.ensures c.from_residual.ensures.1

pub returns-clause-after : goal.returns-clause-after
returns-clause-after c = tag_frees c.args.self.now.region.now c.write.new.region c.args.a (Ok tt) (released c)

pub returns-clause-kept : goal.returns-clause-kept
returns-clause-kept c = λ from h k. keeps_frees c.args.self.now.region.now c.write.new.region c.args.a from.region.now h (Ok tt) (released c) k

pub returns-clause-chunks : goal.returns-clause-chunks
returns-clause-chunks c = released c

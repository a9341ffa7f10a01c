use Rattle.std.proofs.Common.{◌≡◌, ◌<◌, Ok, sym, ◌∙◌}
use Rattle.heap.specs.declared.fault.Kind.TheVariants.{BoundaryTag as TagK}
use Rattle.heap.specs.Meaning.{Covered}
use Rattle.heap.specs.Checks.{checked_fill}
use Rattle.heap.proofs.Checked.{fill_some, fill_covered, fill_refused}
use Rattle.boundary_tag.specs.Chunks.{live_in, chunks, tag_means, Paint}
use Rattle.boundary_tag.specs.Laws.{tag_lawful, covered_region}
use Rattle.boundary_tag.proofs.Calls.{painted_paint, tag_fills, keeps_fills}
use Rattle.boundary_tag.proofs.BoundaryTagHeap.fill.Goals as goal

painted : (c : goal.After-paint) → Paint c.args.a c.args.c c.args.b c.args.self.now.region.now c.paint.new.region
painted c =
    let xs = c.args.self.now.region.now in
    let a = c.args.a in
    let n = c.args.c in
    let ok : checked_fill TagK c.find.result a n ≡ Ok tt = sym c.check_fill.ensures ∙ c.in_ok-check_fill.was in
    let z : 0 < n = fill_some TagK (tag_means xs) (tag_lawful xs) a c.find.result c.find.ensures n ok in
    let k : Covered (live_in (chunks xs) 0) a n = fill_covered TagK (tag_means xs) (tag_lawful xs) a c.find.result c.find.ensures n ok in
    painted_paint xs c.paint.new.region a n c.args.b z k (c.paint.ensures.inside (covered_region xs a n z k))

pub returns-in_err-check_fill-clause-answer : goal.returns-in_err-check_fill-clause-answer
returns-in_err-check_fill-clause-answer c =
    let xs = c.args.self.now.region.now in
    fill_refused TagK (tag_means xs) (tag_lawful xs) c.args.a c.find.result c.find.ensures c.args.c _ c.from_residual.result c.in_err-check_fill.ensures c.from_residual.ensures.1

pub returns-clause-after : goal.returns-clause-after
returns-clause-after c = tag_fills c.args.self.now.region.now c.paint.new.region c.args.a c.args.c c.args.b (Ok tt) (painted c)

pub returns-clause-kept : goal.returns-clause-kept
returns-clause-kept c = λ from h k. keeps_fills c.args.self.now.region.now c.paint.new.region c.args.a c.args.c c.args.b from.region.now h (Ok tt) (painted c) k

pub returns-clause-chunks : goal.returns-clause-chunks
returns-clause-chunks c = painted c

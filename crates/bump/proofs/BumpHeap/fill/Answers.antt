use Rattle.std.proofs.Common.{◌≡◌, ◌<◌, Ok, sym, refl}
use Rattle.heap.specs.declared.fault.Kind.TheVariants.{Bump as BumpK}
use Rattle.heap.specs.Meaning.{Covered}
use Rattle.heap.specs.Checks.{checked_fill}
use Rattle.heap.proofs.Checked.{fill_some, fill_covered, fill_refused}
use Rattle.bump.specs.Table.{live_in, table, bump_means}
use Rattle.bump.specs.Laws.{bump_lawful, covered_region}
use Rattle.bump.proofs.Calls.{painted_paint, bump_filled, keeps_filled}
use Rattle.bump.proofs.BumpHeap.fill.Goals as goal

pub returns-in_err-check_fill-clause-answer : goal.returns-in_err-check_fill-clause-answer
returns-in_err-check_fill-clause-answer c =
    let xs = c.args.self.now.region.now in
    let cursor = c.args.self.now.cursor in
    fill_refused BumpK (bump_means xs cursor) (bump_lawful xs cursor) c.args.a c.find.result c.find.ensures c.args.c _ c.from_residual.result c.in_err-check_fill.ensures c.from_residual.ensures.1

pub returns : goal.returns
returns c =
    let xs = c.args.self.now.region.now in
    let ys = c.paint.new.region in
    let cursor = c.args.self.now.cursor in
    let a = c.args.a in
    let n = c.args.c in
    let ok : checked_fill BumpK c.find.result a n ≡ Ok tt = sym c.in_ok-check_fill.ensures in
    let z : 0 < n = fill_some BumpK (bump_means xs cursor) (bump_lawful xs cursor) a c.find.result c.find.ensures n ok in
    let k : Covered (live_in (table xs cursor) 0) a n = fill_covered BumpK (bump_means xs cursor) (bump_lawful xs cursor) a c.find.result c.find.ensures n ok in
    let p = painted_paint xs ys cursor a n c.args.b z k (c.paint.ensures.inside (covered_region xs cursor a n z k)) in
    record {
      answer = (z, ∣ k ∣₁);
      after = bump_filled xs ys cursor a n c.args.b p;
      kept = λ from h q. keeps_filled xs ys cursor a n c.args.b p from.region.now from.cursor h q;
      table = (refl, p);
    }

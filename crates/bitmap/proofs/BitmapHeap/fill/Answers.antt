use Rattle.std.proofs.Common.{◌≡◌, ◌<◌, length, Ok, sym, ◌∙◌}
use Rattle.heap.specs.declared.fault.Kind.TheVariants.{Bitmap as BitmapK}
use Rattle.heap.specs.Meaning.{Covered}
use Rattle.heap.specs.Checks.{checked_fill}
use Rattle.heap.proofs.Checked.{fill_some, fill_covered, fill_refused}
use Rattle.bitmap.specs.Words.{bit_in}
use Rattle.bitmap.specs.Cells.{cells_of, bitmap_live, bitmap_means}
use Rattle.bitmap.specs.Laws.{bitmap_lawful, covered_region}
use Rattle.bitmap.proofs.Calls.{bitmap_filled, keeps_filled}
use Rattle.bitmap.proofs.BitmapHeap.fill.Goals as goal

pub returns : goal.returns
returns c =
    let xs = c.args.self.now.region.now in
    let ys = c.paint.new.region in
    let u = bit_in c.args.self.now.maps.used.words in
    let f = bit_in c.args.self.now.maps.first.words in
    let a = c.args.a in
    let n = c.args.c in
    let ok : checked_fill BitmapK c.find.result a n ≡ Ok tt = sym c.check_fill.ensures ∙ c.in_ok-check_fill.was in
    let z : 0 < n = fill_some BitmapK (bitmap_means xs u f) (bitmap_lawful xs u f) a c.find.result c.find.ensures n ok in
    let k : Covered (bitmap_live u f (cells_of (length xs))) a n = fill_covered BitmapK (bitmap_means xs u f) (bitmap_lawful xs u f) a c.find.result c.find.ensures n ok in
    let p = c.paint.ensures.inside (covered_region xs u f a n z k) in
    record {
      answer = (z, ∣ k ∣₁);
      after = bitmap_filled xs ys u f a n c.args.b z k p;
      kept = λ from h r. keeps_filled xs ys u f a n c.args.b z k p from.region.now (bit_in from.maps.used.words) (bit_in from.maps.first.words) h r;
    }

pub returns-in_err-check_fill-clause-answer : goal.returns-in_err-check_fill-clause-answer
returns-in_err-check_fill-clause-answer c =
    let xs = c.args.self.now.region.now in
    let u = bit_in c.args.self.now.maps.used.words in
    let f = bit_in c.args.self.now.maps.first.words in
    fill_refused BitmapK (bitmap_means xs u f) (bitmap_lawful xs u f) c.args.a c.find.result c.find.ensures c.args.c _ c.from_residual.result c.in_err-check_fill.ensures c.from_residual.ensures.1

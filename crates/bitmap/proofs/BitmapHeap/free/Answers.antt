use Rattle.std.proofs.Common.{◌≡◌, ℕ, ◌+◌, ◌/◌, ◌<◌, ◌≤◌, List, length, Ok, Err, Option, sym, refl, ◌∙◌, subst, arith}
use Rattle.std.proofs.lemmas.Result.{err_from_is_err_and}
use Rattle.heap.specs.declared.fault.Kind.TheVariants.{Bitmap as BitmapK}
use Rattle.heap.specs.Meaning.{Block, Finds}
use Rattle.heap.specs.Checks.{begun, checked_free}
use Rattle.heap.proofs.Checked.{begun_is, free_checked, free_refused}
use Rattle.bitmap.specs.Words.{bit_in}
use Rattle.bitmap.specs.Cells.{Map, cells_of, bitmap_live, bitmap_means, Unmarked}
use Rattle.bitmap.specs.Laws.{bitmap_lawful}
use Rattle.bitmap.proofs.Calls.{bitmap_freed, keeps_freed}
use Rattle.bitmap.proofs.BitmapHeap.free.Goals as goal

-- a block that check_free let pass, by its length
record Passed (xs : List ℕ) (u f : Map) (a l : ℕ) : Type 0 where
  is : bitmap_live u f (cells_of (length xs)) a ≡ l
  some : 0 < l
  fits : a / 64 + l / 64 ≤ 1024

passed : (xs : List ℕ) (u f : Map) (a l : ℕ) (found : Option Block) (t : Unit {0}) → Finds (bitmap_live u f (cells_of (length xs))) a found → Ok t ≡ checked_free BitmapK found a → l ≡ begun found a → Passed xs u f a l
passed xs u f a l found t finds ok begins =
    let m = bitmap_means xs u f in
    let w = bitmap_lawful xs u f in
    let is : bitmap_live u f (cells_of (length xs)) a ≡ l = begun_is m w a found finds ∙ sym begins in
    let was : 0 < bitmap_live u f (cells_of (length xs)) a = free_checked BitmapK m w a found finds (Ok t) ok in
    let within = (w.sits a was).within in
    record { is = is; some = omega arith; fits = omega arith }

pub unmark-requires : goal.unmark-requires
unmark-requires c =
    let s = c.args.self.now in
    (passed s.region.now (bit_in s.maps.used.words) (bit_in s.maps.first.words) c.args.a c.begun_at.result c.find-found.result c.in_ok-check_free.field-0 c.find-found.ensures c.in_ok-check_free.ensures c.begun_at.ensures).fits

pub returns : goal.returns
returns c =
    let xs = c.args.self.now.region.now in
    let u = bit_in c.args.self.now.maps.used.words in
    let f = bit_in c.args.self.now.maps.first.words in
    let u' = bit_in c.unmark.new.self.used.words in
    let f' = bit_in c.unmark.new.self.first.words in
    let l = c.begun_at.result in
    let p = passed xs u f c.args.a l c.find-found.result c.in_ok-check_free.field-0 c.find-found.ensures c.in_ok-check_free.ensures c.begun_at.ensures in
    record {
      answer = let is = p.is in let some = p.some in omega arith;
      after = bitmap_freed xs u f u' f' c.args.a l p.is p.some c.unmark.ensures;
      kept = λ from h k. keeps_freed xs u f u' f' c.args.a l p.is p.some c.unmark.ensures from.region.now (bit_in from.maps.used.words) (bit_in from.maps.first.words) h k;
      maps = record { was = let is = p.is in let some = p.some in omega arith; unmarked = subst (λ (z : ℕ). Unmarked (c.args.a / 64) (z / 64) u f u' f') (sym p.is) c.unmark.ensures };
    }

pub returns-in_err-check_free-clause-answer : goal.returns-in_err-check_free-clause-answer
returns-in_err-check_free-clause-answer c =
    let xs = c.args.self.now.region.now in
    let u = bit_in c.args.self.now.maps.used.words in
    let f = bit_in c.args.self.now.maps.first.words in
    free_refused BitmapK (bitmap_means xs u f) (bitmap_lawful xs u f) c.args.a c.find-found.result c.find-found.ensures _ c.from_residual.result c.in_err-check_free.ensures c.from_residual.ensures.1

pub returns-in_err-check_free-clause-maps : goal.returns-in_err-check_free-clause-maps
returns-in_err-check_free-clause-maps c =
    let xs = c.args.self.now.region.now in
    let u = bit_in c.args.self.now.maps.used.words in
    let f = bit_in c.args.self.now.maps.first.words in
    let q = free_checked BitmapK (bitmap_means xs u f) (bitmap_lawful xs u f) c.args.a c.find-found.result c.find-found.ensures (Err _) c.in_err-check_free.ensures in
    let p = err_from_is_err_and c.from_residual.result c.from_residual.ensures.1 in
    rw (p.1, p.2) (q.0, q.1, refl, refl)

use Rattle.std.proofs.Common.{◌≡◌, ℕ, ◌+◌, ◌/◌, ◌<◌, ◌≤◌, List, length, Ok, sym, arith}
use Rattle.heap.specs.Meaning.{Block}
use Rattle.bitmap.specs.Words.{bit_in}
use Rattle.bitmap.specs.Cells.{Map, cells_of, bitmap_means}
use Rattle.bitmap.specs.Laws.{fresh, bitmap_lawful}
use Rattle.bitmap.proofs.Calls.{bitmap_granted, keeps_granted}
use Rattle.bitmap.proofs.BitmapHeap.allocate.Goals as goal

within : (xs : List ℕ) (u f : Map) (n : ℕ) (b : Block) → Ok b ≡ (bitmap_means xs u f).offer n → (b.0 / 64 + b.1 / 64 ≤ 1024) × (0 < b.1 / 64)
within xs u f n b e =
    let r = fresh u f (cells_of (length xs)) n b (sym e) in
    let at = r.at in
    let long = r.long in
    let some = r.some in
    let fits = r.fits.within in
    (omega arith, omega arith)

pub mark-requires : goal.mark-requires
mark-requires c =
    let s = c.args.self.now in
    within s.region.now (bit_in s.maps.used.words) (bit_in s.maps.first.words) c.args.n (c.in_ok-start.start, c.in_ok-start.length) c.in_ok-start.ensures

pub returns : goal.returns
returns c =
    let xs = c.args.self.now.region.now in
    let ys = c.paint.new.region in
    let u = bit_in c.args.self.now.maps.used.words in
    let f = bit_in c.args.self.now.maps.first.words in
    let u' = bit_in c.mark.new.self.used.words in
    let f' = bit_in c.mark.new.self.first.words in
    let b : Block = (c.in_ok-start.start, c.in_ok-start.length) in
    let o : Ok b ≡ (bitmap_means xs u f).offer c.args.n = c.in_ok-start.ensures in
    let w = ((bitmap_lawful xs u f).offered c.args.n b (sym o)).within in
    let p = c.paint.ensures.inside (omega arith) in
    record {
      answer = o;
      after = bitmap_granted xs ys u f u' f' c.args.n b (sym o) c.mark.ensures p;
      kept = λ from h k. keeps_granted xs ys u f u' f' c.args.n b (sym o) c.mark.ensures p from.region.now (bit_in from.maps.used.words) (bit_in from.maps.first.words) h k;
      maps = c.mark.ensures;
    }

-- What the searches of the maps find: the block that covers an address, and the lowest run of free cells.
use Rattle.std.proofs.Common.{◌≡◌, ℕ, ◌+◌, ◌-◌, ◌*◌, ◌/◌, ◌<◌, ◌≤◌, true, false, not, ◌&&◌, ltb, Option, ap, ◌∙◌, arith}
use Rattle.std.proofs.lemmas.Bool.{lt-ltb, and_from, and_right}
use Rattle.heap.specs.Meaning.{In}
use Rattle.bitmap.specs.Cells.{Map, cells_for, goes_on, Runs, Back, bitmap_live, LowestRun, lowest, placed, bitmap_offer}
use Rattle.bitmap.specs.Laws.{lowest_is}
use Rattle.bitmap.specs.Rows.{lives}
use Rattle.bitmap.specs.Rows as rows

module _ (u f : Map) (cells a : ℕ) where
  -- no block covers an address past the cells
  pub past_none : cells ≤ a / 64 → (b : ℕ) → In b (bitmap_live u f cells b) a → ⊥
  past_none l b i =
      let lo = i.from in
      let hi = i.below in
      let v = lives u f cells b (omega arith) in
      let at = v.at in
      let long = v.long in
      let within = v.within in
      omega arith

  -- where the block that covers an address among them would begin
  module _ (p : ℕ) (low : a / 64 < cells) (b : Back (λ x. u x && not (f x)) (a / 64) p) where
    back : Back (goes_on u f cells) (a / 64) p
    back = record {
      from = b.from;
      all = λ x l m. and_from (ltb x cells) (u x && not (f x)) (lt-ltb x cells (omega arith)) (b.all x l m);
      stop = λ z. and_right (ltb p cells) (u p && not (f p)) (b.stop z);
    }

    pub found_block : (e : ℕ) → (u p && f p) ≡ true → Runs (goes_on u f cells) (p + 1) e → (bitmap_live u f cells (64 * p) ≡ 64 * (e - p)) × In (64 * p) (64 * (e - p)) a
    found_block e s r = let from = b.from in rows.found_block u f cells a p e back (and_from (ltb p cells) (u p && f p) (lt-ltb p cells (omega arith)) s) r

    pub found_none : (u p && f p) ≡ false → (d : ℕ) → In d (bitmap_live u f cells d) a → ⊥
    found_none s = rows.found_none u f cells a p back (and_right (ltb p cells) (u p && f p) s)

-- what it finds is offered
pub placed_is : (u f : Map) (cells n w : ℕ) (r : Option ℕ) → w ≡ cells_for n → LowestRun u f cells w r → placed n w r ≡ bitmap_offer u f cells n
placed_is u f cells n w r e k = ap (placed n w) (lowest_is u f cells w r k) ∙ ap (λ (z : ℕ). placed n z (lowest u f cells z)) e

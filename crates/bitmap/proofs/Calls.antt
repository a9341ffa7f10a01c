-- What the calls of a bitmap heap do to its meaning, and what it keeps.
use Rattle.std.proofs.Common.{◌≡◌, ℕ, ◌+◌, ◌-◌, ◌*◌, ◌/◌, ◌<◌, ◌≤◌, Bool, true, false, cond, eqb, List, ◌∷◌, length, Ok, sym, refl, ap, ◌∙◌, subst, ⊎_elim, arith}
use Rattle.heap.specs.declared.fault.Kind.TheVariants.{Bitmap as BitmapK}
use Rattle.heap.specs.Faults.{and_then}
use Rattle.heap.specs.Checks.{admitted}
use Rattle.heap.specs.Meaning.{Block, Covered, Granted, Freed, Filled}
use Rattle.heap.specs.Histories.{History, granted, freed, filled, relieved, length_at}
use Rattle.heap.proofs.Lawful.{offered_free}
use Rattle.region.specs.Bytes.{Painted}
use Rattle.bitmap.specs.Words.{inside}
use Rattle.bitmap.specs.Cells.{Map, cells_of, cells_for, bitmap_live, bitmap_offer, bitmap_means, Marked, Unmarked, BitmapKept, BitmapKeeps}
use Rattle.bitmap.specs.Rows.{Lives, lives}
use Rattle.bitmap.specs.Keeping.{says}
use Rattle.bitmap.specs.Laws.{Fresh, fresh, bitmap_lawful, covered_span}
use Rattle.bitmap.proofs.Changes.{mark_live, mark_covered, mark_begun, unmark_live, unmark_covered, unmark_begun}

-- an allocate
module _ (xs ys : List ℕ) (u f u' f' : Map) (n : ℕ) (b : Block) (o : (bitmap_means xs u f).offer n ≡ Ok b) (m : Marked (b.0 / 64) (b.1 / 64) u f u' f') (p : Painted b.0 b.1 0 xs ys) where
  abbrev cells : ℕ
  cells = cells_of (length xs)

  new : Fresh u f cells n b
  new = fresh u f cells n b o

  some_cells : 0 < cells_for n
  some_cells = let some = new.some in omega arith

  marks : Marked new.cell (cells_for n) u f u' f'
  marks =
      let at = new.at in
      let long = new.long in
      let a : b.0 / 64 ≡ new.cell = omega arith in
      let l : b.1 / 64 ≡ cells_for n = omega arith in
      subst (λ (z : ℕ). Marked z (cells_for n) u f u' f') a (subst (λ (z : ℕ). Marked (b.0 / 64) z u f u' f') l m)

  grant_live : (x : ℕ) → bitmap_live u' f' cells x ≡ cond (eqb x b.0) b.1 (bitmap_live u f cells x)
  grant_live x =
      mark_live u f u' f' cells new.cell (cells_for n) some_cells new.fits marks x
      ∙ ap (λ (z : ℕ). cond (eqb x z) (64 * cells_for n) (bitmap_live u f cells x)) (sym new.at)
      ∙ ap (λ (z : ℕ). cond (eqb x b.0) z (bitmap_live u f cells x)) (sym new.long)

  pub bitmap_granted : Granted b.0 b.1 (bitmap_means xs u f) (bitmap_means ys u' f')
  bitmap_granted = record {
    kind = refl;
    span = ap (λ (z : ℕ). 64 * cells_of z) p.long;
    live = λ x. ap (λ (z : ℕ). bitmap_live u' f' (cells_of z) x) p.long ∙ grant_live x;
    clear = p.set;
    byte = λ a x i.
        let lo = i.from in
        let hi = i.below in
        let apart = (bitmap_lawful xs u f).unused n b o a (omega arith) in
        p.rest x (λ j.
        let jl = j.from in
        let jh = j.below in
        ⊎_elim (λ (q : b.0 + b.1 ≤ a). let z : ⊥ = omega arith in z) (λ (q : a + bitmap_live u f cells a ≤ b.0). let z : ⊥ = omega arith in z) apart);
  }

  module _ (h : History) (k : BitmapKept h u f cells) where
    book_none : length_at h (64 * new.cell) ≡ 0
    book_none = ap (length_at h) (sym new.at) ∙ sym (k.live b.0) ∙ offered_free (bitmap_means xs u f) n b (bitmap_lawful xs u f) o

    book_next : (x : ℕ) → length_at (granted n b.0 b.1 ∷ h) x ≡ cond (eqb x (64 * new.cell)) (64 * cells_for n) (length_at h x)
    book_next x = ap (λ (z : ℕ). cond (eqb x z) b.1 (length_at h x)) new.at ∙ ap (λ (z : ℕ). cond (eqb x (64 * new.cell)) z (length_at h x)) new.long

    kept_granted : BitmapKept (granted n b.0 b.1 ∷ h) u' f' cells
    kept_granted = says (granted n b.0 b.1 ∷ h) u' f' cells
        (λ x. m.used x ∙ ap (λ (z : Bool). cond (inside (b.0 / 64) (b.1 / 64) x) true z) (k.used x))
        (λ x. m.first x ∙ ap (λ (z : Bool). cond (inside (b.0 / 64) 1 x) true (cond (inside (b.0 / 64) (b.1 / 64) x) false z)) (k.first x))
        (λ a. grant_live a ∙ ap (λ (z : ℕ). cond (eqb a b.0) b.1 z) (k.live a))
        (mark_covered u f u' f' cells new.cell (cells_for n) some_cells new.fits marks (length_at h) (length_at (granted n b.0 b.1 ∷ h)) book_none book_next k.covered)
        (mark_begun u f u' f' cells new.cell (cells_for n) some_cells new.fits marks (length_at h) (length_at (granted n b.0 b.1 ∷ h)) book_none book_next k.begun)

  pub keeps_granted : (zs : List ℕ) (v g : Map) (h : History) → BitmapKeeps zs v g h xs u f → BitmapKeeps zs v g (granted n b.0 b.1 ∷ h) ys u' f'
  keeps_granted zs v g h k = record {
    long = p.long ∙ k.long;
    rest = λ x l.
        let w = ((bitmap_lawful xs u f).offered n b o).within in
        let s : cells_of (length xs) ≡ cells_of (length zs) = ap cells_of k.long in
        p.rest x (λ i. let hi = i.below in omega arith) ∙ k.rest x l;
    kept = λ c d.
        subst (λ (z : ℕ). BitmapKept (granted n b.0 b.1 ∷ h) u' f' (cells_of z)) k.long
        (kept_granted h (subst (λ (z : ℕ). BitmapKept h u f (cells_of z)) (sym k.long) (k.kept c d)));
  }

-- a free, of the l bytes from a on
module _ (xs : List ℕ) (u f u' f' : Map) (a l : ℕ) (is : bitmap_live u f (cells_of (length xs)) a ≡ l) (some : 0 < l) (m : Unmarked (a / 64) (l / 64) u f u' f') where
  abbrev count : ℕ
  count = cells_of (length xs)

  old : Lives u f count a (bitmap_live u f count a)
  old = lives u f count a (omega arith)

  unmarks : Unmarked old.cell (old.end - old.cell) u f u' f'
  unmarks =
      let at = old.at in
      let long = old.long in
      let c : a / 64 ≡ old.cell = omega arith in
      let w : l / 64 ≡ old.end - old.cell = omega arith in
      subst (λ (z : ℕ). Unmarked z (old.end - old.cell) u f u' f') c (subst (λ (z : ℕ). Unmarked (a / 64) z u f u' f') w m)

  free_live : (x : ℕ) → bitmap_live u' f' count x ≡ cond (eqb x a) 0 (bitmap_live u f count x)
  free_live x =
      unmark_live u f u' f' count old.cell old.end old.starts old.runs unmarks x
      ∙ ap (λ (z : ℕ). cond (eqb x z) 0 (bitmap_live u f count x)) (sym old.at)

  pub bitmap_freed : Freed a (bitmap_means xs u f) (bitmap_means xs u' f')
  bitmap_freed = record { kind = refl; span = refl; live = free_live; byte = λ b x i. refl }

  module _ (h : History) (k : BitmapKept h u f count) where
    book_long : length_at h (64 * old.cell) ≡ 64 * (old.end - old.cell)
    book_long = ap (length_at h) (sym old.at) ∙ sym (k.live a) ∙ old.long

    book_left : (x : ℕ) → length_at (freed a ∷ h) x ≡ cond (eqb x (64 * old.cell)) 0 (length_at h x)
    book_left x = ap (λ (z : ℕ). cond (eqb x z) 0 (length_at h x)) old.at

    kept_freed : BitmapKept (freed a ∷ h) u' f' count
    kept_freed = says (freed a ∷ h) u' f' count
        (λ x.
        m.used x
        ∙ ap (λ (z : ℕ). cond (inside (a / 64) (z / 64) x) false (u x)) (sym is ∙ k.live a)
        ∙ ap (λ (z : Bool). cond (inside (a / 64) (length_at h a / 64) x) false z) (k.used x))
        (λ x.
        m.first x
        ∙ ap (λ (z : ℕ). cond (inside (a / 64) (z / 64) x) false (f x)) (sym is ∙ k.live a)
        ∙ ap (λ (z : Bool). cond (inside (a / 64) (length_at h a / 64) x) false z) (k.first x))
        (λ y. free_live y ∙ ap (λ (z : ℕ). cond (eqb y a) 0 z) (k.live y))
        (unmark_covered u f u' f' count old.cell old.end old.starts old.runs unmarks (length_at h) (length_at (freed a ∷ h)) book_long book_left k.covered)
        (unmark_begun u f u' f' count old.cell old.end old.starts old.runs unmarks (length_at h) (length_at (freed a ∷ h)) book_long book_left k.begun)

  pub keeps_freed : (zs : List ℕ) (v g : Map) (h : History) → BitmapKeeps zs v g h xs u f → BitmapKeeps zs v g (freed a ∷ h) xs u' f'
  keeps_freed zs v g h k = record {
    long = k.long;
    rest = k.rest;
    kept = λ c d.
        subst (λ (z : ℕ). BitmapKept (freed a ∷ h) u' f' (cells_of z)) k.long
        (kept_freed h (subst (λ (z : ℕ). BitmapKept h u f (cells_of z)) (sym k.long) (k.kept c d)));
  }

-- a fill
module _ (xs ys : List ℕ) (u f : Map) (a c v : ℕ) (some : 0 < c) (k : Covered (bitmap_live u f (cells_of (length xs))) a c) (p : Painted a c v xs ys) where
  pub bitmap_filled : Filled a c v (bitmap_means xs u f) (bitmap_means ys u f)
  bitmap_filled = record {
    kind = refl;
    span = ap (λ (z : ℕ). 64 * cells_of z) p.long;
    live = λ x. ap (λ (z : ℕ). bitmap_live u f (cells_of z) x) p.long;
    set = p.set;
    byte = λ b x i out. p.rest x out;
    offers = λ n. ap (λ (z : ℕ). and_then (admitted 32768 BitmapK n) (bitmap_offer u f (cells_of z))) p.long;
  }

  pub keeps_filled : (zs : List ℕ) (w g : Map) (h : History) → BitmapKeeps zs w g h xs u f → BitmapKeeps zs w g (filled a c v ∷ h) ys u f
  keeps_filled zs w g h r = record {
    long = p.long ∙ r.long;
    rest = λ x l.
        let s = covered_span xs u f a c some k in
        let e : cells_of (length xs) ≡ cells_of (length zs) = ap cells_of r.long in
        p.rest x (λ i. let hi = i.below in omega arith) ∙ r.rest x l;
    kept = λ y z. let o = r.kept y z in record { used = o.used; first = o.first; live = o.live; covered = o.covered; covers = o.covers; begun = o.begun; begins = o.begins; sound = o.sound; offer = o.offer };
  }

-- relief
pub keeps_relieved : (zs : List ℕ) (v g : Map) (h : History) (xs : List ℕ) (u f : Map) → BitmapKeeps zs v g h xs u f → BitmapKeeps zs v g (relieved ∷ h) xs u f
keeps_relieved zs v g h xs u f k = record {
  long = k.long;
  rest = k.rest;
  kept = λ y z. let o = k.kept y z in record { used = o.used; first = o.first; live = o.live; covered = o.covered; covers = o.covers; begun = o.begun; begins = o.begins; sound = o.sound; offer = o.offer };
}

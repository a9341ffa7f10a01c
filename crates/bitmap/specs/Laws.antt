-- The laws of a bitmap heap's meaning: what it offers, and where its live blocks lie.
use Rattle.std.proofs.Common.{◌≡◌, ℕ, zero, suc, ◌+◌, ◌-◌, ◌*◌, ◌<◌, ◌≤◌, true, false, not, ◌&&◌, leb, List, length, get_or, Some, None, Ok, Err, Option, sym, refl, ap, ◌∙◌, subst, inl, inr, ⊎_elim, arith, lit≤}
use mathlib.Core.Path.{fun_ext}
use Rattle.heap.specs.declared.fault.Fault.{Fault}
use Rattle.heap.specs.declared.fault.Kind.TheVariants.{Bitmap as BitmapK}
use Rattle.heap.specs.declared.fault.Cause.TheVariants.{Full}
use Rattle.heap.specs.Faults.{raised, and_then}
use Rattle.heap.specs.Checks.{admitted}
use Rattle.heap.specs.Meaning.{Block, Lawful, HeapFault, HeapKind, Covered, Apart}
use Rattle.heap.proofs.Offers.{admits, admits_large, admits_refused, raised_fault}
use Rattle.std.proofs.lemmas.Bool.{both_ways, cond-true, cond-false, cases_eq, cases_lt, cases_Bool, and_parts, and_from, le-leb, leb-true, not-true, not_from_false}
use Rattle.bitmap.specs.Cells.{Map, cells_of, cells_for, starts, goes_on, bitmap_live, Fits, LowestRun, none_in, fits, free_run, seek, lowest, Sound, placed, bitmap_offer, cells_mean, bitmap_means}
use Rattle.bitmap.specs.Rows.{lives, lives_used, on_or_starts, on_used, on_first}

pub none_free : (w : ℕ) (c : Map) (i : ℕ) → none_in w c i ≡ true → (x : ℕ) → i ≤ x → x < i + w → c x ≡ false
unfolding none_in
none_free zero c i e x l m = absurd (let z : ⊥ = omega arith in z)
none_free (suc w) c i e x l m =
    ⊎_elim
    (λ (q : c i ≡ true). absurd (both_ways (none_in (suc w) c i) (cond-true (c i) false (none_in w c (i + 1)) q) e))
    (λ (q : c i ≡ false).
    ⊎_elim
    (λ (r : x ≡ i). ap c r ∙ q)
    (λ (r : x ≡ i → ⊥). none_free w c (i + 1) (sym (cond-false (c i) false (none_in w c (i + 1)) q) ∙ e) x (omega arith) (omega arith))
    (cases_eq x i))
    (cases_Bool (c i))

free_none : (w : ℕ) (c : Map) (i : ℕ) → ((x : ℕ) → i ≤ x → x < i + w → c x ≡ false) → none_in w c i ≡ true
unfolding none_in
free_none zero c i h = refl
free_none (suc w) c i h = cond-false (c i) false (none_in w c (i + 1)) (h i (omega arith) (omega arith)) ∙ free_none w c (i + 1) (λ x l m. h x (omega arith) (omega arith))

seek_is : (n : ℕ) (t : Map) (i j : ℕ) → i ≤ j → j < i + n → t j ≡ true → ((x : ℕ) → i ≤ x → x < j → t x ≡ false) → seek n t i ≡ Some j
unfolding seek
seek_is zero t i j l m e h = absurd (let z : ⊥ = omega arith in z)
seek_is (suc n) t i j l m e h =
    ⊎_elim
    (λ (q : i ≡ j). cond-true (t i) (Some i) (seek n t (i + 1)) (ap t q ∙ e) ∙ ap Some q)
    (λ (q : i ≡ j → ⊥). cond-false (t i) (Some i) (seek n t (i + 1)) (h i (omega arith) (omega arith)) ∙ seek_is n t (i + 1) j (omega arith) (omega arith) e (λ x a b. h x (omega arith) b))
    (cases_eq i j)

seek_none : (n : ℕ) (t : Map) (i : ℕ) → ((x : ℕ) → t x ≡ false) → seek n t i ≡ None
unfolding seek
seek_none zero t i h = refl
seek_none (suc n) t i h = cond-false (t i) (Some i) (seek n t (i + 1)) (h i) ∙ seek_none n t (i + 1) h

seek_true : (n : ℕ) (t : Map) (i j : ℕ) → seek n t i ≡ Some j → t j ≡ true
unfolding seek
seek_true zero t i j e = absurd (let z : ◌≡◌ {A = ℕ} 0 1 = cc in let w : ⊥ = omega arith in w)
seek_true (suc n) t i j e =
    ⊎_elim
    (λ (q : t i ≡ true). let z : Some i ≡ Some j = sym (cond-true (t i) (Some i) (seek n t (i + 1)) q) ∙ e in let s : i ≡ j = cc in ap t (sym s) ∙ q)
    (λ (q : t i ≡ false). seek_true n t (i + 1) j (sym (cond-false (t i) (Some i) (seek n t (i + 1)) q) ∙ e))
    (cases_Bool (t i))

module _ (u f : Map) (cells w : ℕ) where
  pub fits_is : (i : ℕ) → fits u f cells w i ≡ true → Fits u f cells w i
  fits_is i e =
      let a = and_parts (leb (i + w) cells) (none_in w u i && not (goes_on u f cells (i + w))) e in
      let b = and_parts (none_in w u i) (not (goes_on u f cells (i + w))) a.1 in
      record { within = leb-true (i + w) cells a.0; free = none_free w u i b.0; end = not-true (goes_on u f cells (i + w)) b.1 }

  pub fits_yes : (i : ℕ) → Fits u f cells w i → fits u f cells w i ≡ true
  fits_yes i k =
      and_from (leb (i + w) cells) (none_in w u i && not (goes_on u f cells (i + w))) (le-leb (i + w) cells k.within)
      (and_from (none_in w u i) (not (goes_on u f cells (i + w))) (free_none w u i k.free) (not_from_false (goes_on u f cells (i + w)) k.end))

  fits_no : (i : ℕ) → (Fits u f cells w i → ⊥) → fits u f cells w i ≡ false
  fits_no i n = ⊎_elim (λ (e : fits u f cells w i ≡ true). absurd (n (fits_is i e))) (λ (e : fits u f cells w i ≡ false). e) (cases_Bool (fits u f cells w i))

  -- what any search finds
  pub lowest_is : (r : Option ℕ) → LowestRun u f cells w r → r ≡ lowest u f cells w
  lowest_is (Some i) k = let l = k.0.within in sym (seek_is (suc cells) (fits u f cells w) 0 i (omega arith) (omega arith) (fits_yes i k.0) (λ x a b. fits_no x (k.1 x b)))
  lowest_is None k = sym (seek_none (suc cells) (fits u f cells w) 0 (λ x. fits_no x (k x)))

-- in sound maps a run of free cells is enough
module _ (u f : Map) (cells w : ℕ) (k : Sound u f cells) (some : 0 < w) where
  sound_end : (i : ℕ) → ((x : ℕ) → i ≤ x → x < i + w → u x ≡ false) → goes_on u f cells (i + w) ≡ false
  sound_end i free =
      ⊎_elim
      (λ (e : goes_on u f cells (i + w) ≡ true). absurd (both_ways (u (i + w - 1)) (free (i + w - 1) (omega arith) (omega arith)) (k.follows (i + w) (on_used u f cells (i + w) e) (on_first u f cells (i + w) e)).1))
      (λ (e : goes_on u f cells (i + w) ≡ false). e)
      (cases_Bool (goes_on u f cells (i + w)))

  sound_fits : (i : ℕ) → fits u f cells w i ≡ free_run u cells w i
  sound_fits i =
      ⊎_elim
      (λ (e : free_run u cells w i ≡ true).
      let p = and_parts (leb (i + w) cells) (none_in w u i) e in
      fits_yes u f cells w i (record { within = leb-true (i + w) cells p.0; free = none_free w u i p.1; end = sound_end i (none_free w u i p.1) }) ∙ sym e)
      (λ (e : free_run u cells w i ≡ false).
      fits_no u f cells w i (λ q. both_ways (free_run u cells w i) e (and_from (leb (i + w) cells) (none_in w u i) (le-leb (i + w) cells q.within) (free_none w u i q.free))) ∙ sym e)
      (cases_Bool (free_run u cells w i))

  pub sound_lowest : lowest u f cells w ≡ seek (suc cells) (free_run u cells w) 0
  sound_lowest = ap (λ (t : Map). seek (suc cells) t 0) (fun_ext sound_fits)

placed_ok : (n w : ℕ) (r : Option ℕ) (b : Block) → placed n w r ≡ Ok b → (i : ℕ) × (r ≡ Some i) × (b.0 ≡ 64 * i) × (b.1 ≡ 64 * w)
placed_ok n w (Some i) b e = let q : (64 * i, 64 * w) ≡ b = cc in (i, refl, sym (ap (λ (z : Block). z.0) q), sym (ap (λ (z : Block). z.1) q))
placed_ok n w None b e = absurd (let z : ◌≡◌ {A = ℕ} 0 1 = cc in let y : ⊥ = omega arith in y)

placed_err : (n w : ℕ) (r : Option ℕ) (g : Fault) → placed n w r ≡ Err g → raised Full BitmapK n ≡ g
placed_err n w (Some i) g e = absurd (let z : ◌≡◌ {A = ℕ} 0 1 = cc in let y : ⊥ = omega arith in y)
placed_err n w None g e = cc

-- what an accepted allocate is offered
pub record Fresh (u f : Map) (cells n : ℕ) (b : Block) : Type 0 where
  pub cell : ℕ
  pub at : b.0 ≡ 64 * cell
  pub long : b.1 ≡ 64 * cells_for n
  pub fits : Fits u f cells (cells_for n) cell
  pub some : 1 ≤ n
  pub most : n ≤ 32768

bitmap_kind : HeapKind BitmapK
bitmap_kind = (lit≤ tt, lit≤ tt)

module _ (u f : Map) (cells : ℕ) where
  pub fresh : (n : ℕ) (b : Block) → and_then (admitted 32768 BitmapK n) (bitmap_offer u f cells) ≡ Ok b → Fresh u f cells n b
  fresh n b e =
      let a = admits 32768 BitmapK (bitmap_offer u f cells) n b e in
      let p = placed_ok n (cells_for n) (lowest u f cells (cells_for n)) b a.answer in
      record {
        cell = p.0;
        at = p.2;
        long = p.3;
        fits = fits_is u f cells (cells_for n) p.0 (seek_true (suc cells) (fits u f cells (cells_for n)) 0 p.0 p.1);
        some = a.some;
        most = a.most;
      }

  live_apart : (a b : ℕ) → 0 < bitmap_live u f cells a → a < b → 0 < bitmap_live u f cells b → a + bitmap_live u f cells a ≤ b
  live_apart a b h l k =
      let v = lives u f cells a h in
      let w = lives u f cells b k in
      let va = v.at in
      let wa = w.at in
      let vl = v.long in
      let vf = v.runs.from in
      ⊎_elim
      (λ (q : w.cell < v.end). absurd (both_ways (starts u f cells w.cell) (on_or_starts u f cells w.cell (v.runs.all w.cell (omega arith) q)) w.starts))
      (λ (q : v.end ≤ w.cell). omega arith)
      (cases_lt w.cell v.end)

  fits_apart : (n : ℕ) (b : Block) → Fresh u f cells n b → (a : ℕ) → 0 < bitmap_live u f cells a → Apart b (a, bitmap_live u f cells a)
  fits_apart n b r a h =
      let v = lives u f cells a h in
      let va = v.at in
      let vl = v.long in
      let vf = v.runs.from in
      let at = r.at in
      let long = r.long in
      let some = r.some in
      let i = r.cell in
      let w = cells_for n in
      ⊎_elim
      (λ (p : v.cell < i + w).
      ⊎_elim
      (λ (q : i < v.end).
      absurd (⊎_elim
      (λ (z : v.cell < i). both_ways (u i) (r.fits.free i (omega arith) (omega arith)) (lives_used u f cells a (bitmap_live u f cells a) v i (omega arith) q))
      (λ (z : i ≤ v.cell). both_ways (u v.cell) (r.fits.free v.cell z p) (lives_used u f cells a (bitmap_live u f cells a) v v.cell (omega arith) (omega arith)))
      (cases_lt v.cell i)))
      (λ (q : v.end ≤ i). inr (omega arith))
      (cases_lt i v.end))
      (λ (p : i + w ≤ v.cell). inl (omega arith))
      (cases_lt v.cell (i + w))

pub cells_lawful : (cells : ℕ) (byte : ℕ → ℕ) (u f : Map) → cells ≤ 1024 → Lawful (cells_mean cells byte u f)
cells_lawful cells byte u f small =
    record {
      kind = bitmap_kind;
      span_eighth = omega arith;
      span_bound = omega arith;
      sits = λ a h.
          let v = lives u f cells a h in
          let at = v.at in
          let long = v.long in
          let from = v.runs.from in
          let within = v.within in
          record { address = omega arith; length = omega arith; some = omega arith; within = omega arith };
      apart = live_apart u f cells;
      offered = λ n b e.
          let r = fresh u f cells n b e in
          let at = r.at in
          let long = r.long in
          let some = r.some in
          let within = r.fits.within in
          record { address = omega arith; length = omega arith; some = omega arith; within = omega arith };
      enough = λ n b e. let r = fresh u f cells n b e in let long = r.long in omega arith;
      unused = λ n b e a h. fits_apart u f cells n b (fresh u f cells n b e) a h;
      zero = refl;
      large = λ n h. admits_large 32768 BitmapK (bitmap_offer u f cells) n (lit≤ tt) h;
      refused = λ n g e. admits_refused 32768 BitmapK (bitmap_offer u f cells) n bitmap_kind
          (λ z q. subst HeapFault (placed_err n (cells_for n) (lowest u f cells (cells_for n)) z q) (raised_fault Full BitmapK n tt bitmap_kind)) g e;
    }

pub bitmap_lawful : (xs : List ℕ) (u f : Map) → Lawful (bitmap_means xs u f)
bitmap_lawful xs u f = cells_lawful (cells_of (length xs)) (λ x. get_or xs x 0) u f (omega arith)

pub covered_span : (xs : List ℕ) (u f : Map) (a c : ℕ) → 0 < c → Covered (bitmap_live u f (cells_of (length xs))) a c → a + c ≤ 64 * cells_of (length xs)
covered_span xs u f a c z k =
    let from = k.from in
    let to = k.to in
    let w = ((bitmap_lawful xs u f).sits k.start (omega arith)).within in
    omega arith

pub covered_region : (xs : List ℕ) (u f : Map) (a c : ℕ) → 0 < c → Covered (bitmap_live u f (cells_of (length xs))) a c → a + c ≤ length xs
covered_region xs u f a c z k = let s = covered_span xs u f a c z k in omega arith

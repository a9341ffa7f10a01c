-- What a bitmap heap keeps, from the book of its history.
use Rattle.std.proofs.Common.{◌≡◌, ℕ, suc, ◌-◌, ◌*◌, ◌/◌, ◌%◌, ◌<◌, ◌≤◌, Bool, true, false, List, [], length, sym, refl, ap, ◌∙◌, ⊎_elim, arith}
use mathlib.Core.Path.{fun_ext}
use Rattle.heap.specs.Meaning.{Covered}
use Rattle.heap.specs.Histories.{History, length_at}
use Rattle.bitmap.specs.Cells.{Map, cells_of, cells_for, bitmap_live, placed, seek, free_run, Sound, used_after, first_after, BitmapKept, BitmapKeeps}
use Rattle.bitmap.specs.Rows.{Lives, lives, lives_used, live_none, live_odd, starts_free, starts_used, starts_first}
use Rattle.bitmap.specs.Laws.{sound_lowest}
use Rattle.std.proofs.lemmas.Bool.{cases_eq, cases_Bool}

-- with clear maps there are no blocks
pub clear_live : (u f : Map) (cells : ℕ) → ((x : ℕ) → u x ≡ false) → (a : ℕ) → bitmap_live u f cells a ≡ 0
clear_live u f cells e a =
    ⊎_elim
    (λ (m : a % 64 ≡ 0). let at : a ≡ 64 * (a / 64) = omega arith in ap (bitmap_live u f cells) at ∙ live_none u f cells (a / 64) (starts_free u f cells (a / 64) (e (a / 64))))
    (λ (m : a % 64 ≡ 0 → ⊥). live_odd u f cells a m)
    (cases_eq (a % 64) 0)

never : {A : Type 0} (t : Bool) → t ≡ true → t ≡ false → A
never t e g = absurd (let z : ◌≡◌ {A = Bool} true false = sym e ∙ g in let y : ◌≡◌ {A = ℕ} 0 1 = cc in let w : ⊥ = omega arith in w)

-- what a history says of the maps, and so of the offers
module _ (h : History) (u f : Map) (cells : ℕ)
    (used : (x : ℕ) → u x ≡ used_after h x) (first : (x : ℕ) → f x ≡ first_after h x) (live : (a : ℕ) → bitmap_live u f cells a ≡ length_at h a)
    (covered : (x : ℕ) → u x ≡ true → Covered (length_at h) (64 * x) 64) (begun : (x : ℕ) → f x ≡ true → 0 < length_at h (64 * x)) where
  -- the block that has a used cell
  record Holds (x : ℕ) : Type 0 where
    at : ℕ
    block : Lives u f cells at (bitmap_live u f cells at)
    from : block.cell ≤ x
    below : x < block.end

  holds : (x : ℕ) → u x ≡ true → Holds x
  holds x e =
      let c = covered x e in
      let cf = c.from in
      let ct = c.to in
      let l = live c.start in
      let v = lives u f cells c.start (omega arith) in
      let va = v.at in
      let vl = v.long in
      let vf = v.runs.from in
      record { at = c.start; block = v; from = omega arith; below = omega arith }

  sound : Sound u f cells
  sound = record {
    first = λ x e.
        let l = live (64 * x) in
        let b = begun x e in
        let v = lives u f cells (64 * x) (omega arith) in
        let va = v.at in
        let q : x ≡ v.cell = omega arith in
        ap u q ∙ starts_used u f cells v.cell v.starts;
    follows = λ x e g.
        let k = holds x e in
        let v = k.block in
        let kf = k.from in
        let kb = k.below in
        let less : v.cell < x = ⊎_elim (λ (q : x ≡ v.cell). never (f x) (ap f q ∙ starts_first u f cells v.cell v.starts) g) (λ (q : x ≡ v.cell → ⊥). omega arith) (cases_eq x v.cell) in
        (omega arith, lives_used u f cells k.at (bitmap_live u f cells k.at) v (x - 1) (omega arith) (omega arith));
    past = λ x l.
        ⊎_elim
        (λ (e : u x ≡ true). absurd (let k = holds x e in let kb = k.below in let kw = k.block.within in let z : ⊥ = omega arith in z))
        (λ (e : u x ≡ false). e)
        (cases_Bool (u x));
  }

  pub says : BitmapKept h u f cells
  says = record {
    used = used;
    first = first;
    live = live;
    covered = covered;
    covers = λ a x i.
        let lo = i.from in
        let hi = i.below in
        let l = live a in
        let v = lives u f cells a (omega arith) in
        let va = v.at in
        let vl = v.long in
        lives_used u f cells a (bitmap_live u f cells a) v x (omega arith) (omega arith);
    begun = begun;
    begins = λ x b.
        let l = live (64 * x) in
        let v = lives u f cells (64 * x) (omega arith) in
        let va = v.at in
        let q : x ≡ v.cell = omega arith in
        ap f q ∙ starts_first u f cells v.cell v.starts;
    sound = sound;
    offer = λ n s. ap (placed n (cells_for n)) (sound_lowest u f cells (cells_for n) sound (omega arith) ∙ ap (λ (z : Map). seek (suc cells) (free_run z cells (cells_for n)) 0) (fun_ext used));
  }

pub bitmap_begins : (xs : List ℕ) (u f : Map) → BitmapKeeps xs u f [] xs u f
bitmap_begins xs u f = record {
  long = refl;
  rest = λ x l. refl;
  kept = λ e g. says [] u f (cells_of (length xs)) e g (clear_live u f (cells_of (length xs)) e) (λ x t. never (u x) t (e x)) (λ x t. never (f x) t (g x));
}

-- The blocks that two maps tell of, and runs of free cells.
use Rattle.std.proofs.Common.{◌≡◌, ℕ, zero, suc, ◌+◌, ◌-◌, ◌*◌, ◌/◌, ◌%◌, ◌<◌, ◌≤◌, true, false, not, ◌&&◌, eqb, ltb, ◌⊎◌, sym, ap, ◌∙◌, subst, inl, inr, ⊎_elim, arith}
use Rattle.heap.specs.Meaning.{In}
use Rattle.std.proofs.lemmas.Bool.{both_ways, cond-true, cond-false, eq-eqb, ne_eqb, ltb-true, lt-ltb, le-ltb, cases_eq, cases_lt, cases_Bool, cases_order, and_parts, and_from, and_left, and_right, not-true, not_from_false, not_from_true}
use Rattle.bitmap.specs.Cells.{Map, starts, goes_on, follow, Runs, Back, cells_at, bitmap_live, Scanned}

le_or : (a b : ℕ) → (a ≤ b) ⊎ (b < a)
le_or a b = ⊎_elim (λ (l : b < a). inr l) (λ (l : a ≤ b). inl l) (cases_lt b a)

pub follow_runs : (n : ℕ) (c : Map) (i : ℕ) → ((x : ℕ) → i + n ≤ x → c x ≡ false) → Runs c i (i + follow n c i)
unfolding follow
follow_runs zero c i h = record { from = omega arith; all = λ x l m. absurd (let z : ⊥ = omega arith in z); stop = h (i + 0) (omega arith) }
follow_runs (suc n) c i h =
    let k = follow n c (i + 1) in
    ⊎_elim
    (λ (e : c i ≡ true).
    let r = follow_runs n c (i + 1) (λ x l. h x (omega arith)) in
    let s : follow (suc n) c i ≡ 1 + k = cond-true (c i) (1 + k) 0 e in
    subst (Runs c i) (let q : i + 1 + k ≡ i + follow (suc n) c i = omega arith in q) (record {
      from = omega arith;
      all = λ x l m. ⊎_elim (λ (q : x ≡ i). ap c q ∙ e) (λ (q : x ≡ i → ⊥). r.all x (omega arith) m) (cases_eq x i);
      stop = r.stop;
    }))
    (λ (e : c i ≡ false).
    let s : follow (suc n) c i ≡ 0 = cond-false (c i) (1 + k) 0 e in
    subst (Runs c i) (let q : i ≡ i + follow (suc n) c i = omega arith in q) (record { from = omega arith; all = λ x l m. absurd (let z : ⊥ = omega arith in z); stop = e }))
    (cases_Bool (c i))

pub runs_same : (c : Map) (i e d : ℕ) → Runs c i e → Runs c i d → e ≡ d
runs_same c i e d r s =
    ⊎_elim
    (λ (q : e ≡ d). q)
    (λ (q : (e < d) ⊎ (d < e)). absurd (⊎_elim
    (λ (l : e < d). both_ways (c e) r.stop (s.all e r.from l))
    (λ (l : d < e). both_ways (c d) s.stop (r.all d s.from l)) q))
    (cases_order e d)

module _ (u f : Map) (cells : ℕ) where
  pub starts_below : (i : ℕ) → starts u f cells i ≡ true → i < cells
  starts_below i e = ltb-true i cells (and_parts (ltb i cells) (u i && f i) e).0

  pub starts_used : (i : ℕ) → starts u f cells i ≡ true → u i ≡ true
  starts_used i e = (and_parts (u i) (f i) (and_parts (ltb i cells) (u i && f i) e).1).0

  pub starts_first : (i : ℕ) → starts u f cells i ≡ true → f i ≡ true
  starts_first i e = (and_parts (u i) (f i) (and_parts (ltb i cells) (u i && f i) e).1).1

  pub starts_yes : (i : ℕ) → i < cells → u i ≡ true → f i ≡ true → starts u f cells i ≡ true
  starts_yes i l e g = and_from (ltb i cells) (u i && f i) (lt-ltb i cells l) (and_from (u i) (f i) e g)

  pub starts_free : (i : ℕ) → u i ≡ false → starts u f cells i ≡ false
  starts_free i e = and_right (ltb i cells) (u i && f i) (and_left (u i) (f i) e)

  pub starts_inner : (i : ℕ) → f i ≡ false → starts u f cells i ≡ false
  starts_inner i e = and_right (ltb i cells) (u i && f i) (and_right (u i) (f i) e)

  pub on_used : (i : ℕ) → goes_on u f cells i ≡ true → u i ≡ true
  on_used i e = (and_parts (u i) (not (f i)) (and_parts (ltb i cells) (u i && not (f i)) e).1).0

  pub on_first : (i : ℕ) → goes_on u f cells i ≡ true → f i ≡ false
  on_first i e = not-true (f i) (and_parts (u i) (not (f i)) (and_parts (ltb i cells) (u i && not (f i)) e).1).1

  pub on_yes : (i : ℕ) → i < cells → u i ≡ true → f i ≡ false → goes_on u f cells i ≡ true
  on_yes i l e g = and_from (ltb i cells) (u i && not (f i)) (lt-ltb i cells l) (and_from (u i) (not (f i)) e (not_from_false (f i) g))

  pub on_past : (i : ℕ) → cells ≤ i → goes_on u f cells i ≡ false
  on_past i l = and_left (ltb i cells) (u i && not (f i)) (le-ltb i cells l)

  pub on_free : (i : ℕ) → u i ≡ false → goes_on u f cells i ≡ false
  on_free i e = and_right (ltb i cells) (u i && not (f i)) (and_left (u i) (not (f i)) e)

  pub on_begun : (i : ℕ) → f i ≡ true → goes_on u f cells i ≡ false
  on_begun i e = and_right (ltb i cells) (u i && not (f i)) (and_right (u i) (not (f i)) (not_from_true (f i) e))

  pub on_or_starts : (i : ℕ) → goes_on u f cells i ≡ true → starts u f cells i ≡ false
  on_or_starts i e = and_right (ltb i cells) (u i && f i) (and_right (u i) (f i) (on_first i e))

  -- a run of cells that go on ends by the last cell
  pub runs_below : (i e : ℕ) → i ≤ cells → Runs (goes_on u f cells) i e → e ≤ cells
  runs_below i e l r =
      ⊎_elim
      (λ (q : cells < e). absurd (both_ways (goes_on u f cells cells) (on_past cells (omega arith)) (r.all cells l q)))
      (λ (q : e ≤ cells). q)
      (cases_lt cells e)

  -- a live block: its first cell, and the cell behind it
  pub record Lives (a l : ℕ) : Type 0 where
    pub cell : ℕ
    pub end : ℕ
    pub at : a ≡ 64 * cell
    pub starts : starts u f cells cell ≡ true
    pub runs : Runs (goes_on u f cells) (cell + 1) end
    pub long : l ≡ 64 * (end - cell)
    pub within : end ≤ cells

  pub live_is : (p e : ℕ) → starts u f cells p ≡ true → Runs (goes_on u f cells) (p + 1) e → bitmap_live u f cells (64 * p) ≡ 64 * (e - p)
  live_is p e s r =
      let k = follow cells (goes_on u f cells) (p + 1) in
      let g : Runs (goes_on u f cells) (p + 1) (p + 1 + k) = follow_runs cells (goes_on u f cells) (p + 1) (λ x l. on_past x (omega arith)) in
      let q : e ≡ p + 1 + k = runs_same (goes_on u f cells) (p + 1) e (p + 1 + k) r g in
      let d : 64 * p / 64 ≡ p = omega arith in
      cond-true (eqb (64 * p % 64) 0) (64 * cells_at u f cells (64 * p / 64)) 0 (eq-eqb (64 * p % 64) 0 (omega arith))
      ∙ ap (λ (z : ℕ). 64 * cells_at u f cells z) d
      ∙ ap (λ (z : ℕ). 64 * z) (cond-true (starts u f cells p) (1 + k) 0 s)
      ∙ (let z : 64 * (1 + k) ≡ 64 * (e - p) = omega arith in z)

  pub live_none : (p : ℕ) → starts u f cells p ≡ false → bitmap_live u f cells (64 * p) ≡ 0
  live_none p s =
      let k = follow cells (goes_on u f cells) (p + 1) in
      let d : 64 * p / 64 ≡ p = omega arith in
      cond-true (eqb (64 * p % 64) 0) (64 * cells_at u f cells (64 * p / 64)) 0 (eq-eqb (64 * p % 64) 0 (omega arith))
      ∙ ap (λ (z : ℕ). 64 * cells_at u f cells z) d
      ∙ ap (λ (z : ℕ). 64 * z) (cond-false (starts u f cells p) (1 + k) 0 s)

  pub live_odd : (a : ℕ) → (a % 64 ≡ 0 → ⊥) → bitmap_live u f cells a ≡ 0
  live_odd a n = cond-false (eqb (a % 64) 0) (64 * cells_at u f cells (a / 64)) 0 (ne_eqb (a % 64) 0 n)

  pub lives : (a : ℕ) → 0 < bitmap_live u f cells a → Lives a (bitmap_live u f cells a)
  lives a h =
      ⊎_elim
      (λ (m : a % 64 ≡ 0).
      let p = a / 64 in
      let at : a ≡ 64 * p = omega arith in
      ⊎_elim
      (λ (s : starts u f cells p ≡ true).
      let k = follow cells (goes_on u f cells) (p + 1) in
      let g : Runs (goes_on u f cells) (p + 1) (p + 1 + k) = follow_runs cells (goes_on u f cells) (p + 1) (λ x l. on_past x (omega arith)) in
      let b = starts_below p s in
      record { cell = p; end = p + 1 + k; at = at; starts = s; runs = g; long = ap (bitmap_live u f cells) at ∙ live_is p (p + 1 + k) s g; within = runs_below (p + 1) (p + 1 + k) (omega arith) g })
      (λ (s : starts u f cells p ≡ false). absurd (let z = ap (bitmap_live u f cells) at ∙ live_none p s in let w : ⊥ = omega arith in w))
      (cases_Bool (starts u f cells p)))
      (λ (m : a % 64 ≡ 0 → ⊥). absurd (let z = live_odd a m in let w : ⊥ = omega arith in w))
      (cases_eq (a % 64) 0)

  -- every cell of a live block is used
  pub lives_used : (a l : ℕ) (b : Lives a l) (x : ℕ) → b.cell ≤ x → x < b.end → u x ≡ true
  lives_used a l b x h m =
      ⊎_elim (λ (q : x ≡ b.cell). ap u q ∙ starts_used b.cell b.starts) (λ (q : x ≡ b.cell → ⊥). on_used x (b.runs.all x (omega arith) m)) (cases_eq x b.cell)

  -- find
  pub found_block : (a p e : ℕ) → Back (goes_on u f cells) (a / 64) p → starts u f cells p ≡ true → Runs (goes_on u f cells) (p + 1) e → (bitmap_live u f cells (64 * p) ≡ 64 * (e - p)) × In (64 * p) (64 * (e - p)) a
  found_block a p e b s r =
      let from = b.from in
      let more : a / 64 < e =
      ⊎_elim
      (λ (q : a / 64 < e). q)
      (λ (q : e ≤ a / 64). let i = r.from in absurd (both_ways (goes_on u f cells e) r.stop (b.all e (omega arith) q)))
      (cases_lt (a / 64) e) in
      (live_is p e s r, record { from = omega arith; below = omega arith })

  pub found_none : (a p : ℕ) → Back (goes_on u f cells) (a / 64) p → starts u f cells p ≡ false → (b : ℕ) → In b (bitmap_live u f cells b) a → ⊥
  found_none a p k s b i =
      let lo = i.from in
      let hi = i.below in
      let v = lives b (omega arith) in
      let at = v.at in
      let long = v.long in
      let c = v.cell in
      let e = v.end in
      let c-low : c ≤ a / 64 = omega arith in
      let c-high : a / 64 < e = omega arith in
      ⊎_elim
      (λ (q : p ≡ c). both_ways (starts u f cells c) (ap (starts u f cells) (sym q) ∙ s) v.starts)
      (λ (q : (p < c) ⊎ (c < p)). ⊎_elim
      (λ (l : p < c). both_ways (starts u f cells c) (on_or_starts c (k.all c l c-low)) v.starts)
      (λ (l : c < p). let kf = k.from in both_ways (goes_on u f cells p) (k.stop (omega arith)) (v.runs.all p (omega arith) (omega arith)))
      q)
      (cases_order p c)

  -- a search
  module _ (w i run r : ℕ) (s : Scanned u f cells w i run) (yes : u i ≡ true → r ≡ 0) (none : u i ≡ false → r ≡ run + 1) where
    now_free : (x : ℕ) → i + 1 ≤ x + r → x < i + 1 → u x ≡ false
    now_free x l m =
        let most = s.most in
        ⊎_elim
        (λ (e : u i ≡ true). absurd (let z = yes e in let y : ⊥ = omega arith in y))
        (λ (e : u i ≡ false). let z = none e in ⊎_elim (λ (q : x ≡ i). ap u q ∙ e) (λ (q : x ≡ i → ⊥). s.free x (omega arith) (omega arith)) (cases_eq x i))
        (cases_Bool (u i))

    now_most : r ≤ i + 1
    now_most = let most = s.most in ⊎_elim (λ (e : u i ≡ true). let z = yes e in omega arith) (λ (e : u i ≡ false). let z = none e in omega arith) (cases_Bool (u i))

    now_before : (x : ℕ) → x + r + 1 ≡ i + 1 → u x ≡ true
    now_before x l = ⊎_elim (λ (e : u i ≡ true). let z = yes e in let q : x ≡ i = omega arith in ap u q ∙ e) (λ (e : u i ≡ false). let z = none e in s.before x (omega arith)) (cases_Bool (u i))

    pub scanned_more : (w ≤ r → goes_on u f cells (i + 1) ≡ true) → Scanned u f cells w (i + 1) r
    scanned_more on = record {
      most = now_most;
      free = now_free;
      before = now_before;
      none = λ j l k.
          ⊎_elim
          (λ (q : j + w ≤ i). s.none j q k)
          (λ (q : i < j + w).
          let at : j + w ≡ i + 1 = omega arith in
          ⊎_elim
          (λ (m : w ≤ r). both_ways (goes_on u f cells (i + 1)) (subst (λ (z : ℕ). goes_on u f cells z ≡ false) at k.end) (on m))
          (λ (m : r < w). let x = i - r in let y : r ≤ i = omega arith in both_ways (u x) (k.free x (omega arith) (omega arith)) (now_before x (omega arith)))
          (le_or w r))
          (le_or (j + w) i);
    }

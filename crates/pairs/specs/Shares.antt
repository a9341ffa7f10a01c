-- Functions of two heaps' addresses side by side, and where the blocks of a pair lie.
use Rattle.std.specs.Prelude.{◌≡◌, ℕ, ◌+◌, ◌-◌, ◌<◌, ◌≤◌, Bool, true, false, cond, None, ◌==◌, nat_lt}
use Rattle.std.proofs.Common.{sym, ◌∙◌, ap, subst, ⊎_elim, arith}
use Rattle.heap.specs.Meaning.{In, Covered, Finds}
use Rattle.pairs.specs.Pairs.{side_by_side}
use Rattle.std.proofs.lemmas.Bool.{cond-true, cond-false, lt-ltb, le-ltb, ne_eqb, both_ways, cases_eq, cases_lt, cases_Bool}

module _ (s : ℕ) (o : Bool) (f g : ℕ → ℕ) where
  -- in the first's share
  pub low : (x : ℕ) → x < s → side_by_side s o f g x ≡ f x
  low x h = cond-true (nat_lt x s) (f x) (cond o (g (x - s)) 0) (lt-ltb x s h)

  -- from the first's span on
  pub beyond : (x : ℕ) → s ≤ x → side_by_side s o f g x ≡ cond o (g (x - s)) 0
  beyond x h = cond-false (nat_lt x s) (f x) (cond o (g (x - s)) 0) (le-ltb x s h)

  -- in the second's share, where it is open
  pub high : (x : ℕ) → s ≤ x → o ≡ true → side_by_side s o f g x ≡ g (x - s)
  high x h e = beyond x h ∙ cond-true o (g (x - s)) 0 e

  pub shut : (x : ℕ) → s ≤ x → o ≡ false → side_by_side s o f g x ≡ 0
  shut x h e = beyond x h ∙ cond-false o (g (x - s)) 0 e

  -- a block of the pair is one of the first or one of the second
  pub by_share : (C : Type 0) (a : ℕ) → 0 < side_by_side s o f g a → (a < s → side_by_side s o f g a ≡ f a → C) → (s ≤ a → o ≡ true → side_by_side s o f g a ≡ g (a - s) → C) → C
  by_share C a h first second =
      ⊎_elim
      (λ (l : a < s). first l (low a l))
      (λ (l : s ≤ a). ⊎_elim (λ (e : o ≡ true). second l e (high a l e)) (λ (e : o ≡ false). absurd (let z = shut a l e in let q : ⊥ = omega arith in q)) (cases_Bool o))
      (cases_lt a s)

  -- Of a first heap whose blocks lie below s.
  module _ (bound : (b : ℕ) → 0 < f b → b + f b ≤ s) where
    -- so is an address in a block
    pub in_share : (C : Type 0) (a x : ℕ) → In a (side_by_side s o f g a) x → (x < s → In a (f a) x → C) → (s ≤ x → o ≡ true → In (a - s) (g (a - s)) (x - s) → C) → C
    in_share C a x i first second =
        let lo = i.from in
        let hi = i.below in
        by_share C a (omega arith)
        (λ l e. let t = bound a (omega arith) in first (omega arith) (record { from = lo; below = omega arith }))
        (λ l p e. second (omega arith) p (record { from = omega arith; below = omega arith }))

    pub covered_high : (a c : ℕ) → s ≤ a → o ≡ true → Covered (side_by_side s o f g) a c → Covered g (a - s) c
    covered_high a c l p k =
        let kf = k.from in
        let kt = k.to in
        ⊎_elim
        (λ (z : c ≡ 0). record { start = a - s; from = omega arith; to = omega arith })
        (λ (z : c ≡ 0 → ⊥).
        by_share (Covered g (a - s) c) k.start (omega arith)
        (λ q e. absurd (let t = bound k.start (omega arith) in let y : ⊥ = omega arith in y))
        (λ q _ e. record { start = k.start - s; from = omega arith; to = omega arith }))
        (cases_eq c 0)

    pub covered_shut : (a c : ℕ) → s ≤ a → o ≡ false → 0 < c → Covered (side_by_side s o f g) a c → ⊥
    covered_shut a c l p z k =
        let kf = k.from in
        let kt = k.to in
        by_share ⊥ k.start (omega arith) (λ q e. let t = bound k.start (omega arith) in omega arith) (λ q e _. both_ways o p e)

    pub finds_none : (a : ℕ) → s ≤ a → o ≡ true → Finds g (a - s) None → Finds (side_by_side s o f g) a None
    finds_none a l p none = λ b i. in_share ⊥ b a i (λ q _. omega arith) (λ _ _ j. none (b - s) j)

    pub finds_shut : (a : ℕ) → s ≤ a → o ≡ false → Finds (side_by_side s o f g) a None
    finds_shut a l p = λ b i. in_share ⊥ b a i (λ q _. omega arith) (λ _ e _. both_ways o p e)

  pub covered_low : (a c : ℕ) → a < s → Covered (side_by_side s o f g) a c → Covered f a c
  covered_low a c l k = let kf = k.from in let kt = k.to in let e = low k.start (omega arith) in record { start = k.start; from = kf; to = omega arith }

  pub low_covered : (a c : ℕ) → a < s → Covered f a c → Covered (side_by_side s o f g) a c
  low_covered a c l k = let kf = k.from in let kt = k.to in let e = low k.start (omega arith) in record { start = k.start; from = kf; to = omega arith }

  -- the second's block at b, where the pair shows it
  pub at_second : (b : ℕ) → o ≡ true → side_by_side s o f g (s + b) ≡ g b
  at_second b p = high (s + b) (omega arith) p ∙ ap g (let e : s + b - s ≡ b = omega arith in e)

  pub high_covered : (a c : ℕ) → s ≤ a → o ≡ true → Covered g (a - s) c → Covered (side_by_side s o f g) a c
  high_covered a c l p k = let kf = k.from in let kt = k.to in let e = at_second k.start p in record { start = s + k.start; from = omega arith; to = omega arith }

-- What changes, of a first heap's function f to f' and a second's g to g', as the span and the openness stay.
module _ (s s' : ℕ) (o o' : Bool) (es : s' ≡ s) (eo : o' ≡ o) (f f' g g' : ℕ → ℕ) where
  pub side_same : ((x : ℕ) → f' x ≡ f x) → ((x : ℕ) → g' x ≡ g x) → (x : ℕ) → side_by_side s' o' f' g' x ≡ side_by_side s o f g x
  side_same p q x = let u = p x in let v = q (x - s) in cc

  pub set_low : (a c : ℕ) → a < s → ((x : ℕ) → f' x ≡ cond (x == a) c (f x)) → ((x : ℕ) → g' x ≡ g x) → (x : ℕ) → side_by_side s' o' f' g' x ≡ cond (x == a) c (side_by_side s o f g x)
  set_low a c l p q x =
      ⊎_elim
      (λ (h : x < s). low s' o' f' g' x (omega arith) ∙ p x ∙ ap (cond (x == a) c) (sym (low s o f g x h)))
      (λ (h : s ≤ x).
      let v : g' (x - s) ≡ g (x - s) = q (x - s) in
      let u : cond o' (g' (x - s')) 0 ≡ cond o (g (x - s)) 0 = cc in
      beyond s' o' f' g' x (omega arith) ∙ u ∙ sym (beyond s o f g x h) ∙ sym (cond-false (x == a) c (side_by_side s o f g x) (ne_eqb x a (λ z. omega arith))))
      (cases_lt x s)

-- Bytes y and z that stay where P holds in the blocks f and g of the two heaps stay there in the pair's.
pub frame : (s s' : ℕ) (o o' : Bool) (P : ℕ → Type 0) (f g y y' z z' : ℕ → ℕ) → s' ≡ s → o' ≡ o → ((b : ℕ) → 0 < f b → b + f b ≤ s)
    → ((b x : ℕ) → In b (f b) x → P x → y' x ≡ y x) → ((b x : ℕ) → In b (g b) x → P (s + x) → z' x ≡ z x)
    → (b x : ℕ) → In b (side_by_side s o f g b) x → P x → side_by_side s' o' y' z' x ≡ side_by_side s o y z x
frame s s' o o' P f g y y' z z' es eo bound first second b x i p =
    in_share s o f g bound (side_by_side s' o' y' z' x ≡ side_by_side s o y z x) b x i
    (λ l j. low s' o' y' z' x (omega arith) ∙ first b x j p ∙ sym (low s o y z x l))
    (λ l e j.
    let d : x - s' ≡ x - s = omega arith in
    high s' o' y' z' x (omega arith) (eo ∙ e) ∙ ap z' d ∙ second (b - s) (x - s) j (subst P (let u : x ≡ s + (x - s) = omega arith in u) p) ∙ sym (high s o y z x l e))

-- The book and the live blocks agree after each accepted call.
use Rattle.std.proofs.Common.{◌≡◌, ℕ, ◌+◌, ◌<◌, ◌≤◌, cond, eqb, ◌⊎◌, [], ◌∷◌, Ok, Err, Result, sym, ap, ◌∙◌, subst, inl, inr, ⊎_elim, arith}
use Rattle.heap.specs.declared.fault.Fault.{Fault}
use Rattle.heap.specs.Meaning.{Meaning, Block, Lawful, In, Sits, Apart, Stays, Granted, Freed, Filled, Allocates, Frees, Fills, NothingLive}
use Rattle.heap.specs.Histories.{History, granted, freed, filled, relieved, Booked, length_at, byte_at, over, after_allocate, after_free, after_fill}
use Rattle.heap.specs.Runs.{Upheld}
use Rattle.std.proofs.lemmas.Bool.{cond-false, ne_eqb, cases_eq, cases_lt}

pub over_in : (a c x v w : ℕ) → In a c x → over a c x v w ≡ v
over_in a c x v w i = let p = i.from in let q = i.below in grind arith

pub over_out : (a c x v w : ℕ) → (x < a) ⊎ (a + c ≤ x) → over a c x v w ≡ w
over_out a c x v w (inl h) = grind arith
over_out a c x v w (inr h) = grind arith

-- an address is in a block, before it or past it
pub place : (a c x : ℕ) → In a c x ⊎ ((x < a) ⊎ (a + c ≤ x))
place a c x =
    ⊎_elim (λ (p : x < a). inr (inl p))
    (λ (p : a ≤ x). ⊎_elim (λ (q : x < a + c). inl (record { from = p; below = q })) (λ (q : a + c ≤ x). inr (inr q)) (cases_lt x (a + c)))
    (cases_lt x a)

pub outside : (a c x : ℕ) → (x < a) ⊎ (a + c ≤ x) → In a c x → ⊥
outside a c x (inl h) i = let p = i.from in omega arith
outside a c x (inr h) i = let p = i.below in omega arith

-- an address in a block that is apart from another is outside the other
pub apart_out : (b d a c x : ℕ) → Apart (b, d) (a, c) → In a c x → (x < b) ⊎ (b + d ≤ x)
apart_out b d a c x (inl h) i = let p = i.from in inr (omega arith)
apart_out b d a c x (inr h) i = let p = i.below in inl (omega arith)

pub booked_stays : (h : History) (m m' : Meaning) → Stays m m' → Booked h m → Booked h m'
booked_stays h m m' s k = record {
  live = λ a. s.live a ∙ k.live a;
  long = k.long;
  byte = λ a x i. s.byte a x (subst (λ (n : ℕ). In a n x) (sym (k.live a)) i) ∙ k.byte a x i;
}

pub booked_relieved : (h : History) (m m' : Meaning) → Stays m m' → Booked h m → Booked (relieved ∷ h) m'
booked_relieved h m m' s k = let q = booked_stays h m m' s k in record { live = q.live; long = q.long; byte = q.byte }

pub booked_granted : (h : History) (n : ℕ) (b : Block) (m m' : Meaning) → Lawful m → m.offer n ≡ Ok b → Granted b.0 b.1 m m' → Booked h m → Booked (granted n b.0 b.1 ∷ h) m'
booked_granted h n b m m' w e s k = record {
  live = λ a. s.live a ∙ ap (λ (q : ℕ). cond (eqb a b.0) b.1 q) (k.live a);
  long = λ a. let o = w.enough n b e in let l = k.long a in grind arith;
  byte = λ a x i.
      ⊎_elim
      (λ (p : In b.0 b.1 x). s.clear x p ∙ sym (over_in b.0 b.1 x 0 (byte_at h x) p))
      (λ (p : (x < b.0) ⊎ (b.0 + b.1 ≤ x)).
      ⊎_elim
      (λ (q : a ≡ b.0). absurd (outside b.0 b.1 x p (let f = i.from in let t = i.below in let u : length_at (granted n b.0 b.1 ∷ h) a ≡ b.1 = grind arith in record { from = omega arith; below = omega arith })))
      (λ (q : a ≡ b.0 → ⊥).
      let u : length_at (granted n b.0 b.1 ∷ h) a ≡ length_at h a = cond-false (eqb a b.0) b.1 (length_at h a) (ne_eqb a b.0 q) in
      let j : In a (length_at h a) x = subst (λ (z : ℕ). In a z x) u i in
      s.byte a x (subst (λ (z : ℕ). In a z x) (sym (k.live a)) j) ∙ k.byte a x j ∙ sym (over_out b.0 b.1 x 0 (byte_at h x) p))
      (cases_eq a b.0))
      (place b.0 b.1 x);
}

pub booked_freed : (h : History) (b : ℕ) (m m' : Meaning) → Freed b m m' → Booked h m → Booked (freed b ∷ h) m'
booked_freed h b m m' s k = record {
  live = λ a. s.live a ∙ ap (λ (q : ℕ). cond (eqb a b) 0 q) (k.live a);
  long = λ a. let l = k.long a in grind arith;
  byte = λ a x i.
      ⊎_elim
      (λ (q : a ≡ b). absurd (let f = i.from in let t = i.below in let u : length_at (freed b ∷ h) a ≡ 0 = grind arith in let z : ⊥ = omega arith in z))
      (λ (q : a ≡ b → ⊥).
      let u : length_at (freed b ∷ h) a ≡ length_at h a = cond-false (eqb a b) 0 (length_at h a) (ne_eqb a b q) in
      let j : In a (length_at h a) x = subst (λ (z : ℕ). In a z x) u i in
      let live' : m'.live a ≡ length_at (freed b ∷ h) a = s.live a ∙ ap (λ (z : ℕ). cond (eqb a b) 0 z) (k.live a) in
      s.byte a x (subst (λ (z : ℕ). In a z x) (sym live') i) ∙ k.byte a x j)
      (cases_eq a b);
}

pub booked_filled : (h : History) (b c v : ℕ) (m m' : Meaning) → Filled b c v m m' → Booked h m → Booked (filled b c v ∷ h) m'
booked_filled h b c v m m' s k = record {
  live = λ a. s.live a ∙ k.live a;
  long = k.long;
  byte = λ a x i.
      ⊎_elim
      (λ (p : In b c x). s.set x p ∙ sym (over_in b c x v (byte_at h x) p))
      (λ (p : (x < b) ⊎ (b + c ≤ x)).
      s.byte a x (subst (λ (z : ℕ). In a z x) (sym (k.live a)) i) (outside b c x p) ∙ k.byte a x i ∙ sym (over_out b c x v (byte_at h x) p))
      (place b c x);
}

pub booked_allocate : (h : History) (n : ℕ) (r : Result Block Fault) (m m' : Meaning) → Lawful m → r ≡ m.offer n → Allocates m m' r → Booked h m → Booked (after_allocate n r h) m'
booked_allocate h n (Ok b) m m' w e s k = booked_granted h n b m m' w (sym e) s k
booked_allocate h n (Err f) m m' w e s k = booked_stays h m m' s.0 k

pub booked_free : (h : History) (a : ℕ) (r : Result (Unit {0}) Fault) (m m' : Meaning) → Frees a m m' r → Booked h m → Booked (after_free a r h) m'
booked_free h a (Ok t) m m' s k = booked_freed h a m m' s k
booked_free h a (Err f) m m' s k = booked_stays h m m' s.0 k

pub booked_fill : (h : History) (a c v : ℕ) (r : Result (Unit {0}) Fault) (m m' : Meaning) → Fills a c v m m' r → Booked h m → Booked (after_fill a c v r h) m'
booked_fill h a c v (Ok t) m m' s k = booked_filled h a c v m m' s k
booked_fill h a c v (Err f) m m' s k = booked_stays h m m' s.0 k

-- what the rules say of live blocks they say of the book's
pub upheld : (h : History) (m : Meaning) → Lawful m → Booked h m → Upheld h m
upheld h m w k =
    let sits : (a : ℕ) → 0 < length_at h a → Sits m.span (a, length_at h a) = λ a p.
    let e = k.live a in
    let q : 0 < m.live a = omega arith in
    subst (λ (z : ℕ). Sits m.span (a, z)) e (w.sits a q) in
    record {
      live = k.live;
      aligned = λ a p. (sits a p).address;
      eighths = λ a p. (sits a p).length;
      within = λ a p. (sits a p).within;
      long = k.long;
      apart = λ a b p l q.
          let ea = k.live a in
          let eb = k.live b in
          let la : 0 < m.live a = omega arith in
          let lb : 0 < m.live b = omega arith in
          let z = w.apart a b la l lb in
          omega arith;
      byte = k.byte;
    }

pub booked_none : (m : Meaning) → NothingLive m → Booked [] m
booked_none m z = record { live = z; long = λ a. omega arith; byte = λ a x i. let f = i.from in let b = i.below in absurd (let w : ⊥ = omega arith in w) }

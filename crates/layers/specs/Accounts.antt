-- The account of a quota: sums over live lengths, as blocks come and go.
use Rattle.std.specs.Prelude.{◌≡◌, ℕ, zero, suc, ◌+◌, ◌-◌, ◌<◌, ◌≤◌, cond, ◌==◌, ◌≢◌, refl}
use Rattle.std.proofs.Common.{sym, ◌∙◌, ap, ⊎_elim, arith}
use Rattle.heap.specs.Meaning.{Meaning, Lawful, Stays, Granted, Freed, NothingLive}
use Rattle.layers.specs.Quotas.{Paid, sum_below}
use Rattle.std.proofs.lemmas.Bool.{cond-true, cond-false, eq-eqb, ne_eqb, cases_eq}

pub sum_same : (f g : ℕ → ℕ) (n : ℕ) → ((a : ℕ) → a < n → g a ≡ f a) → sum_below g n ≡ sum_below f n
sum_same f g zero e = refl
sum_same f g (suc n) e = let i = sum_same f g n (λ a h. e a (omega arith)) in let j = e n (omega arith) in omega arith

pub sum_none : (f : ℕ → ℕ) (n : ℕ) → ((a : ℕ) → f a ≡ 0) → sum_below f n ≡ 0
sum_none f zero e = refl
sum_none f (suc n) e = let i = sum_none f n e in let j = e n in omega arith

at_other : (f g : ℕ → ℕ) (a c : ℕ) → ((x : ℕ) → g x ≡ cond (x == a) c (f x)) → (x : ℕ) → (x ≢ a) → g x ≡ f x
at_other f g a c e x ne = e x ∙ cond-false (x == a) c (f x) (ne_eqb x a ne)

at_it : (f g : ℕ → ℕ) (a c : ℕ) → ((x : ℕ) → g x ≡ cond (x == a) c (f x)) → g a ≡ c
at_it f g a c e = e a ∙ cond-true (a == a) c (f a) (eq-eqb a a refl)

-- the sum after f changed at a alone, below n
pub sum_set : (f g : ℕ → ℕ) (a c n : ℕ) → ((x : ℕ) → g x ≡ cond (x == a) c (f x)) → a < n → sum_below g n + f a ≡ sum_below f n + c
sum_set f g a c zero e h = omega arith
sum_set f g a c (suc n) e h =
    ⊎_elim
    (λ (q : n ≡ a).
    let same : sum_below g n ≡ sum_below f n = sum_same f g n (λ x l. at_other f g a c e x (omega arith)) in
    let new : g n ≡ c = ap g q ∙ at_it f g a c e in
    let old : f n ≡ f a = ap f q in
    omega arith)
    (λ (q : n ≡ a → ⊥).
    let rest : sum_below g n + f a ≡ sum_below f n + c = sum_set f g a c n e (omega arith) in
    let here : g n ≡ f n = at_other f g a c e n q in
    omega arith)
    (cases_eq n a)

pub stays_paid_live : (l acc : ℕ) (m m' : Meaning) → m'.span ≡ m.span → ((a : ℕ) → m'.live a ≡ m.live a) → Paid l acc m → Paid l acc m'
stays_paid_live l acc m m' es el p = record { all = p.all ∙ sym (ap (sum_below m'.live) es ∙ sum_same m.live m'.live m.span (λ a _. el a)); within = p.within }

pub stays_paid : (l acc : ℕ) (m m' : Meaning) → Stays m m' → Paid l acc m → Paid l acc m'
stays_paid l acc m m' s p = stays_paid_live l acc m m' s.span s.live p

pub granted_paid : (l acc c : ℕ) (m m' : Meaning) (a : ℕ) → Granted a c m m' → m.live a ≡ 0 → a < m.span → acc + c ≤ l → Paid l acc m → Paid l (acc + c) m'
granted_paid l acc c m m' a s z h k p =
    let e : sum_below m'.live m.span + m.live a ≡ sum_below m.live m.span + c = sum_set m.live m'.live a c m.span s.live h in
    let t : sum_below m'.live m'.span ≡ sum_below m'.live m.span = ap (sum_below m'.live) s.span in
    let q = p.all in
    record { all = omega arith; within = k }

pub freed_paid : (l acc : ℕ) (m m' : Meaning) (a : ℕ) → Lawful m → 0 < m.live a → Freed a m m' → Paid l acc m → Paid l (acc - m.live a) m'
freed_paid l acc m m' a w was s p =
    let sits = w.sits a was in
    let within = sits.within in
    let some = sits.some in
    let h : a < m.span = omega arith in
    let e : sum_below m'.live m.span + m.live a ≡ sum_below m.live m.span + 0 = sum_set m.live m'.live a 0 m.span s.live h in
    let t : sum_below m'.live m'.span ≡ sum_below m'.live m.span = ap (sum_below m'.live) s.span in
    let q = p.all in
    let k = p.within in
    record { all = omega arith; within = omega arith }

pub none_paid : (l : ℕ) (m : Meaning) → NothingLive m → Paid l 0 m
none_paid l m z = record { all = sym (sum_none m.live m.span z); within = omega arith }

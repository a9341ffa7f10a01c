-- What the laws of a heap say of its live blocks.
use Rattle.std.proofs.Common.{◌≡◌, ℕ, ◌+◌, ◌<◌, ◌≤◌, ◌⊎◌, ◌∷◌, Ok, Err, Result, refl, ⊎_elim, arith}
use Rattle.heap.specs.declared.fault.Fault.{Fault}
use Rattle.heap.specs.declared.fault.Kind.{Kind}
use Rattle.heap.specs.declared.fault.Cause.TheVariants.{Zero, Outside}
use Rattle.heap.specs.Faults.{raised}
use Rattle.heap.specs.Meaning.{Meaning, Block, Lawful, In, Covered, Same, MayFill, Fills, Filled}
use Rattle.heap.specs.Histories.{History, filled, after_fill}
use Rattle.std.proofs.lemmas.Bool.{cases_lt}

-- two live blocks that share an address are one
pub same_start : (m : Meaning) → Lawful m → (a b x : ℕ) → In a (m.live a) x → In b (m.live b) x → a ≡ b
same_start m w a b x i j =
    let la = i.from in
    let lb = i.below in
    let ka = j.from in
    let kb = j.below in
    let pa : 0 < m.live a = omega arith in
    let pb : 0 < m.live b = omega arith in
    ⊎_elim
    (λ (q : a < b). let z = w.apart a b pa q pb in omega arith)
    (λ (q : b ≤ a). ⊎_elim (λ (r : b < a). let z = w.apart b a pb r pa in omega arith) (λ (r : a ≤ b). omega arith) (cases_lt b a))
    (cases_lt a b)

pub starts_at : (m : Meaning) → Lawful m → (a : ℕ) → 0 < m.live a → (p q : ℕ) → m.live p ≡ q → In p q a → p ≡ a
starts_at m w a h p q e i = same_start m w p a a (record { from = i.from; below = let b = i.below in omega arith }) (record { from = omega arith; below = omega arith })

-- where no live block covers a, none begins there
pub none_at : (m : Meaning) (a : ℕ) → ((b : ℕ) → In b (m.live b) a → ⊥) → m.live a ≡ 0
none_at m a none =
    ⊎_elim
    (λ (q : 0 < m.live a). absurd (none a (record { from = omega arith; below = omega arith })))
    (λ (q : m.live a ≤ 0). omega arith)
    (cases_lt 0 (m.live a))

-- where another block covers a, none begins there
pub none_within : (m : Meaning) → Lawful m → (a p q : ℕ) → m.live p ≡ q → In p q a → (p ≡ a → ⊥) → m.live a ≡ 0
none_within m w a p q e i ne =
    ⊎_elim
    (λ (k : 0 < m.live a). absurd (ne (starts_at m w a k p q e i)))
    (λ (k : m.live a ≤ 0). omega arith)
    (cases_lt 0 (m.live a))

-- an offered address begins no live block
pub offered_free : (m : Meaning) (n : ℕ) (b : Block) → Lawful m → m.offer n ≡ Ok b → m.live b.0 ≡ 0
offered_free m n b w e =
    let some = (w.offered n b e).some in
    ⊎_elim
    (λ (q : 0 < m.live b.0). absurd (⊎_elim (λ (l : b.0 + b.1 ≤ b.0). let z : ⊥ = omega arith in z) (λ (l : b.0 + m.live b.0 ≤ b.0). let z : ⊥ = omega arith in z) (w.unused n b e b.0 q)))
    (λ (q : m.live b.0 ≤ 0). omega arith)
    (cases_lt 0 (m.live b.0))

pub offered_below : (m : Meaning) (n : ℕ) (b : Block) → Lawful m → m.offer n ≡ Ok b → b.0 < m.span
offered_below m n b w e = let s = w.offered n b e in let some = s.some in let within = s.within in omega arith

pub unchanged : (m : Meaning) → Same m m
unchanged m = (record { kind = refl; span = refl; live = λ a. refl; byte = λ a x i. refl }, λ n. refl)

-- a fill inside a live block is accepted
never_refused : {A : Type 0} (k : Kind) (live : ℕ → ℕ) (a c : ℕ) (f : Fault) → 0 < c → Covered live a c → ((c ≡ 0) × (f ≡ raised Zero k a)) ⊎ ((0 < c) × (Covered live a c → ⊥) × (f ≡ raised Outside k a)) → A
never_refused k live a c f z i q =
    absurd (⊎_elim (λ (y : (c ≡ 0) × (f ≡ raised Zero k a)). let e = y.0 in let w : ⊥ = omega arith in w) (λ (y : (0 < c) × (Covered live a c → ⊥) × (f ≡ raised Outside k a)). y.1 i) q)

pub surely_filled : (k : Kind) (live : ℕ → ℕ) (a c v : ℕ) (m m' : Meaning) (r : Result (Unit {0}) Fault) → 0 < c → Covered live a c → MayFill k live a c r → Fills a c v m m' r → Filled a c v m m'
surely_filled k live a c v m m' (Ok t) z i q s = s
surely_filled k live a c v m m' (Err f) z i q s = never_refused k live a c f z i q

pub surely_entered : (k : Kind) (live : ℕ → ℕ) (a c v : ℕ) (r : Result (Unit {0}) Fault) (h : History) → 0 < c → Covered live a c → MayFill k live a c r → after_fill a c v r h ≡ filled a c v ∷ h
surely_entered k live a c v (Ok t) h z i q = refl
surely_entered k live a c v (Err f) h z i q = never_refused k live a c f z i q

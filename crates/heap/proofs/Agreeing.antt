-- The rules of answers carried from the live blocks to a book with the same blocks.
use Rattle.std.proofs.Common.{◌≡◌, ℕ, ◌<◌, ◌≤◌, Some, None, Ok, Err, Option, Result, sym, ap, ◌∙◌, subst, inl, inr, ⊎_elim, arith}
use mathlib.Core.Logic.{∥∥₁_map, ∥∥₁_elim}
use Rattle.heap.specs.declared.fault.Fault.{Fault}
use Rattle.heap.specs.declared.fault.Kind.{Kind}
use Rattle.heap.specs.declared.fault.Cause.TheVariants.{Zero, TooLarge, Outside}
use Rattle.heap.specs.Faults.{raised}
use Rattle.heap.specs.Meaning.{Meaning, Block, Lawful, In, Covered, Apart, Finds, Gets, MayFree, MayFill, Allocates, Frees, Fills}
use Rattle.heap.specs.Histories.{History, Booked, length_at, byte_at}
use Rattle.heap.specs.Runs.{OfferFits}
use Rattle.std.proofs.lemmas.Bool.{cases_lt}
use native.Mathlib.Nat.{ℕ_set}

pub covered_as : (f g : ℕ → ℕ) (a c : ℕ) → ((x : ℕ) → f x ≡ g x) → Covered f a c → Covered g a c
covered_as f g a c e k = let z = e k.start in let t = k.to in record { start = k.start; from = k.from; to = omega arith }

pub finds_by : (f g : ℕ → ℕ) (a : ℕ) (r : Option Block) → ((x : ℕ) → f x ≡ g x) → Finds f a r → Finds g a r
finds_by f g a (Some b) e q = (sym (e b.0) ∙ q.0, q.1)
finds_by f g a None e q = λ b i. q b (subst (λ (z : ℕ). In b z a) (sym (e b)) i)

pub may_free : (k : Kind) (f g : ℕ → ℕ) (a : ℕ) (r : Result (Unit {0}) Fault) → ((x : ℕ) → f x ≡ g x) → MayFree k f a r → MayFree k g a r
may_free k f g a (Ok t) e q = let z = e a in omega arith
may_free k f g a (Err v) e q = (sym (e a) ∙ q.0, q.1)

pub may_fill : (k : Kind) (f g : ℕ → ℕ) (a c : ℕ) (r : Result (Unit {0}) Fault) → ((x : ℕ) → f x ≡ g x) → MayFill k f a c r → MayFill k g a c r
may_fill k f g a c (Ok t) e q = (q.0, ∥∥₁_map q.1 (covered_as f g a c e))
may_fill k f g a c (Err v) e q =
    ⊎_elim (λ (z : (c ≡ 0) × (v ≡ raised Zero k a)). inl z) (λ (z : (0 < c) × (Covered f a c → ⊥) × (v ≡ raised Outside k a)). inr (z.0, (λ i. z.1 (covered_as g f a c (λ x. sym (e x)) i)), z.2)) q

-- a covered byte is the book's
covered_byte : (h : History) (a : ℕ) (m : Meaning) → Booked h m → Covered m.live a 1 → m.byte a ≡ byte_at h a
covered_byte h a m k c =
    let e = k.live c.start in
    let t = c.to in
    k.byte c.start a (record { from = c.from; below = omega arith })

pub gets_by : (h : History) (a : ℕ) (r : Result ℕ Fault) (m : Meaning) → Booked h m → Gets m.kind m.live m.byte a r → Gets m.kind (length_at h) (byte_at h) a r
gets_by h a (Ok v) m k q = (∥∥₁_map q.0 (covered_as m.live (length_at h) a 1 k.live), q.1 ∙ ∥∥₁_elim q.0 (ℕ_set (m.byte a) (byte_at h a)) (covered_byte h a m k))
gets_by h a (Err f) m k q = ((λ c. q.0 (covered_as (length_at h) m.live a 1 (λ x. sym (k.live x)) c)), q.1)

pub offer_fits : (h : History) (n : ℕ) (r : Result Block Fault) (m : Meaning) → Lawful m → r ≡ m.offer n → Booked h m → OfferFits m.kind m.span h n r
offer_fits h n (Ok b) m w e k = (
  w.offered n b (sym e),
  ⊎_elim (λ (z : 0 < n). z) (λ (z : n ≤ 0). absurd (let q : n ≡ 0 = omega arith in let y : ◌≡◌ {A = Result Block Fault} (Ok b) (Err (raised Zero m.kind 0)) = e ∙ ap m.offer q ∙ w.zero in let y2 : ◌≡◌ {A = ℕ} 0 1 = cc in let y3 : ⊥ = omega arith in y3)) (cases_lt 0 n),
  w.enough n b (sym e),
  λ a p. let l = k.live a in subst (λ (z : ℕ). Apart b (a, z)) l (w.unused n b (sym e) a (omega arith)),
)
offer_fits h n (Err f) m w e k = (
  w.refused n f (sym e),
  λ z. let y : ◌≡◌ {A = Result Block Fault} (Err f) (Err (raised Zero m.kind 0)) = e ∙ ap m.offer z ∙ w.zero in cc,
  λ z. let y : ◌≡◌ {A = Result Block Fault} (Err f) (Err (raised TooLarge m.kind n)) = e ∙ w.large n z in cc,
)

-- no call changes the kind or the span
pub allocates_kind : (r : Result Block Fault) (m m' : Meaning) → Allocates m m' r → m'.kind ≡ m.kind
allocates_kind (Ok b) m m' s = s.kind
allocates_kind (Err f) m m' s = s.0.kind

pub allocates_span : (r : Result Block Fault) (m m' : Meaning) → Allocates m m' r → m'.span ≡ m.span
allocates_span (Ok b) m m' s = s.span
allocates_span (Err f) m m' s = s.0.span

pub frees_kind : (a : ℕ) (r : Result (Unit {0}) Fault) (m m' : Meaning) → Frees a m m' r → m'.kind ≡ m.kind
frees_kind a (Ok t) m m' s = s.kind
frees_kind a (Err f) m m' s = s.0.kind

pub frees_span : (a : ℕ) (r : Result (Unit {0}) Fault) (m m' : Meaning) → Frees a m m' r → m'.span ≡ m.span
frees_span a (Ok t) m m' s = s.span
frees_span a (Err f) m m' s = s.0.span

pub fills_kind : (a c v : ℕ) (r : Result (Unit {0}) Fault) (m m' : Meaning) → Fills a c v m m' r → m'.kind ≡ m.kind
fills_kind a c v (Ok t) m m' s = s.kind
fills_kind a c v (Err f) m m' s = s.0.kind

pub fills_span : (a c v : ℕ) (r : Result (Unit {0}) Fault) (m m' : Meaning) → Fills a c v m m' r → m'.span ≡ m.span
fills_span a c v (Ok t) m m' s = s.span
fills_span a c v (Err f) m m' s = s.0.span

-- What the tests of a call say of the live blocks.
use Rattle.std.proofs.Common.{◌≡◌, ℕ, ◌+◌, ◌<◌, true, false, eqb, Some, None, Ok, Err, Option, Result, sym, ap, ◌∙◌, inl, inr, ⊎_elim, arith}
use Rattle.heap.specs.declared.fault.Fault.{Fault}
use Rattle.heap.specs.declared.fault.Kind.{Kind}
use Rattle.heap.specs.declared.fault.Cause.TheVariants.{Outside}
use Rattle.heap.specs.Faults.{raised}
use Rattle.heap.specs.Meaning.{Meaning, Block, Lawful, Covered, Finds, MayFree, MayFill}
use Rattle.heap.specs.Checks.{begun, reached, checked_get, checked_free, checked_fill}
use Rattle.std.specs.Result.{IsErrAnd}
use Rattle.std.proofs.lemmas.Result.{err_from_is_err_and}
use Rattle.heap.proofs.Lawful.{same_start, none_at, none_within}
use Rattle.std.proofs.lemmas.Bool.{cond-true, cond-false, eq-eqb, ne_eqb, leb-true, leb-false, cases_eq}

-- what find told for a says whether a block begins there
pub begun_is : (m : Meaning) → Lawful m → (a : ℕ) (r : Option Block) → Finds m.live a r → m.live a ≡ begun r a
begun_is m w a (Some b) f =
    ⊎_elim
    (λ (q : b.0 ≡ a). ap m.live (sym q) ∙ f.0 ∙ sym (cond-true (eqb b.0 a) b.1 0 (eq-eqb b.0 a q)))
    (λ (q : b.0 ≡ a → ⊥). none_within m w a b.0 b.1 f.0 f.1 q ∙ sym (cond-false (eqb b.0 a) b.1 0 (ne_eqb b.0 a q)))
    (cases_eq b.0 a)
begun_is m w a None f = none_at m a f

-- and whether the c bytes from a on lie in one live block
pub reached_yes : (live : ℕ → ℕ) (a c : ℕ) (r : Option Block) → Finds live a r → reached r a c ≡ true → Covered live a c
reached_yes live a c (Some b) f e = let l = f.0 in let i = f.1.from in let t = leb-true (a + c) (b.0 + b.1) e in record { start = b.0; from = i; to = omega arith }
reached_yes live a c None f e = absurd (let z : ◌≡◌ {A = ℕ} 0 1 = cc in let w : ⊥ = omega arith in w)

pub reached_no : (m : Meaning) → Lawful m → (a c : ℕ) (r : Option Block) → 0 < c → Finds m.live a r → reached r a c ≡ false → Covered m.live a c → ⊥
reached_no m w a c (Some b) z f e k =
    let kf = k.from in
    let kt = k.to in
    let lo = f.1.from in
    let hi = f.1.below in
    let q = f.0 in
    let t = leb-false (a + c) (b.0 + b.1) e in
    let s : k.start ≡ b.0 = same_start m w k.start b.0 a (record { from = kf; below = omega arith }) (record { from = lo; below = omega arith }) in
    let l : m.live k.start ≡ b.1 = ap m.live s ∙ q in
    omega arith
reached_no m w a c None z f e k = let kf = k.from in let kt = k.to in f k.start (record { from = kf; below = omega arith })

-- a refused get, and an accepted one
pub record Got (k : Kind) (live : ℕ → ℕ) (a : ℕ) (r : Result (Unit {0}) Fault) : Type 0 where
  pub accepted : r ≡ Ok tt → Covered live a 1
  pub refused : (f : Fault) → r ≡ Err f → (Covered live a 1 → ⊥) × (f ≡ raised Outside k a)

module _ (k : Kind) (m : Meaning) (w : Lawful m) (a : ℕ) (found : Option Block) (f : Finds m.live a found) where
  pub get_checked : Got k m.live a (checked_get k found a)
  get_checked = record {
    accepted = λ e. reached_yes m.live a 1 found f (grind arith);
    refused = λ g e. ((λ c. reached_no m w a 1 found (omega arith) f (grind arith) c), grind arith);
  }

  pub free_checked : (r : Result (Unit {0}) Fault) → r ≡ checked_free k found a → MayFree k m.live a r
  free_checked (Ok t) e = let l = begun_is m w a found f in grind arith
  free_checked (Err g) e = let l = begun_is m w a found f in (grind arith, grind arith)

  -- the same of the fault that `?` hands on
  pub free_refused : (e : Fault) (r : Result (Unit {0}) Fault) → Err e ≡ checked_free k found a → IsErrAnd r (λ y. y ≡ e) → MayFree k m.live a r
  free_refused e r t i = let p = err_from_is_err_and r i in rw (p.1, p.2) (free_checked (Err e) t)

  pub fill_some : (c : ℕ) → checked_fill k found a c ≡ Ok tt → 0 < c
  fill_some c e = grind arith

  pub fill_covered : (c : ℕ) → checked_fill k found a c ≡ Ok tt → Covered m.live a c
  fill_covered c e = reached_yes m.live a c found f (grind arith)

  pub fill_checked : (c : ℕ) (r : Result (Unit {0}) Fault) → r ≡ checked_fill k found a c → MayFill k m.live a c r
  fill_checked c (Ok t) e = (fill_some c (sym e), ∣ fill_covered c (sym e) ∣₁)
  fill_checked c (Err g) e =
      ⊎_elim
      (λ (q : c ≡ 0). inl (q, grind arith))
      (λ (q : c ≡ 0 → ⊥). let some : 0 < c = omega arith in inr (some, (λ i. reached_no m w a c found some f (grind arith) i), grind arith))
      (cases_eq c 0)

  pub fill_refused : (c : ℕ) (e : Fault) (r : Result (Unit {0}) Fault) → Err e ≡ checked_fill k found a c → IsErrAnd r (λ y. y ≡ e) → MayFill k m.live a c r
  fill_refused c e r t i = let p = err_from_is_err_and r i in rw (p.1, p.2) (fill_checked c (Err e) t)

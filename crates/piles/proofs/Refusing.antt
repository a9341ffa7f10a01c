-- What is answered for a trace that no pile takes.
use Rattle.std.proofs.Common.{◌≡◌, ℕ, ◌<◌, ◌⊎◌, List, length, Ok, Err, Result, subst, inl, inr, arith}
use Rattle.heap.specs.declared.fault.Fault.{Fault}
use Rattle.trace.specs.declared.frame.Pile.{Pile}
use Rattle.trace.specs.Recordings.{Recording, recorded}
use Rattle.report.specs.Lines.{refusal_text, Writes}
use Rattle.piles.specs.Piles.{OnPile, one, two, three, Answers}

why : (trace out : List ℕ) (f : Fault) {A : Type 0} → (recorded trace ≡ Err f) ⊎ ((x : Recording) × (recorded trace ≡ Ok x) × (length out < 256) × A) → (recorded trace ≡ Err f) ⊎ (length out < 256)
why trace out f (inl e) = inl e
why trace out f (inr k) = inr k.2

-- on any pile, a refused trace has its own fault or finds the buffer too short, and the buffer is as it was
refused_on : (trace out out' : List ℕ) (f : Fault) (p : Pile) → OnPile trace out out' (Err f) p → ((recorded trace ≡ Err f) ⊎ (length out < 256)) × (out' ≡ out)
refused_on trace out out' f _ (one s s' fresh r) = (why trace out f r.0, r.2)
refused_on trace out out' f _ (two b fresh r) = (why trace out f r.replays.0, r.replays.2)
refused_on trace out out' f _ (three a b c fresh₁ fresh₂ fresh₃ r) = (why trace out f r.replays.0, r.replays.2)

pub refused : (trace out out' out'' : List ℕ) (f : Fault) (p : Pile) (r : Result ℕ Fault) → OnPile trace out out' (Err f) p → Writes (refusal_text f) out' out'' r → Answers trace out out'' r
refused trace out out' out'' f p r k w = by_cause r (refused_on trace out out' f p k).0 (subst (λ (z : List ℕ). Writes (refusal_text f) z out'' r) (refused_on trace out out' f p k).1 w)
  where
    by_cause : (r : Result ℕ Fault) → (recorded trace ≡ Err f) ⊎ (length out < 256) → Writes (refusal_text f) out out'' r → Answers trace out out'' r
    by_cause (Ok n) (inl e) w = inr (f, e, w)
    by_cause (Ok n) (inr l) w = absurd (let g = w.0 in let z : ⊥ = omega arith in z)
    by_cause (Err g) e w = w

-- Which heap of a pair a call reaches, and what the pair keeps then.
use Rattle.std.proofs.Common.{◌≡◌, ℕ, ◌-◌, ◌<◌, ◌≤◌, ltb, ◌∷◌, Ok, Err, Result, sym, refl, subst}
use Rattle.heap.specs.declared.fault.Fault.{Fault}
use Rattle.heap.specs.Faults.{up}
use Rattle.heap.specs.Meaning.{Meaning, Block}
use Rattle.heap.specs.Histories.{History, granted, filled, after_allocate, after_fill}
use Rattle.pairs.specs.declared.pair.Pair.{Pair}
use Rattle.pairs.specs.Pairs.{sent_first, sent_second}
use Rattle.pairs.specs.PairStates.{PairKeeps}
use Rattle.std.proofs.lemmas.Bool.{cond-true, cond-false, lt-ltb, le-ltb}

-- a fill for an address in the first's share
module _ (s a : ℕ) (l : a < s) (h : History) where
  pub fill_first : (c v : ℕ) (r : Result (Unit {0}) Fault) → sent_first s (after_fill a c v r h) ≡ after_fill a c v r (sent_first s h)
  fill_first c v (Ok t) = cond-true (ltb a s) (filled a c v ∷ sent_first s h) (sent_first s h) (lt-ltb a s l)
  fill_first c v (Err f) = refl

  pub fill_not_second : (c v : ℕ) (r : Result (Unit {0}) Fault) → sent_second s (after_fill a c v r h) ≡ sent_second s h
  fill_not_second c v (Ok t) = cond-true (ltb a s) (sent_second s h) (filled (a - s) c v ∷ sent_second s h) (lt-ltb a s l)
  fill_not_second c v (Err f) = refl

-- a fill for an address from the first's span on
module _ (s a : ℕ) (l : s ≤ a) (h : History) where
  pub fill_not_first : (c v : ℕ) (r : Result (Unit {0}) Fault) → sent_first s (after_fill a c v r h) ≡ sent_first s h
  fill_not_first c v (Ok t) = cond-false (ltb a s) (filled a c v ∷ sent_first s h) (sent_first s h) (le-ltb a s l)
  fill_not_first c v (Err f) = refl

  pub fill_second : (c v : ℕ) (r : Result (Unit {0}) Fault) → sent_second s (after_fill a c v r h) ≡ after_fill (a - s) c v r (sent_second s h)
  fill_second c v (Ok t) = cond-false (ltb a s) (sent_second s h) (filled (a - s) c v ∷ sent_second s h) (le-ltb a s l)
  fill_second c v (Err f) = refl

-- a grant of the first
module _ (s n : ℕ) (h : History) where
  pub grant_first : (r : Result Block Fault) → ((b : Block) → r ≡ Ok b → b.0 < s) → sent_first s (after_allocate n (up r) h) ≡ after_allocate n r (sent_first s h)
  grant_first (Ok b) l = cond-true (ltb b.0 s) (granted n b.0 b.1 ∷ sent_first s h) (sent_first s h) (lt-ltb b.0 s (l b refl))
  grant_first (Err f) l = refl

  pub grant_not_second : (r : Result Block Fault) → ((b : Block) → r ≡ Ok b → b.0 < s) → sent_second s (after_allocate n (up r) h) ≡ sent_second s h
  grant_not_second (Ok b) l = cond-true (ltb b.0 s) (sent_second s h) (granted n (b.0 - s) b.1 ∷ sent_second s h) (lt-ltb b.0 s (l b refl))
  grant_not_second (Err f) l = refl

-- what is kept, from what each heap keeps of the calls that reached it
pub keeps_both : {A B : Type 0} (means₁ : A → Meaning) (keeps₁ : A → History → A → Type 0) (keeps₂ : B → History → B → Type 0) (from : Pair A B) (s : Pair A B) (h q₁ q₂ : History)
    → (means₁ s.first).span ≡ (means₁ from.first).span
    → sent_first (means₁ from.first).span h ≡ q₁ → sent_second (means₁ from.first).span h ≡ q₂
    → keeps₁ from.first q₁ s.first → keeps₂ from.second q₂ s.second
    → PairKeeps means₁ keeps₁ keeps₂ from h s
keeps_both means₁ keeps₁ keeps₂ from s h q₁ q₂ e e₁ e₂ k₁ k₂ = record {
  span = e;
  first = subst (λ (q : History). keeps₁ from.first q s.first) (sym e₁) k₁;
  second = subst (λ (q : History). keeps₂ from.second q s.second) (sym e₂) k₂;
}

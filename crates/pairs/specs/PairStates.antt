-- What the values of a pair, a segregator and a fallback mean and keep, over their two heaps.
use Rattle.std.specs.Prelude.{◌≡◌}
use Rattle.pairs.specs.declared.pair.Pair.{Pair}
use Rattle.pairs.specs.declared.segregator.Segregator.{Segregator}
use Rattle.pairs.specs.declared.fallback.Fallback.{Fallback}
use Rattle.heap.specs.declared.fault.Kind.{Kind}
use Rattle.heap.specs.Meaning.{Meaning}
use Rattle.heap.specs.Histories.{History}
use Rattle.pairs.specs.Pairs.{Choice, paired, segregated, fallen_back, sent_first, sent_second}

-- what a pair means if it is of this kind and chooses so
abbrev pub pair_means : {A B : Type 0} → (A → Meaning) → (B → Meaning) → Kind → Choice → Pair A B → Meaning
pair_means means₁ means₂ k choose s = paired k choose (means₁ s.first) (means₂ s.second)

-- what a segregator means
abbrev pub segregator_means : {A B : Type 0} → (A → Meaning) → (B → Meaning) → Segregator A B → Meaning
segregator_means means₁ means₂ s = segregated s.threshold (means₁ s.pair.first) (means₂ s.pair.second)

-- what a fallback means
abbrev pub fallback_means : {A B : Type 0} → (A → Meaning) → (B → Meaning) → Fallback A B → Meaning
fallback_means means₁ means₂ s = fallen_back (means₁ s.pair.first) (means₂ s.pair.second)

-- what both kinds of pair keep
pub record PairKeeps {A B : Type 0} (means₁ : A → Meaning) (keeps₁ : A → History → A → Type 0) (keeps₂ : B → History → B → Type 0) (from : Pair A B) (h : History) (s : Pair A B) : Type 0 where
  -- the first's span is the one at the start, so the two shares are too
  pub span : (means₁ s.first).span ≡ (means₁ from.first).span
  -- each heap keeps the calls that reach it
  pub first : keeps₁ from.first (sent_first (means₁ from.first).span h) s.first
  pub second : keeps₂ from.second (sent_second (means₁ from.first).span h) s.second

-- what a segregator keeps
pub record SegregatorKeeps {A B : Type 0} (means₁ : A → Meaning) (keeps₁ : A → History → A → Type 0) (keeps₂ : B → History → B → Type 0) (from : Segregator A B) (h : History) (s : Segregator A B) : Type 0 where
  -- the threshold is the one at the start
  pub threshold : s.threshold ≡ from.threshold
  pub pair : PairKeeps means₁ keeps₁ keeps₂ from.pair h s.pair

-- what a fallback keeps: nothing more than any pair
abbrev pub fallback_keeps : {A B : Type 0} → (A → Meaning) → (A → History → A → Type 0) → (B → History → B → Type 0) → Fallback A B → History → Fallback A B → Type 0
fallback_keeps means₁ keeps₁ keeps₂ from h s = PairKeeps means₁ keeps₁ keeps₂ from.pair h s.pair

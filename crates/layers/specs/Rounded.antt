-- What a rounding layer's value means and keeps, over the heap below.
use Rattle.std.specs.Prelude.{ℕ}
use Rattle.layers.specs.declared.rounded.Rounded.{Rounded}
use Rattle.heap.specs.Meaning.{Meaning}
use Rattle.heap.specs.Histories.{History}
use Rattle.layers.specs.Roundeds.{rounded, sent_rounded}

abbrev pub rounded_means : {H R : Type 0} → ℕ → (ℕ → ℕ) → (H → Meaning) → Rounded H R → Meaning
rounded_means largest rounds means s = rounded largest rounds (means s.below)

-- the heap below keeps the calls that reach it
abbrev pub rounded_keeps : {H R : Type 0} → (ℕ → ℕ) → (H → History → H → Type 0) → Rounded H R → History → Rounded H R → Type 0
rounded_keeps rounds keeps from h s = keeps from.below (sent_rounded rounds h) s.below

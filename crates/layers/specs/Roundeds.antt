-- A rounding layer over a heap: its offers, and the calls that it makes below.
use Rattle.std.specs.Prelude.{ℕ, [], ◌∷◌, Result}
use Rattle.heap.specs.declared.fault.Fault.{Fault}
use Rattle.heap.specs.declared.fault.Kind.TheVariants.{Rounding as RoundingK}
use Rattle.heap.specs.Faults.{up, and_then}
use Rattle.heap.specs.Checks.{admitted}
use Rattle.heap.specs.Meaning.{Meaning, Block, with_offers}
use Rattle.heap.specs.Histories.{History, granted, freed, filled, relieved}

-- the offer for n is the offer below for the rounded size
abbrev pub rounded_offer : ℕ → (ℕ → ℕ) → Meaning → ℕ → Result Block Fault
rounded_offer largest rounds m n = and_then (admitted largest RoundingK n) (λ q. up (m.offer (rounds q)))

abbrev pub rounded : ℕ → (ℕ → ℕ) → Meaning → Meaning
rounded largest rounds m = with_offers RoundingK (rounded_offer largest rounds m) m

-- the calls that reach the heap below: the same, with each size rounded
abbrev pub sent_rounded : (ℕ → ℕ) → History → History
sent_rounded rounds [] = []
sent_rounded rounds (granted n a c ∷ h) = granted (rounds n) a c ∷ sent_rounded rounds h
sent_rounded rounds (freed a ∷ h) = freed a ∷ sent_rounded rounds h
sent_rounded rounds (filled a c v ∷ h) = filled a c v ∷ sent_rounded rounds h
sent_rounded rounds (relieved ∷ h) = relieved ∷ sent_rounded rounds h

-- Two heaps side by side: what the pair shows of them, its offers, and the calls that reach each.
use Rattle.std.specs.Prelude.{◌≡◌, ℕ, ◌+◌, ◌-◌, ◌<◌, ◌≤◌, Bool, true, false, cond, [], ◌∷◌, Ok, Err, Result, nat_le, nat_lt}
use Rattle.pairs.specs.declared.pair.Share.{Share}
use Rattle.pairs.specs.declared.pair.Share.TheVariants.{First, Second, Neither}
use Rattle.heap.specs.declared.fault.Fault.{Fault}
use Rattle.heap.specs.declared.fault.Kind.{Kind}
use Rattle.heap.specs.declared.fault.Kind.TheVariants.{Segregator as SegregatorK, Fallback as FallbackK}
use Rattle.heap.specs.declared.fault.Cause.TheVariants.{Shut}
use Rattle.heap.specs.Faults.{raised, up, and_then}
use Rattle.heap.specs.Checks.{admitted}
use Rattle.heap.specs.Meaning.{Meaning, Block}
use Rattle.heap.specs.Histories.{History, granted, freed, filled, relieved}

-- whether the second heap is open, by the two spans: together they are no more than the largest span; else it is shut
abbrev pub both_fit : ℕ → ℕ → Bool
both_fit s t = nat_le (s + t) 1048576

-- where an address lies, by the first's span and whether the second is open
abbrev pub Lies : ℕ → Bool → ℕ → Share → Type 0
Lies s open-second a First = a < s
Lies s open-second a (Second b) = (s ≤ a) × (open-second ≡ true) × (b ≡ a - s)
Lies s open-second a Neither = (s ≤ a) × (open-second ≡ false)

-- a function of the first's addresses and one of the second's as a function of the pair's: the first's below its span s, the second's moved up by s, and 0 there where the second is not open
abbrev pub side_by_side : ℕ → Bool → (ℕ → ℕ) → (ℕ → ℕ) → ℕ → ℕ
side_by_side s open-second f g a = cond (nat_lt a s) (f a) (cond open-second (g (a - s)) 0)

-- the span: both spans, or the first's alone
abbrev pub pair_span : Meaning → Meaning → ℕ
pair_span m₁ m₂ = m₁.span + cond (both_fit m₁.span m₂.span) m₂.span 0

-- the live blocks: those of both, or the first's alone
abbrev pub pair_live : Meaning → Meaning → ℕ → ℕ
pair_live m₁ m₂ = side_by_side m₁.span (both_fit m₁.span m₂.span) m₁.live m₂.live

-- the bytes likewise
abbrev pub pair_byte : Meaning → Meaning → ℕ → ℕ
pair_byte m₁ m₂ = side_by_side m₁.span (both_fit m₁.span m₂.span) m₁.byte m₂.byte

-- a block of the second as the pair shows it, by the first's span
abbrev pub moved_up : ℕ → Block → Result Block Fault
moved_up s b = Ok (s + b.0, b.1)

-- what the first would answer to an allocate of n through the pair
abbrev pub first_offer : Meaning → ℕ → Result Block Fault
first_offer m₁ n = up (m₁.offer n)

-- the test of a size that goes to the second: the pair refuses it if the second is shut
abbrev pub checked_open : Kind → Meaning → Meaning → ℕ → Result (Unit {0}) Fault
checked_open k m₁ m₂ n = cond (both_fit m₁.span m₂.span) (Ok tt) (Err (raised Shut k n))

-- what the second would answer: its block is moved up
abbrev pub second_offer : Kind → Meaning → Meaning → ℕ → Result Block Fault
second_offer k m₁ m₂ n = cond (both_fit m₁.span m₂.span) (and_then (up (m₂.offer n)) (moved_up m₁.span)) (Err (raised Shut k n))

-- how a pair chooses, for a size, between the first's answer and the second's
abbrev pub Choice : Type 0
Choice = ℕ → Result Block Fault → Result Block Fault → Result Block Fault

-- a segregator: sizes up to the threshold go to the first, others to the second
abbrev pub by_size : ℕ → Choice
by_size threshold n first second = cond (nat_le n threshold) first second

-- a fallback: the first's block; where it has none, the second's answer
abbrev pub by_refusal : Choice
by_refusal n (Ok b) second = Ok b
by_refusal n (Err f) second = second

-- the offer of a pair, behind the tests of a size
abbrev pub pair_offer : Kind → Choice → Meaning → Meaning → ℕ → Result Block Fault
pair_offer k choose m₁ m₂ n = and_then (admitted 32768 k n) (λ q. choose q (first_offer m₁ q) (second_offer k m₁ m₂ q))

-- the meaning of a pair of this kind that chooses so, from those of its two heaps
abbrev pub paired : Kind → Choice → Meaning → Meaning → Meaning
paired k choose m₁ m₂ = record { kind = k; span = pair_span m₁ m₂; live = pair_live m₁ m₂; byte = pair_byte m₁ m₂; offer = pair_offer k choose m₁ m₂ }

-- a segregator's meaning, by its threshold
abbrev pub segregated : ℕ → Meaning → Meaning → Meaning
segregated threshold = paired SegregatorK (by_size threshold)

-- a fallback's meaning
abbrev pub fallen_back : Meaning → Meaning → Meaning
fallen_back = paired FallbackK by_refusal

-- the calls that reach the first heap, whose span is s: those for an address below s, and relief
abbrev pub sent_first : ℕ → History → History
sent_first s [] = []
sent_first s (granted n a c ∷ h) = cond (nat_lt a s) (granted n a c ∷ sent_first s h) (sent_first s h)
sent_first s (freed a ∷ h) = cond (nat_lt a s) (freed a ∷ sent_first s h) (sent_first s h)
sent_first s (filled a c v ∷ h) = cond (nat_lt a s) (filled a c v ∷ sent_first s h) (sent_first s h)
sent_first s (relieved ∷ h) = relieved ∷ sent_first s h

-- the calls that reach the second heap: those for an address from s on, moved down by s, and relief
abbrev pub sent_second : ℕ → History → History
sent_second s [] = []
sent_second s (granted n a c ∷ h) = cond (nat_lt a s) (sent_second s h) (granted n (a - s) c ∷ sent_second s h)
sent_second s (freed a ∷ h) = cond (nat_lt a s) (sent_second s h) (freed (a - s) ∷ sent_second s h)
sent_second s (filled a c v ∷ h) = cond (nat_lt a s) (sent_second s h) (filled (a - s) c v ∷ sent_second s h)
sent_second s (relieved ∷ h) = relieved ∷ sent_second s h

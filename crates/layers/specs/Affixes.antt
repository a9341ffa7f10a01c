-- An affix over a heap: each block below holds a block above between two marks of eight bytes.
use Rattle.std.specs.Prelude.{◌≡◌, ℕ, ◌+◌, ◌-◌, ◌<◌, cond, [], ◌∷◌, Ok, Result, nat_le}
use Rattle.heap.specs.declared.fault.Fault.{Fault}
use Rattle.heap.specs.declared.fault.Kind.TheVariants.{Affix as AffixK}
use Rattle.heap.specs.Faults.{up, and_then}
use Rattle.heap.specs.Checks.{admitted}
use Rattle.heap.specs.Meaning.{Meaning, Block, In}
use Rattle.heap.specs.Histories.{History, granted, freed, filled, relieved}

-- the block above that begins at a: that of a block below at a - 8 which is at least 24 long, without its marks
abbrev pub affix_live : (ℕ → ℕ) → ℕ → ℕ
affix_live live a = cond (nat_le 8 a) (cond (nat_le 24 (live (a - 8))) (live (a - 8) - 16) 0) 0

-- a block below without its marks
abbrev pub inner_block : Block → Result Block Fault
inner_block b = Ok (b.0 + 8, b.1 - 16)

-- the offer for n is the one below for n + 16, without its marks
abbrev pub affix_offer : Meaning → ℕ → Result Block Fault
affix_offer m n = and_then (admitted 32768 AffixK n) (λ q. and_then (up (m.offer (q + 16))) inner_block)

abbrev pub affixed : Meaning → Meaning
affixed m = record { kind = AffixK; span = m.span; live = affix_live m.live; byte = m.byte; offer = affix_offer m }

-- the eight bytes from a on are a mark
abbrev pub Marked : (ℕ → ℕ) → ℕ → Type 0
Marked byte a = (x : ℕ) → In a 8 x → byte x ≡ 90

-- the block above at a, of a heap below with these live blocks and bytes, stands between two marks
pub record Whole (live byte : ℕ → ℕ) (a : ℕ) : Type 0 where
  pub head : Marked byte (a - 8)
  pub tail : Marked byte (a + affix_live live a)

abbrev pub AllWhole : Meaning → Type 0
AllWhole m = (a : ℕ) → 0 < affix_live m.live a → Whole m.live m.byte a

-- the calls that reach the heap below: a grant of the longer block and its two marks, a free of the whole block, the rest as it is
abbrev pub sent_affixed : History → History
sent_affixed [] = []
sent_affixed (granted n a c ∷ h) = filled (a + c) 8 90 ∷ filled (a - 8) 8 90 ∷ granted (n + 16) (a - 8) (c + 16) ∷ sent_affixed h
sent_affixed (freed a ∷ h) = freed (a - 8) ∷ sent_affixed h
sent_affixed (filled a c v ∷ h) = filled a c v ∷ sent_affixed h
sent_affixed (relieved ∷ h) = relieved ∷ sent_affixed h

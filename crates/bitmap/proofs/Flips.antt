-- Bits of words: one that is flipped, and words with none.
use Rattle.std.proofs.Common.{◌≡◌, ℕ, ◌+◌, ◌/◌, ◌%◌, ◌^◌, ◌<◌, ◌≤◌, Bool, true, false, cond, not, ◌≢◌, List, length, get_or, set, arith, length-set}
use mathlib.Core.Bool.{beq}
use Rattle.std.specs.Array.{AllOfLen}
use lib.Bits.{bit_xor}
use Rattle.std.specs.Int.{bit_at}
use Rattle.std.proofs.lemmas.Grind.{common_steps}
use Rattle.std.proofs.lemmas.Bool.Decides.{nat_tests}
use Rattle.std.proofs.lemmas.Nat.Bits.{bit_at_xor, bit_at-pow_same, bit_at-pow_other, bit_at-zero}
use Rattle.std.proofs.lemmas.List.{get_or_past}
use Rattle.bitmap.specs.Words.{bit_in, inside, Put}

-- which cells are among w from i on
pub inside_yes : (i w x : ℕ) → i ≤ x → x < i + w → inside i w x ≡ true
inside_yes i w x l h = grind (arith, nat_tests)

pub inside_before : (i w x : ℕ) → x < i → inside i w x ≡ false
inside_before i w x l = grind (arith, nat_tests)

pub inside_past : (i w x : ℕ) → i + w ≤ x → inside i w x ≡ false
inside_past i w x l = grind (arith, nat_tests)

-- a bit that is flipped, and the others of its word
flip_same : (a k : ℕ) → bit_at (bit_xor a (2 ^ k)) k ≡ (bit_at a k + 1) % 2
flip_same a k = grind (arith, bit_at_xor, bit_at-pow_same)

flip_other : (a k j : ℕ) → j ≢ k → bit_at (bit_xor a (2 ^ k)) j ≡ bit_at a j
flip_other a k j n = grind (arith, bit_at_xor, bit_at-pow_other)

module _ (ws : List ℕ) (i : ℕ) (b : Bool) (l : i / 64 < length ws) (n : not (beq (bit_in ws i) b) ≡ true) where
  -- the word of cell i with its bit flipped
  abbrev other : ℕ
  other = bit_xor (get_or ws (i / 64) 0) (2 ^ (i % 64))

  flipped_bit : (x : ℕ) → bit_in (set ws (i / 64) other) x ≡ cond (inside i 1 x) b (bit_in ws x)
  unfolding bit_in
  flipped_bit x = grind (arith, common_steps, nat_tests, flip_same, flip_other)

  pub flipped : (v : ℕ) → v ≡ 2 ^ (i % 64) → Put i 1 b ws (set ws (i / 64) (bit_xor (get_or ws (i / 64) 0) v))
  flipped v e = rw e (record { long = length-set ws (i / 64) other; bits = flipped_bit })

-- words of 0 have no bit
pub clear_bit : (ws : List ℕ) (n : ℕ) → AllOfLen (λ w. w ≡ 0) ws n → (x : ℕ) → bit_in ws x ≡ false
unfolding bit_in
clear_bit ws n k x = let long = k.long in let at = k.at (x / 64) 0 in grind (arith, common_steps, get_or_past, bit_at-zero)

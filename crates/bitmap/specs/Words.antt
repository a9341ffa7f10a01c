-- A map of cells: one bit for each, in words of 64.
use Rattle.std.specs.Prelude.{◌≡◌, ℕ, ◌+◌, ◌/◌, ◌%◌, ◌^◌, Bool, cond, ◌&&◌, List, length, ◌==◌, nat_le, nat_lt, slice_index}

-- the bit of cell i
unfoldable pub bit_in : List ℕ → ℕ → Bool
bit_in ws i = slice_index ws (i / 64) / 2 ^ (i % 64) % 2 == 1

-- whether cell x is one of the w cells from i on
abbrev pub inside : ℕ → ℕ → ℕ → Bool
inside i w x = nat_le i x && nat_lt x (i + w)

-- the w cells from i on have the bit b now, and every other its own
pub record Put (i w : ℕ) (b : Bool) (ws vs : List ℕ) : Type 0 where
  pub long : length vs ≡ length ws
  pub bits : (x : ℕ) → bit_in vs x ≡ cond (inside i w x) b (bit_in ws x)

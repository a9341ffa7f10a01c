-- The bytes of a lent region: numbers of four bytes, stretches of one byte, and the used length.
use Rattle.std.specs.Prelude.{◌≡◌, ℕ, ◌+◌, ◌*◌, ◌/◌, ◌%◌, min, List, length, slice_index, slice_set}
use Rattle.heap.specs.Meaning.{In}

-- the number in the four bytes from p on, lowest first
unfoldable pub word_at : List ℕ → ℕ → ℕ
word_at xs p = slice_index xs p + slice_index xs (p + 1) * 256 + slice_index xs (p + 2) * 65536 + slice_index xs (p + 3) * 16777216

-- the region with the number v in those bytes
unfoldable pub put_word : List ℕ → ℕ → ℕ → List ℕ
put_word xs p v = slice_set (slice_set (slice_set (slice_set xs p (v % 256)) (p + 1) (v / 256 % 256)) (p + 2) (v / 65536 % 256)) (p + 3) (v / 16777216 % 256)

-- the c bytes from a on became v, and every other byte stayed
pub record Painted (a c v : ℕ) (xs ys : List ℕ) : Type 0 where
  pub long : length ys ≡ length xs
  pub set : (x : ℕ) → In a c x → slice_index ys x ≡ v
  pub rest : (x : ℕ) → (In a c x → ⊥) → slice_index ys x ≡ slice_index xs x

-- how many bytes of a region of n bytes are used: at most 65,536, and whole eights
abbrev pub span_of : ℕ → ℕ
span_of n = min n 65536 / 8 * 8

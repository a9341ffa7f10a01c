-- Bytes in hex digits.
use Rattle.std.specs.Prelude.{ℕ, ◌+◌, ◌-◌, ◌*◌, cond, ◌&&◌, List, [], ◌∷◌, length, Some, None, Option, ◌==◌, nat_le}

-- what a digit stands for: 0 to 9, A to F or a to f
abbrev pub digit_value : ℕ → Option ℕ
digit_value d =
    cond (nat_le 48 d && nat_le d 57) (Some (d - 48))
    (cond (nat_le 65 d && nat_le d 70) (Some (d - 65 + 10))
    (cond (nat_le 97 d && nat_le d 102) (Some (d - 97 + 10)) None))

abbrev pub both : Option ℕ → Option ℕ → Option ℕ
both (Some h) (Some l) = Some (h * 16 + l)
both (Some h) None = None
both None l = None

abbrev pub pair_value : ℕ → ℕ → Option ℕ
pair_value h l = both (digit_value h) (digit_value l)

abbrev pub in_front : Option ℕ → Option (List ℕ) → Option (List ℕ)
in_front (Some b) (Some bs) = Some (b ∷ bs)
in_front (Some b) None = None
in_front None r = None

-- the bytes of digits taken two by two
abbrev pub bytes_in : List ℕ → Option (List ℕ)
bytes_in [] = Some []
bytes_in (d ∷ []) = None
bytes_in (h ∷ l ∷ ds) = in_front (pair_value h l) (bytes_in ds)

-- a frame's bytes in twelve digits
abbrev pub frame_digits : List ℕ → Option (List ℕ)
frame_digits text = cond (length text == 12) (bytes_in text) None

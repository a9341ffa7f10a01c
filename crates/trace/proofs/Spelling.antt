-- A frame's digits, as the crate `hex` decodes them.
use Rattle.std.proofs.Common.{◌≡◌, ℕ, ◌+◌, ◌*◌, ◌/◌, ◌%◌, ◌==◌, cond, List, [], ◌∷◌, length, Some, None, Option, Ok, Err, Result, refl, ◌∙◌, arith}
use Rattle.std.specs.Result.{result_ok}
use Rattle.std.proofs.lemmas.Bool.Decides.{nat_tests}
use Rattle.hex.specs.Hex.{hex_digit_value, digit_or_error, value_at, decode_pairs, decode_sized, ◌>>=◌}
use Rattle.hex.specs.Hex.{pair_value as hex_pair}
use Rattle.hex.specs.declared.error.FromHexError.{FromHexError}
use Rattle.hex.specs.declared.error.FromHexError.TheVariants.{OddLength, InvalidStringLength}
use Rattle.trace.specs.Digits.{digit_value, both, pair_value, in_front, bytes_in, frame_digits}

same_digit : (d : ℕ) → hex_digit_value d ≡ digit_value d
same_digit d = grind (arith, nat_tests)

same_value : (d i : ℕ) → result_ok (value_at d i) ≡ digit_value d
same_value d i = by_value (hex_digit_value d) ∙ same_digit d
  where
    by_value : (o : Option ℕ) → result_ok (digit_or_error d i o) ≡ o
    by_value (Some v) = refl
    by_value None = refl

same_pair : (h l i : ℕ) → result_ok (hex_pair h l i) ≡ pair_value h l
same_pair h l i = joins (value_at h i) (value_at l (i + 1)) ∙ (rw (same_value h i, same_value l (i + 1)) refl)
  where
    joins : (r s : Result ℕ FromHexError) → result_ok (r >>= (λ a. s >>= (λ b. Ok (a * 16 + b)))) ≡ both (result_ok r) (result_ok s)
    joins (Ok a) (Ok b) = refl
    joins (Ok a) (Err e) = refl
    joins (Err e) s = refl

same_bytes : (i : ℕ) (text : List ℕ) → result_ok (decode_pairs i text) ≡ bytes_in text
unfolding decode_pairs
same_bytes i [] = refl
same_bytes i (d ∷ []) = refl
same_bytes i (h ∷ l ∷ ds) = joins (hex_pair h l i) (decode_pairs (i + 2) ds) ∙ (rw (same_pair h l i, same_bytes (i + 2) ds) refl)
  where
    joins : (r : Result ℕ FromHexError) (s : Result (List ℕ) FromHexError) → result_ok (r >>= (λ b. s >>= (λ bs. Ok (b ∷ bs)))) ≡ in_front (result_ok r) (result_ok s)
    joins (Ok b) (Ok bs) = refl
    joins (Ok b) (Err e) = refl
    joins (Err e) s = refl

-- twelve digits are room for six bytes, and no other number is
twelve : (n : ℕ) (r : Result (List ℕ) FromHexError) (o : Option (List ℕ)) → result_ok r ≡ o → result_ok (cond (n % 2 == 1) (Err OddLength) (cond (n / 2 == 6) r (Err InvalidStringLength))) ≡ cond (n == 12) o None
twelve n r o e = grind (arith, nat_tests)

pub spelled : (text : List ℕ) → result_ok (decode_sized text 6) ≡ frame_digits text
spelled text = twelve (length text) (decode_pairs 0 text) (bytes_in text) (same_bytes 0 text)

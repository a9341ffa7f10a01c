-- Numbers in four bytes, lowest first.
use borrow.Rule.Slice.PartMut.{put_mid}
use Rattle.std.proofs.Common.{[], ◌∷◌, ap, ◌≡◌, ℕ, zero, suc, ◌+◌, ◌*◌, ◌/◌, ◌%◌, ◌<◌, ◌≤◌, ◌≢◌, ◌⊎◌, List, length, get_or, set, refl, ⊎_elim, arith, length-set, get_or-set_other, get_or-set_same}
use Rattle.region.specs.Bytes.{word_at, put_word}
use native.Mathlib.Nat.{div-div-eq-div-mul}

four_from : (p : ℕ) (xs : List ℕ) (a b c d : ℕ) → p + 4 ≤ length xs → put_mid p 4 xs (a ∷ b ∷ c ∷ d ∷ []) ≡ set (set (set (set xs p a) (suc p) b) (suc (suc p)) c) (suc (suc (suc p))) d
four_from zero (x0 ∷ x1 ∷ x2 ∷ x3 ∷ xs) a b c d h = refl
four_from zero [] a b c d h = absurd (let z : ⊥ = omega (arith, h) in z)
four_from zero (x0 ∷ []) a b c d h = absurd (let z : ⊥ = omega (arith, h) in z)
four_from zero (x0 ∷ x1 ∷ []) a b c d h = absurd (let z : ⊥ = omega (arith, h) in z)
four_from zero (x0 ∷ x1 ∷ x2 ∷ []) a b c d h = absurd (let z : ⊥ = omega (arith, h) in z)
four_from (suc p) [] a b c d h = absurd (let z : ⊥ = omega (arith, h) in z)
four_from (suc p) (x ∷ xs) a b c d h = ap (λ (ys : List ℕ). x ∷ ys) (four_from p xs a b c d (omega (arith, h)))

-- four bytes written at once are the four written one by one
pub put_four : (p : ℕ) (xs : List ℕ) (a b c d : ℕ) → p + 4 ≤ length xs → put_mid p 4 xs (a ∷ b ∷ c ∷ d ∷ []) ≡ set (set (set (set xs p a) (p + 1) b) (p + 2) c) (p + 3) d
put_four p xs a b c d h =
    let one : p + 1 ≡ suc p = omega arith in
    let two : p + 2 ≡ suc (suc p) = omega arith in
    let three : p + 3 ≡ suc (suc (suc p)) = omega arith in
    rw (one, two, three) (four_from p xs a b c d h)

-- a word depends on its four bytes alone
pub word_same : (xs ys : List ℕ) (p : ℕ) → ((x : ℕ) → p ≤ x → x < p + 4 → get_or ys x 0 ≡ get_or xs x 0) → word_at ys p ≡ word_at xs p
unfolding word_at
word_same xs ys p e =
    let a = e p (omega arith) (omega arith) in
    let b = e (p + 1) (omega arith) (omega arith) in
    let c = e (p + 2) (omega arith) (omega arith) in
    let d = e (p + 3) (omega arith) (omega arith) in
    omega arith

pub length_put_word : (xs : List ℕ) (p v : ℕ) → length (put_word xs p v) ≡ length xs
unfolding put_word
length_put_word xs p v = simp length-set

pub put_word_other : (xs : List ℕ) (p v x : ℕ) → (x < p) ⊎ (p + 4 ≤ x) → get_or (put_word xs p v) x 0 ≡ get_or xs x 0
unfolding put_word
put_word_other xs p v x h =
    let a : x ≢ p = λ q. ⊎_elim (λ (l : x < p). let z : ⊥ = omega arith in z) (λ (l : p + 4 ≤ x). let z : ⊥ = omega arith in z) h in
    let b : x ≢ p + 1 = λ q. ⊎_elim (λ (l : x < p). let z : ⊥ = omega arith in z) (λ (l : p + 4 ≤ x). let z : ⊥ = omega arith in z) h in
    let c : x ≢ p + 2 = λ q. ⊎_elim (λ (l : x < p). let z : ⊥ = omega arith in z) (λ (l : p + 4 ≤ x). let z : ⊥ = omega arith in z) h in
    let d : x ≢ p + 3 = λ q. ⊎_elim (λ (l : x < p). let z : ⊥ = omega arith in z) (λ (l : p + 4 ≤ x). let z : ⊥ = omega arith in z) h in
    rw (get_or-set_other, get_or-set_other, get_or-set_other, get_or-set_other) refl

chained : (v q r s a b c d : ℕ) → a + 256 * q ≡ v → b + 256 * r ≡ q → c + 256 * s ≡ r → d ≡ s → a + b * 256 + c * 65536 + d * 16777216 ≡ v
chained v q r s a b c d e0 e1 e2 e3 = omega arith

four_bytes : (v : ℕ) → v < 4294967296 → v % 256 + v / 256 % 256 * 256 + v / 65536 % 256 * 65536 + v / 16777216 % 256 * 16777216 ≡ v
four_bytes v h =
    let q = v / 256 in
    let r = v / 65536 in
    let s = v / 16777216 in
    let a : q / 256 ≡ r = div-div-eq-div-mul v 256 256 in
    let b : r / 256 ≡ s = div-div-eq-div-mul v 65536 256 in
    let e0 : v % 256 + 256 * q ≡ v = omega arith in
    let e1 : q % 256 + 256 * r ≡ q = let z : q % 256 + 256 * (q / 256) ≡ q = omega arith in omega arith in
    let e2 : r % 256 + 256 * s ≡ r = let z : r % 256 + 256 * (r / 256) ≡ r = omega arith in omega arith in
    let l : s < 256 = omega arith in
    let e3 : s % 256 ≡ s = omega arith in
    chained v q r s (v % 256) (q % 256) (r % 256) (s % 256) e0 e1 e2 e3

module _ (xs : List ℕ) (p a b c d : ℕ) (h : p + 4 ≤ length xs) where
  at_0 : get_or (set (set (set (set xs p a) (p + 1) b) (p + 2) c) (p + 3) d) p 0 ≡ a
  at_0 =
      let n1 : p ≢ p + 1 = λ q. omega arith in
      let n2 : p ≢ p + 2 = λ q. omega arith in
      let n3 : p ≢ p + 3 = λ q. omega arith in
      let l : p < length xs = omega arith in
      rw (get_or-set_other, get_or-set_other, get_or-set_other, get_or-set_same) refl

  at_1 : get_or (set (set (set (set xs p a) (p + 1) b) (p + 2) c) (p + 3) d) (p + 1) 0 ≡ b
  at_1 =
      let n2 : p + 1 ≢ p + 2 = λ q. omega arith in
      let n3 : p + 1 ≢ p + 3 = λ q. omega arith in
      let l : p + 1 < length (set xs p a) = simp length-set (omega arith) in
      rw (get_or-set_other, get_or-set_other, get_or-set_same) refl

  at_2 : get_or (set (set (set (set xs p a) (p + 1) b) (p + 2) c) (p + 3) d) (p + 2) 0 ≡ c
  at_2 =
      let n3 : p + 2 ≢ p + 3 = λ q. omega arith in
      let l : p + 2 < length (set (set xs p a) (p + 1) b) = simp length-set (omega arith) in
      rw (get_or-set_other, get_or-set_same) refl

  at_3 : get_or (set (set (set (set xs p a) (p + 1) b) (p + 2) c) (p + 3) d) (p + 3) 0 ≡ d
  at_3 =
      let l : p + 3 < length (set (set (set xs p a) (p + 1) b) (p + 2) c) = simp length-set (omega arith) in
      rw get_or-set_same refl

pub word_put : (xs : List ℕ) (p v : ℕ) → p + 4 ≤ length xs → v < 4294967296 → word_at (put_word xs p v) p ≡ v
unfolding word_at put_word
word_put xs p v h f =
    let a = at_0 xs p (v % 256) (v / 256 % 256) (v / 65536 % 256) (v / 16777216 % 256) h in
    let b = at_1 xs p (v % 256) (v / 256 % 256) (v / 65536 % 256) (v / 16777216 % 256) h in
    let c = at_2 xs p (v % 256) (v / 256 % 256) (v / 65536 % 256) (v / 16777216 % 256) h in
    let d = at_3 xs p (v % 256) (v / 256 % 256) (v / 65536 % 256) (v / 16777216 % 256) h in
    let e = four_bytes v f in
    omega arith

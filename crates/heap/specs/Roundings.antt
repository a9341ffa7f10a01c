-- Lawful roundings of a size, and two of them.
use Rattle.std.specs.Prelude.{◌≡◌, ℕ, zero, suc, ◌+◌, ◌*◌, ◌/◌, ◌<◌, ◌≤◌, cond, List, [], ◌∷◌, ◌==◌, nat_le}

-- the laws of a rounding: of sizes from 1 to its largest, and 0 of every other
pub record LawfulRounding (largest : ℕ) (rounds : ℕ → ℕ) : Type 0 where
  pub least : 8 ≤ largest
  pub most : largest ≤ 32768
  pub extensive : (n : ℕ) → 1 ≤ n → n ≤ largest → n ≤ rounds n
  pub within : (n : ℕ) → 1 ≤ n → n ≤ largest → rounds n ≤ largest
  pub monotone : (m n : ℕ) → 1 ≤ m → m ≤ n → n ≤ largest → rounds m ≤ rounds n
  pub idempotent : (n : ℕ) → 1 ≤ n → n ≤ largest → rounds (rounds n) ≡ rounds n
  pub nought : rounds 0 ≡ 0
  pub beyond : (n : ℕ) → largest < n → rounds n ≡ 0

-- f of a size from 1 to the largest, 0 of any other
abbrev pub up_to_largest : ℕ → (ℕ → ℕ) → ℕ → ℕ
up_to_largest largest f n = cond (n == 0) 0 (cond (nat_le n largest) (f n) 0)

-- the least multiple of 8 that is at least n
abbrev pub up8 : ℕ → ℕ
up8 n = (n + 7) / 8 * 8

-- to the next multiple of 8
abbrev pub grain : ℕ → ℕ
grain n = up_to_largest 8192 up8 n

-- the first of a list of sizes that is at least n, 0 where none is
abbrev pub least_in : List ℕ → ℕ → ℕ
least_in [] n = 0
least_in (p ∷ ps) n = cond (nat_le n p) p (least_in ps n)

-- p and its next c doubles
abbrev pub doubles : ℕ → ℕ → List ℕ
doubles zero p = p ∷ []
doubles (suc c) p = p ∷ doubles c (2 * p)

-- to the least of the powers of two from 8 to 32,768 that is at least n
abbrev pub power : ℕ → ℕ
power n = up_to_largest 32768 (least_in (doubles 12 8)) n

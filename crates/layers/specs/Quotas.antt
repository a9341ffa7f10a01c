-- A quota over a heap: its offers, and its account.
use Rattle.std.specs.Prelude.{◌≡◌, ℕ, zero, suc, ◌+◌, ◌-◌, ◌≤◌, cond, Ok, Err, Result, nat_le}
use Rattle.heap.specs.declared.fault.Fault.{Fault}
use Rattle.heap.specs.declared.fault.Kind.TheVariants.{Quota as QuotaK}
use Rattle.heap.specs.declared.fault.Cause.TheVariants.{OverQuota}
use Rattle.heap.specs.Faults.{raised, up, and_then}
use Rattle.heap.specs.Checks.{admitted}
use Rattle.heap.specs.Meaning.{Meaning, Block, with_offers}

-- a block that would bring the account above the limit is refused
abbrev pub within_limit : ℕ → ℕ → ℕ → Block → Result Block Fault
within_limit limit account n b = cond (nat_le (account + b.1) limit) (Ok b) (Err (raised OverQuota QuotaK n))

-- the offer below, where the limit allows its length
abbrev pub quota_offer : ℕ → ℕ → Meaning → ℕ → Result Block Fault
quota_offer limit account m n = and_then (admitted 32768 QuotaK n) (λ q. and_then (up (m.offer q)) (within_limit limit account q))

abbrev pub rationed : ℕ → ℕ → Meaning → Meaning
rationed limit account m = with_offers QuotaK (quota_offer limit account m) m

-- the account grows by the length granted, not by the size asked
abbrev pub Charges : ℕ → ℕ → Result Block Fault → Type 0
Charges before after (Ok b) = after ≡ before + b.1
Charges before after (Err f) = after ≡ before

-- and falls by the length freed, not below 0
abbrev pub Credits : ℕ → ℕ → ℕ → Result (Unit {0}) Fault → Type 0
Credits before after length (Ok _) = after ≡ before - length
Credits before after length (Err f) = after ≡ before

-- the sum of f at the numbers below n
abbrev pub sum_below : (ℕ → ℕ) → ℕ → ℕ
sum_below f zero = 0
sum_below f (suc n) = f n + sum_below f n

-- the total length of the live blocks
abbrev pub total : Meaning → ℕ
total m = sum_below m.live m.span

-- the account is that total, and within the limit
pub record Paid (limit account : ℕ) (m : Meaning) : Type 0 where
  pub all : account ≡ total m
  pub within : account ≤ limit

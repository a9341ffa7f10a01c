-- The tests of a call, and the fault of the first that refuses it.
use Rattle.std.specs.Prelude.{ℕ, ◌+◌, Bool, false, cond, Some, None, Ok, Err, Option, Result, ◌==◌, nat_le}
use Rattle.heap.specs.declared.fault.Fault.{Fault}
use Rattle.heap.specs.declared.fault.Kind.{Kind}
use Rattle.heap.specs.declared.fault.Cause.TheVariants.{Zero, TooLarge, NotLive, Outside}
use Rattle.heap.specs.Faults.{raised, and_then}
use Rattle.heap.specs.Meaning.{Block}

-- a size from 1 to the largest
abbrev pub admitted : ℕ → Kind → ℕ → Result ℕ Fault
admitted largest k n = cond (n == 0) (Err (raised Zero k 0)) (cond (nat_le n largest) (Ok n) (Err (raised TooLarge k n)))

-- such a size rounded
abbrev pub rounded_size : ℕ → (ℕ → ℕ) → Kind → ℕ → Result ℕ Fault
rounded_size largest rounds k n = and_then (admitted largest k n) (λ q. Ok (rounds q))

-- the length of the block that find told for a, where it begins there
abbrev pub begun : Option Block → ℕ → ℕ
begun (Some b) a = cond (b.0 == a) b.1 0
begun None a = 0

-- whether that block has the c bytes from a on
abbrev pub reached : Option Block → ℕ → ℕ → Bool
reached (Some b) a c = nat_le (a + c) (b.0 + b.1)
reached None a c = false

abbrev pub checked_get : Kind → Option Block → ℕ → Result (Unit {0}) Fault
checked_get k found a = cond (reached found a 1) (Ok tt) (Err (raised Outside k a))

abbrev pub checked_free : Kind → Option Block → ℕ → Result (Unit {0}) Fault
checked_free k found a = cond (begun found a == 0) (Err (raised NotLive k a)) (Ok tt)

abbrev pub checked_fill : Kind → Option Block → ℕ → ℕ → Result (Unit {0}) Fault
checked_fill k found a c = cond (c == 0) (Err (raised Zero k a)) (cond (reached found a c) (Ok tt) (Err (raised Outside k a)))

use Rattle.std.proofs.Common.{◌≡◌, ◌<◌, ℕ, length, get_or}
use Rattle.region.proofs.paint.Given as goal

-- the bytes so far have the value
abbrev pub invariant-loop-byte : goal.invariant-loop-byte
invariant-loop-byte l = (length l.byte-items ≡ length l.initial.byte-items) × ((x : ℕ) → x < l.byte-index → get_or l.byte-items x 0 ≡ l.v)

use Rattle.std.proofs.Common.{◌≡◌, ◌<◌, ◌≤◌, ℕ, true}
use Rattle.bitmap.specs.Cells.{used_in, first_in, goes_on}
use Rattle.bitmap.proofs.maps.Maps.ahead.Given as goal

-- the cells passed go on with the block before them
abbrev pub invariant-loop-cell : goal.invariant-loop-cell
invariant-loop-cell l = (x : ℕ) → l.initial.i ≤ x → x < l.cell → goes_on (used_in l.self) (first_in l.self) l.cells x ≡ true

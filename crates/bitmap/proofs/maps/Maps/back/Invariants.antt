use Rattle.std.proofs.Common.{◌≡◌, ◌<◌, ◌≤◌, not, ◌&&◌, ℕ, true}
use Rattle.bitmap.specs.Cells.{used_in, first_in}
use Rattle.bitmap.proofs.maps.Maps.back.Given as goal

-- the cells passed go on with the block before them
abbrev pub invariant-loop-before : goal.invariant-loop-before
invariant-loop-before l = (x : ℕ) → l.before < x → x ≤ l.initial.i → (used_in l.self x && not (first_in l.self x)) ≡ true

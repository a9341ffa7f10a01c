use Rattle.std.proofs.Common.{◌-◌}
use Rattle.bitmap.specs.Words.{Put}
use Rattle.bitmap.proofs.bits.Bits.put_run.Given as goal

-- the bits of the cells before x are set
abbrev pub invariant-loop-x : goal.invariant-loop-x
invariant-loop-x l = Put l.i (l.x - l.i) l.b l.initial.self.words l.self.words

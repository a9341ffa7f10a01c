use Rattle.bitmap.specs.Words.{bit_in}
use Rattle.bitmap.specs.Cells.{Scanned}
use Rattle.bitmap.proofs.maps.Maps.lowest_run.Given as goal

-- the cells before i are searched
abbrev pub invariant-loop-i : goal.invariant-loop-i
invariant-loop-i l = Scanned (bit_in l.self.used.words) (bit_in l.self.first.words) l.cells l.wanted l.i l.run

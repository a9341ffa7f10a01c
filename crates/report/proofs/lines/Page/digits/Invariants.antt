-- The bytes before the index are written.
use Rattle.std.proofs.Common.{take}
use Rattle.std.specs.List.{flat_map}
use Rattle.report.specs.Lines.{hex_byte}
use Rattle.report.specs.Pages.{Wrote}
use Rattle.report.proofs.lines.Page.digits.Given as goal

abbrev pub invariant-loop-byte : goal.invariant-loop-byte
invariant-loop-byte l = Wrote l.initial.self (flat_map hex_byte (take l.byte-index l.bytes)) l.self

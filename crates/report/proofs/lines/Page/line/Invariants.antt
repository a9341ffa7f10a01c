-- The fields before the index are written.
use Rattle.std.proofs.Common.{take}
use Rattle.std.specs.List.{flat_map}
use Rattle.report.specs.Lines.{hex_field}
use Rattle.report.specs.Pages.{Wrote}
use Rattle.report.proofs.lines.Page.line.Given as goal

abbrev pub invariant-loop-field : goal.invariant-loop-field
invariant-loop-field l = Wrote l.initial.self (flat_map hex_field (take l.field-index l.fields)) l.self

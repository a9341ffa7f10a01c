use Rattle.std.proofs.Common.{◌++◌}
use Rattle.report.specs.Lines.{counts_line, load_line, kind_lines, first_line}
use Rattle.report.proofs.Laying.{wrote_on}
use Rattle.report.proofs.lines.Page.report.Goals as goal

pub returns : goal.returns
returns c =
    let t = c.args.tally.now in
    let kinds = kind_lines 0 t.kinds in
    let first = first_line t.first in
    wrote_on c.args.self.now c.line.new.self c.first.new.self (counts_line c.args.pile t) (load_line t ++ (kinds ++ first)) c.line.ensures
    (wrote_on c.line.new.self c.line-2.new.self c.first.new.self (load_line t) (kinds ++ first) c.line-2.ensures
    (wrote_on c.line-2.new.self c.kinds.new.self c.first.new.self kinds first c.kinds.ensures c.first.ensures))

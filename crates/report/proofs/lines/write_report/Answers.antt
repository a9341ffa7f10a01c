use Rattle.std.proofs.Common.{◌≤◌, length, ap, arith}
use Rattle.report.proofs.Lining.{length_report, passed}
use Rattle.report.proofs.lines.write_report.Goals as goal

pub report-requires : goal.report-requires
report-requires c =
    let b : 256 ≤ length c.args.report.now = passed _ _ c.in_ok-check_buffer.ensures in
    let l = length_report c.args.pile c.args.tally.now (omega arith) in
    let same = ap length c.new-page.ensures.out in
    omega arith

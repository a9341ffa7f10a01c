use Rattle.std.proofs.Common.{List, length, sym, ap, ◌∙◌, subst}
use Rattle.trace.specs.declared.frame.Action.{Action}
use Rattle.trace.specs.Frames.{pile_number}
use Rattle.trace.proofs.Testing.{recorded_by}
use Rattle.report.proofs.Lining.{passed}
use Rattle.player.specs.Replays.{Replayed}
use Rattle.player.proofs.Underway.{reported}
use Rattle.player.proofs.player.replay.Goals as goal

pub returns : goal.returns
returns g c =
    let x = recorded_by c.args.trace.now c.in_ok-pile.pile (sym c.in_ok-pile.ensures.pile) in
    let means = g.H.Meant.means in
    let keeps = g.H.Meant.keeps in
    let k = subst (λ (z : List Action). Replayed means keeps z c.play-tally.result c.args.heap.now c.play-tally.new.heap) x.3 c.play-tally.ensures in
    let long = passed (length c.args.report.now) _ c.in_ok-check_buffer.ensures in
    reported means keeps c.args.trace.now x.0 c.number.result c.play-tally.result c.args.heap.now c.play-tally.new.heap c.args.report.now c.write_report.new.report c.write_report.result x.1 (ap pile_number x.2 ∙ sym c.number.ensures) k long c.write_report.ensures

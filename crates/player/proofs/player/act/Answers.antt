use Rattle.heap.specs.declared.calls.Call.TheVariants as call
use Rattle.heap.specs.declared.calls.Answer.TheVariants as answer
use Rattle.heap.specs.Runs as runs
use Rattle.report.specs.declared.tally.Outcome.TheVariants.{Done}
use Rattle.player.specs.Turns.{Turned, call_of, relieved}
use Rattle.player.proofs.Acting.{called}
use Rattle.player.proofs.player.act.Goals as goal

pub returns-in-Relief : goal.returns-in-Relief
returns-in-Relief g c =
    let t : Turned c.args.action c.args.slot.now Done (call_of call.Relief answer.Nothing) c.args.slot.now = rw c.in-Relief.is relieved in
    let e = c.relief.ensures in
    called g.H.Meant.means g.H.Meant.keeps _ _ _ _ c.args.heap.now c.relief.new.self _ _ t (runs.eased e.after) (g.H.Meant.lawful c.relief.new.self) e.kept

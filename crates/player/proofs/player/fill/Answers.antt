use Rattle.std.proofs.Common.{[], Ok, Err}
use Rattle.heap.specs.declared.calls.Call.TheVariants as call
use Rattle.heap.specs.declared.calls.Answer.TheVariants as answer
use Rattle.heap.specs.Runs as runs
use Rattle.trace.specs.declared.frame.Action.TheVariants.{Fill}
use Rattle.report.specs.declared.tally.Outcome.TheVariants.{Done, Refused}
use Rattle.player.specs.Turns.{Turned, call_of, none_to_fill, filled, unfilled}
use Rattle.player.proofs.Acting.{uncalled, called}
use Rattle.player.proofs.player.fill.Goals as goal

pub returns-in_default : goal.returns-in_default
returns-in_default g c =
    let t : Turned (Fill c.args.id c.args.byte) c.args.slot c.refuse.result [] c.args.slot = rw (c.in_default.is, c.refuse.ensures) none_to_fill in
    uncalled g.H.Meant.means g.H.Meant.keeps _ _ _ _ c.args.heap.now t

pub returns-in-Ok : goal.returns-in-Ok
returns-in-Ok g c =
    let t : Turned (Fill c.args.id c.args.byte) c.args.slot (Done) (call_of (call.Fill c.in-Held.address c.in-Held.length c.args.byte) (answer.Done (Ok tt))) c.args.slot = rw c.in-Held.is filled in
    let e = c.in-Ok.ensures in
    called g.H.Meant.means g.H.Meant.keeps _ _ _ _ c.args.heap.now c.fill.new.self _ _ t (runs.filled e.answer e.after) (g.H.Meant.lawful c.fill.new.self) e.kept

pub returns-in-Err : goal.returns-in-Err
returns-in-Err g c =
    let t : Turned (Fill c.args.id c.args.byte) c.args.slot (Refused c.in-Err.fault) (call_of (call.Fill c.in-Held.address c.in-Held.length c.args.byte) (answer.Done (Err c.in-Err.fault))) c.args.slot = rw c.in-Held.is unfilled in
    let e = c.in-Err.ensures in
    called g.H.Meant.means g.H.Meant.keeps _ _ _ _ c.args.heap.now c.fill.new.self _ _ t (runs.filled e.answer e.after) (g.H.Meant.lawful c.fill.new.self) e.kept

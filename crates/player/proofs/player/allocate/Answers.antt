use Rattle.std.proofs.Common.{[], Ok, Err}
use Rattle.heap.specs.declared.calls.Call.TheVariants as call
use Rattle.heap.specs.declared.calls.Answer.TheVariants as answer
use Rattle.heap.specs.Runs as runs
use Rattle.trace.specs.declared.frame.Action.TheVariants.{Allocate}
use Rattle.report.specs.declared.tally.Outcome.TheVariants.{Granted, Refused}
use Rattle.player.specs.declared.slots.Slot.TheVariants.{Held}
use Rattle.player.specs.Turns.{Turned, call_of, taken, granted, denied}
use Rattle.player.proofs.Acting.{uncalled, called}
use Rattle.player.proofs.player.allocate.Goals as goal

pub returns-in-Held : goal.returns-in-Held
returns-in-Held g c =
    let t : Turned (Allocate c.args.id c.args.size) c.args.slot.now c.refuse.result [] c.args.slot.now = rw (c.in-Held.is, c.refuse.ensures) taken in
    uncalled g.H.Meant.means g.H.Meant.keeps _ _ _ _ c.args.heap.now t

pub returns-in-Ok : goal.returns-in-Ok
returns-in-Ok g c =
    let t : Turned (Allocate c.args.id c.args.size) c.args.slot.now (Granted c.in-Ok.length) (call_of (call.Allocate c.args.size) (answer.Block (Ok (c.in-Ok.address, c.in-Ok.length)))) (Held c.in-Ok.address c.in-Ok.length) = rw c.in_default.is granted in
    let e = c.in-Ok.ensures in
    called g.H.Meant.means g.H.Meant.keeps _ _ _ _ c.args.heap.now c.allocate.new.self _ _ t (runs.allocated e.answer e.after) (g.H.Meant.lawful c.allocate.new.self) e.kept

pub returns-in-Err : goal.returns-in-Err
returns-in-Err g c =
    let t : Turned (Allocate c.args.id c.args.size) c.args.slot.now (Refused c.in-Err.fault) (call_of (call.Allocate c.args.size) (answer.Block (Err c.in-Err.fault))) c.args.slot.now = rw c.in_default.is denied in
    let e = c.in-Err.ensures in
    called g.H.Meant.means g.H.Meant.keeps _ _ _ _ c.args.heap.now c.allocate.new.self _ _ t (runs.allocated e.answer e.after) (g.H.Meant.lawful c.allocate.new.self) e.kept

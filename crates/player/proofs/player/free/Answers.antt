use Rattle.std.proofs.Common.{[], Ok, Err}
use Rattle.heap.specs.declared.calls.Call.TheVariants as call
use Rattle.heap.specs.declared.calls.Answer.TheVariants as answer
use Rattle.heap.specs.Runs as runs
use Rattle.trace.specs.declared.frame.Action.TheVariants.{Free}
use Rattle.report.specs.declared.tally.Outcome.TheVariants.{Freed, Refused}
use Rattle.player.specs.declared.slots.Slot.TheVariants.{Empty}
use Rattle.player.specs.Turns.{Turned, call_of, none_to_free, freed, unfreed}
use Rattle.player.proofs.Acting.{uncalled, called}
use Rattle.player.proofs.player.free.Goals as goal

pub returns-in_default : goal.returns-in_default
returns-in_default g c =
    let t : Turned (Free c.args.id) c.args.slot.now c.refuse.result [] c.args.slot.now = rw (c.in_default.is, c.refuse.ensures) none_to_free in
    uncalled g.H.Meant.means g.H.Meant.keeps _ _ _ _ c.args.heap.now t

pub returns-in-Ok : goal.returns-in-Ok
returns-in-Ok g c =
    let t : Turned (Free c.args.id) c.args.slot.now (Freed c.in-Held.length) (call_of (call.Free c.in-Held.address) (answer.Done (Ok tt))) (Empty) = rw c.in-Held.is freed in
    let e = c.in-Ok.ensures in
    called g.H.Meant.means g.H.Meant.keeps _ _ _ _ c.args.heap.now c.free.new.self _ _ t (runs.freed e.answer e.after) (g.H.Meant.lawful c.free.new.self) e.kept

pub returns-in-Err : goal.returns-in-Err
returns-in-Err g c =
    let t : Turned (Free c.args.id) c.args.slot.now (Refused c.in-Err.fault) (call_of (call.Free c.in-Held.address) (answer.Done (Err c.in-Err.fault))) c.args.slot.now = rw c.in-Held.is unfreed in
    let e = c.in-Err.ensures in
    called g.H.Meant.means g.H.Meant.keeps _ _ _ _ c.args.heap.now c.free.new.self _ _ t (runs.freed e.answer e.after) (g.H.Meant.lawful c.free.new.self) e.kept

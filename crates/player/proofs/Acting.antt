-- One action of a replay, from the call that it makes on the heap.
use Rattle.std.proofs.Common.{[]}
use Rattle.heap.specs.declared.calls.Call.{Call}
use Rattle.heap.specs.declared.calls.Answer.{Answer}
use Rattle.heap.specs.Meaning.{Meaning, Lawful}
use Rattle.heap.specs.Histories.{History}
use Rattle.heap.specs.Runs.{Answered, none, more, after_answer}
use Rattle.trace.specs.declared.frame.Action.{Action}
use Rattle.report.specs.declared.tally.Outcome.{Outcome}
use Rattle.player.specs.declared.slots.Slot.{Slot}
use Rattle.player.specs.Turns.{Turned, call_of}
use Rattle.player.specs.Replays.{Acted}

module _ {S : Type 0} (means : S → Meaning) (keeps : S → History → S → Type 0) where
  -- the slot refused it
  pub uncalled : (x : Action) (slot slot' : Slot) (o : Outcome) (s : S) → Turned x slot o [] slot' → Acted means keeps x slot s s (o, slot')
  uncalled x slot slot' o s t = record { steps = []; turned = t; ran = none; kept = λ from h k. k }

  -- the heap was called once
  pub called : (x : Action) (slot slot' : Slot) (o : Outcome) (s s' : S) (c : Call) (a : Answer) → Turned x slot o (call_of c a) slot' → Answered c (means s) (means s') a → Lawful (means s') → ((from : S) (h : History) → keeps from h s → keeps from (after_answer c a h) s') → Acted means keeps x slot s s' (o, slot')
  called x slot slot' o s s' c a t w l k = record { steps = call_of c a; turned = t; ran = more w l none; kept = k }

-- What a replay does at each frame: the test of its slot, the call on the heap, and its slot afterwards.
use Rattle.std.specs.Prelude.{ℕ, List, [], ◌∷◌, ◌++◌, replicate, Ok, Err, slice_index_or, slice_set}
use Rattle.heap.specs.declared.fault.Fault.{Fault}
use Rattle.heap.specs.declared.fault.Cause.TheVariants.{SlotTaken, SlotEmpty}
use Rattle.heap.specs.declared.fault.Kind.TheVariants.{Replay}
use Rattle.heap.specs.declared.calls.Call.{Call}
use Rattle.heap.specs.declared.calls.Call.TheVariants as call
use Rattle.heap.specs.declared.calls.Answer.{Answer}
use Rattle.heap.specs.declared.calls.Answer.TheVariants as answer
use Rattle.heap.specs.declared.calls.Step.{Step}
use Rattle.heap.specs.Faults.{raised}
use Rattle.trace.specs.declared.frame.Action.{Action}
use Rattle.trace.specs.declared.frame.Action.TheVariants.{Allocate, Free, Fill, Relief}
use Rattle.trace.specs.Frames.{id_of}
use Rattle.report.specs.declared.tally.Outcome.{Outcome}
use Rattle.report.specs.declared.tally.Outcome.TheVariants.{Granted, Freed, Done, Refused}
use Rattle.player.specs.declared.slots.Slot.{Slot}
use Rattle.player.specs.declared.slots.Slot.TheVariants.{Empty, Held}

-- one call on the heap, with its answer
abbrev pub call_of : Call → Answer → List Step
call_of c a = record { call = c; answer = a } ∷ []

-- an action's turn: its slot, what comes of it, the calls that it makes, and its slot afterwards. Where the slot refuses it, the heap is not called
pub data Turned : Action → Slot → Outcome → List Step → Slot → Type 0 where
  taken : {i n a c : ℕ} → Turned (Allocate i n) (Held a c) (Refused (raised SlotTaken Replay i)) [] (Held a c)
  granted : {i n a c : ℕ} → Turned (Allocate i n) Empty (Granted c) (call_of (call.Allocate n) (answer.Block (Ok (a, c)))) (Held a c)
  denied : {i n : ℕ} {f : Fault} → Turned (Allocate i n) Empty (Refused f) (call_of (call.Allocate n) (answer.Block (Err f))) Empty
  none_to_free : {i : ℕ} → Turned (Free i) Empty (Refused (raised SlotEmpty Replay i)) [] Empty
  freed : {i a c : ℕ} → Turned (Free i) (Held a c) (Freed c) (call_of (call.Free a) (answer.Done (Ok tt))) Empty
  unfreed : {i a c : ℕ} {f : Fault} → Turned (Free i) (Held a c) (Refused f) (call_of (call.Free a) (answer.Done (Err f))) (Held a c)
  none_to_fill : {i v : ℕ} → Turned (Fill i v) Empty (Refused (raised SlotEmpty Replay i)) [] Empty
  filled : {i v a c : ℕ} → Turned (Fill i v) (Held a c) Done (call_of (call.Fill a c v) (answer.Done (Ok tt))) (Held a c)
  unfilled : {i v a c : ℕ} {f : Fault} → Turned (Fill i v) (Held a c) (Refused f) (call_of (call.Fill a c v) (answer.Done (Err f))) (Held a c)
  relieved : {s : Slot} → Turned Relief s Done (call_of call.Relief answer.Nothing) s

abbrev pub no_blocks : List Slot
no_blocks = replicate 256 Empty

-- actions one after another from empty slots: what comes of each, all calls, and the slots afterwards
pub data Played : List Action → List Outcome → List Step → List Slot → Type 0 where
  none : Played [] [] [] no_blocks
  more : {xs : List Action} {os : List Outcome} {ts us : List Step} {ss : List Slot} {x : Action} {o : Outcome} {s : Slot} → Played xs os ts ss → Turned x (slice_index_or ss (id_of x) Empty) o us s → Played (xs ++ (x ∷ [])) (os ++ (o ∷ [])) (ts ++ us) (slice_set ss (id_of x) s)

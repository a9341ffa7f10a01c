-- What a replay owes: its outcomes, its calls on the heap, its slots and its report.
use Rattle.std.specs.Prelude.{◌≡◌, ℕ, ◌<◌, ◌≤◌, ◌⊎◌, List, [], length, Ok, Err, sum_by, Result, slice_index_or}
use Rattle.heap.specs.declared.fault.Fault.{Fault}
use Rattle.heap.specs.declared.fault.Cause.TheVariants.{ReportBuffer}
use Rattle.heap.specs.declared.fault.Kind.TheVariants.{Replay}
use Rattle.heap.specs.declared.calls.Step.{Step}
use Rattle.heap.specs.Faults.{raised}
use Rattle.heap.specs.Meaning.{Meaning, NothingLive}
use Rattle.heap.specs.Histories.{History, Booked, length_at}
use Rattle.heap.specs.Runs.{Ran, Promise, after_steps}
use Rattle.trace.specs.declared.frame.Action.{Action}
use Rattle.trace.specs.Frames.{pile_number}
use Rattle.trace.specs.Recordings.{Recording, recorded}
use Rattle.report.specs.declared.tally.Outcome.{Outcome}
use Rattle.report.specs.declared.tally.Load.{Load}
use Rattle.report.specs.declared.tally.Tally.{Tally}
use Rattle.report.specs.Tallies.{load_of, tally_of}
use Rattle.report.specs.Lines.{report_text, Writes}
use Rattle.player.specs.declared.slots.Slot.{Slot}
use Rattle.player.specs.declared.slots.Slot.TheVariants.{Empty, Held}
use Rattle.player.specs.Turns.{Turned, Played}

-- how many blocks a slot holds, and how many bytes
abbrev pub slot_blocks : Slot → ℕ
slot_blocks Empty = 0
slot_blocks (Held a c) = 1

abbrev pub slot_bytes : Slot → ℕ
slot_bytes Empty = 0
slot_bytes (Held a c) = c

abbrev pub load_in : List Slot → Load
load_in slots = record { blocks = sum_by slot_blocks slots; bytes = sum_by slot_bytes slots }

-- the slots hold exactly the blocks of the book of the replay's calls, each in one slot, and these are live
pub record Stored (slots : List Slot) (h : History) (m : Meaning) : Type 0 where
  pub table : length slots ≡ 256
  pub booked : (i a c : ℕ) → slice_index_or slots i Empty ≡ Held a c → length_at h a ≡ c
  pub shaped : (i a c : ℕ) → slice_index_or slots i Empty ≡ Held a c → (8 ≤ c) × (c ≤ 1048576)
  pub slotted : (a : ℕ) → 0 < length_at h a → (i : ℕ) × (slice_index_or slots i Empty ≡ Held a (length_at h a))
  pub single : (i j a c d : ℕ) → slice_index_or slots i Empty ≡ Held a c → slice_index_or slots j Empty ≡ Held a d → i ≡ j
  pub live : (a : ℕ) → 0 < length_at h a → m.live a ≡ length_at h a

module _ {S : Type 0} (means : S → Meaning) (keeps : S → History → S → Type 0) where
  -- one action on a heap from s to s', with its slot: what came of it, and its slot afterwards
  pub record Acted (x : Action) (slot : Slot) (s s' : S) (r : Outcome × Slot) : Type 0 where
    pub steps : List Step
    pub turned : Turned x slot r.0 steps r.1
    pub ran : Ran steps (means s) (means s')
    pub kept : (from : S) (h : History) → keeps from h s → keeps from (after_steps steps h) s'

  -- a replay under way: the actions so far on a heap from s to s', with their outcomes, the slots and the tally
  pub record Going (actions : List Action) (outcomes : List Outcome) (slots : List Slot) (tally : Tally) (s s' : S) : Type 0 where
    -- the calls on the heap, with their answers
    pub steps : List Step
    -- each outcome is the one that the slots and the heap's answer gave
    pub played : Played actions outcomes steps slots
    -- each answer is the one that the heap's meaning gave at that moment
    pub ran : Ran steps (means s) (means s')
    -- every layer keeps its rule over these calls, from any start
    pub kept : (from : S) (h : History) → keeps from h s → keeps from (after_steps steps h) s'
    pub stored : Stored slots (after_steps steps []) (means s')
    -- blocks and bytes by the outcomes are those in the slots
    pub load : load_of outcomes ≡ load_in slots
    pub tallied : tally ≡ tally_of outcomes

  -- a whole replay, with its outcomes and its tally
  pub record Replayed (actions : List Action) (tally : Tally) (s s' : S) : Type 0 where
    pub outcomes : List Outcome
    pub slots : List Slot
    pub gone : Going actions outcomes slots tally s s'
    -- every layer keeps its rule over the calls from the replay's start, with no condition
    pub begun : keeps s (after_steps gone.steps []) s'
    -- what a run owes its client for its calls, the replay owes for these
    pub booked : (h : History) → Booked h (means s) → Promise h gone.steps (means s) (means s')
    pub fresh : NothingLive (means s) → Promise [] gone.steps (means s) (means s')

  -- the answer to a trace on a heap from s to s', with a lent buffer from out to out': the report of a replay of what the trace records, and its length; or why the trace or the buffer is refused, and then no frame ran and the buffer is as it was
  abbrev pub Replays : List ℕ → S → S → List ℕ → List ℕ → Result ℕ Fault → Type 0
  Replays trace s s' out out' (Ok n) = (x : Recording) × (t : Tally) × (recorded trace ≡ Ok x) × Replayed x.actions t s s' × Writes (report_text (pile_number x.pile) t) out out' (Ok n)
  Replays trace s s' out out' (Err f) = ((recorded trace ≡ Err f) ⊎ ((x : Recording) × (recorded trace ≡ Ok x) × (length out < 256) × (f ≡ raised ReportBuffer Replay 256))) × (s' ≡ s) × (out' ≡ out)

-- What a trace says: the pile that its head names and the actions behind it, or the first test that it fails.
use Rattle.std.specs.Prelude.{ℕ, ◌+◌, ◌%◌, cond, ◌&&◌, List, [], ◌∷◌, ◌++◌, length, Ok, Err, Result, ◌==◌, nat_le}
use Rattle.heap.specs.declared.fault.Cause.{Cause}
use Rattle.heap.specs.declared.fault.Cause.TheVariants.{TraceLength}
use Rattle.heap.specs.declared.fault.Fault.{Fault}
use Rattle.heap.specs.declared.fault.Kind.TheVariants.{Replay}
use Rattle.heap.specs.Faults.{raised, and_then}
use Rattle.trace.specs.declared.frame.Frame.{Frame}
use Rattle.trace.specs.declared.frame.Action.{Action}
use Rattle.trace.specs.declared.frame.Pile.{Pile}
use Rattle.trace.specs.Frames.{frames_of, pile_of, action_of}

abbrev pub listed : Result Action Cause → List Action
listed (Ok a) = a ∷ []
listed (Err c) = []

pub record Recording : Type 0 where
  pub pile : Pile
  pub actions : List Action

-- what the test of frame k found, as the answer for the trace
abbrev pub at_frame : {A : Type 0} → ℕ → Result A Cause → Result A Fault
at_frame k (Ok a) = Ok a
at_frame k (Err c) = Err (raised c Replay k)

-- the actions of frames numbered from k on, or the fault of the first that has one
abbrev pub actions_from : ℕ → List Frame → Result (List Action) Fault
actions_from k [] = Ok []
actions_from k (f ∷ fs) = and_then (at_frame k (action_of f)) (λ a. and_then (actions_from (k + 1) fs) (λ rest. Ok (a ∷ rest)))

-- the actions among frames: a head asks for none
abbrev pub actions_in : List Frame → List Action
actions_in [] = []
actions_in (f ∷ fs) = listed (action_of f) ++ actions_in fs

-- a trace that is empty, too long or not whole frames
abbrev pub bad_length : Fault
bad_length = raised TraceLength Replay 0

abbrev pub recording_of : List Frame → Result Recording Fault
recording_of [] = Err bad_length
recording_of (f ∷ fs) = and_then (at_frame 0 (pile_of f)) (λ p. and_then (actions_from 1 fs) (λ rest. Ok (record { pile = p; actions = rest })))

-- the length is tested first, then frame after frame
abbrev pub recorded : List ℕ → Result Recording Fault
recorded bytes = cond (nat_le (length bytes) 32766 && length bytes % 6 == 0) (recording_of (frames_of bytes)) (Err bad_length)

-- the pile of a recording
abbrev pub recorded_pile : Result Recording Fault → Result Pile Fault
recorded_pile r = and_then r (λ x. Ok x.pile)

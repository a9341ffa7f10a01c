use Rattle.std.proofs.Common.{◌≡◌, ◌+◌, ◌≤◌, length}
use Rattle.trace.specs.Frames.{frames_of, frames_left}
use Rattle.trace.specs.Recordings.{recorded_pile, recording_of}
use Rattle.trace.proofs.Testing.{pile_unless}
use Rattle.trace.proofs.recording.check_frames.Given as goal

-- what is left decides, and there are few frames
abbrev pub invariant-loop-frame : goal.invariant-loop-frame
invariant-loop-frame l = record {
  decides : recorded_pile (recording_of (frames_of l.trace)) ≡ pile_unless l.pile l.frame-iterator.b.start (frames_left l.frame-iterator.a);
  few : l.frame-iterator.b.start + length (frames_left l.frame-iterator.a) ≤ 5462;
}

use Rattle.std.proofs.Common.{◌≡◌, ◌*◌, ◌++◌, take, drop}
use Rattle.trace.specs.Frames.{trace_bytes, frames_of}
use Rattle.trace.proofs.recording.write_trace.Given as goal

abbrev pub invariant-loop-i : goal.invariant-loop-i
invariant-loop-i l =
    (l.out ≡ trace_bytes (take l.i l.frames) ++ drop (6 * l.i) l.initial.out)
    × (frames_of (trace_bytes (take l.i l.frames)) ≡ take l.i l.frames)

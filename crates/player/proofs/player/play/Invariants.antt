use Rattle.std.proofs.Common.{◌≡◌, ◌+◌, ◌≤◌, List, ◌++◌, length}
use Rattle.trace.specs.declared.frame.Action.{Action}
use Rattle.trace.specs.Frames.{frames_of, frames_left}
use Rattle.trace.specs.Recordings.{actions_in}
use Rattle.report.specs.declared.tally.Outcome.{Outcome}
use Rattle.player.specs.Replays.{Going}
use Rattle.player.proofs.player.play.Given as goal

-- the actions so far, and those of the frames that are left
abbrev pub invariant-loop-frame : goal.invariant-loop-frame
invariant-loop-frame g l =
    (xs : List Action) × (os : List Outcome)
    × (actions_in (frames_of l.trace) ≡ xs ++ actions_in (frames_left l.frame-iterator))
    × (length os + length (frames_left l.frame-iterator) ≤ 5461)
    × Going g.H.Meant.means g.H.Meant.keeps xs os l.player.slots.table l.player.tally l.initial.heap l.heap

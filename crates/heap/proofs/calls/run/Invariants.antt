use Rattle.std.proofs.Common.{◌≡◌, take}
use Rattle.heap.specs.Histories.{History}
use Rattle.heap.specs.Runs.{Ran, calls, after_steps}
use Rattle.heap.proofs.calls.run.Given as goal

-- the steps so far ran, and the pile keeps them over any history that it kept before
abbrev pub invariant-loop-step : goal.invariant-loop-step
invariant-loop-step g l =
    (calls l.steps ≡ calls l.initial.steps)
    × Ran (take l.step-index l.steps) (g.P.Meant.means l.initial.pile) (g.P.Meant.means l.pile)
    × ((from : g.row.P.Denot) (h : History) → g.P.Meant.keeps from h l.initial.pile → g.P.Meant.keeps from (after_steps (take l.step-index l.steps) h) l.pile)

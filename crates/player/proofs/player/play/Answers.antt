use Rattle.std.proofs.Common.{◌≡◌, List, [], ◌∷◌, ◌++◌, length, Ok, sym, ap, ◌∙◌, subst, arith}
use Rattle.std.proofs.lemmas.List.{append-nil, length_push}
use Rattle.trace.specs.declared.frame.Frame.{Frame}
use Rattle.trace.specs.declared.frame.Action.{Action}
use Rattle.trace.specs.declared.frame.Frames.{Frames}
use Rattle.trace.specs.Frames.{frames_of, frames_left}
use Rattle.trace.proofs.Reading.{length_frames}
use Rattle.trace.specs.Recordings.{actions_in}
use Rattle.player.specs.Replays.{Replayed}
use Rattle.player.proofs.Underway.{actions_next, going_none, replayed}
use Rattle.player.proofs.player.play.Goals as goal

pub loop-frame-init : goal.loop-frame-init
loop-frame-init g c =
    let e = c.new-player.ensures in
    let all : frames_left c.into_iter-frame-iterator.result ≡ frames_of c.args.trace.now = ap (λ (z : Frames). frames_left z) c.into_iter-frame-iterator.ensures.into_iter_gives ∙ c.new-frame-items.ensures in
    let n = length_frames c.args.trace.now in
    let few = c.requires in
    let long = ap length all in
    ([], [], ap (λ (z : List Frame). actions_in z) (sym all), omega arith, going_none g.H.Meant.means g.H.Meant.keeps c.args.heap.now c.new-player.result.slots.table c.new-player.result.tally e.slots e.tally)

pub loop-frame-preserved-in-Ok : goal.loop-frame-preserved-in-Ok
loop-frame-preserved-in-Ok g c =
    let inv = c.loop-frame.invariant in
    let s = c.in-Some.ensures.steps in
    let fewer = ap length s in
    let few = inv.3 in
    let t = c.turn.ensures c.args.heap.now inv.0 inv.1 (omega arith) inv.4 in
    let long = length_push inv.1 t.0 in (
      inv.0 ++ (c.in-Ok.action ∷ []),
      inv.1 ++ (t.0 ∷ []),
      actions_next c.in-Some.frame _ (frames_left c.next.new.self) inv.0 _ (Ok c.in-Ok.action) s inv.2 (sym c.in-Ok.ensures),
      omega arith,
      t.1,
    )

pub returns : goal.returns
returns g c =
    let inv = c.loop-frame.invariant in
    let none : frames_left c.loop-frame.frame-iterator ≡ [] = c.in-None.ensures.steps.0 in
    let all : actions_in (frames_of c.args.trace.now) ≡ inv.0 = inv.2 ∙ ap (λ (z : List Frame). inv.0 ++ actions_in z) none ∙ append-nil inv.0 in
    subst (λ (z : List Action). Replayed g.H.Meant.means g.H.Meant.keeps z c.loop-frame.player.tally c.args.heap.now c.loop-frame.heap) (sym all)
    (replayed g.H.Meant.means g.H.Meant.keeps g.H.Meant.lawful g.H.Meant.begins inv.0 inv.1 c.loop-frame.player.slots.table c.loop-frame.player.tally c.args.heap.now c.loop-frame.heap inv.4)

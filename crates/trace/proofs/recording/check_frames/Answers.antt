use Rattle.std.proofs.Common.{◌≡◌, ℕ, List, ◌∷◌, length, Some, None, Option, Ok, ok_or, sym, ap, ◌∙◌, arith}
use Rattle.std.specs.declared.iter.Zip.{Zip}
use Rattle.std.specs.declared.ops.RangeFrom.{RangeFrom}
use Rattle.heap.specs.declared.fault.Cause.TheVariants.{TraceLength}
use Rattle.trace.specs.declared.frame.Frame.{Frame}
use Rattle.trace.specs.declared.frame.Frames.{Frames}
use Rattle.trace.specs.Frames.{frames_of, frames_left}
use Rattle.trace.specs.Recordings.{recorded_pile, recording_of, at_frame}
use Rattle.trace.proofs.Reading.{length_frames}
use Rattle.trace.proofs.Testing.{headed}
use Rattle.trace.proofs.recording.check_frames.Goals as goal

some_head : (r : Option Frame) (f : Frame) → at_frame 0 (ok_or r TraceLength) ≡ Ok f → r ≡ Some f
some_head (Some g) f e = cc
some_head None f e = cc

pub loop-frame-init : goal.loop-frame-init
loop-frame-init c =
    let f = c.in_ok-head.head in
    let fs = frames_left c.next.new.self in
    let it = c.into_iter-frame-iterator.result in
    let given = some_head c.next.result f (let a = c.at_frame.ensures in let o = c.ok_or.ensures.value in let w = c.in_ok-head.was in cc) in
    let begins : frames_of c.args.trace.now ≡ f ∷ fs = sym c.new-frames.ensures ∙ (rw given at c.next.ensures.steps) in
    let n = length_frames c.args.trace.now in
    let fewer = ap length begins in
    let rest : frames_left it.a ≡ fs = ap (λ (z : Frames). frames_left z) (ap (λ (z : Zip Frames (RangeFrom ℕ)). z.a) c.into_iter-frame-iterator.ensures.into_iter_gives ∙ c.zip-frame-items.ensures.first) in
    let first : it.b.start ≡ 1 = ap (λ (z : Zip Frames (RangeFrom ℕ)). z.b.start) c.into_iter-frame-iterator.ensures.into_iter_gives ∙ ap (λ (z : RangeFrom ℕ). z.start) c.zip-frame-items.ensures.second in
    record {
      decides = rw (rest, first) (ap (λ (z : List Frame). recorded_pile (recording_of z)) begins ∙ headed f fs c.in_ok-pile.pile (let q = c.in_ok-pile.ensures in let p = c.pile.ensures in cc));
      few = rw (rest, first) (omega arith);
    }

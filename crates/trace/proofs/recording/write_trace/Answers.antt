use Rattle.std.proofs.Common.{◌+◌, ◌*◌, ◌<◌, ◌≤◌, length, sym, ap, ◌∙◌, arith}
use Rattle.trace.specs.declared.frame.Frame.{Frame}
use Rattle.trace.specs.Frames.{frames_of}
use Rattle.trace.proofs.Reading.{read_more, write_more}
use Rattle.trace.proofs.recording.write_trace.Goals as goal

pub loop-i-preserved : goal.loop-i-preserved
loop-i-preserved c =
    let fs = c.args.frames.now in
    let i = c.loop-i.i in
    let d : Frame = record { kind = 0; id = 0; number = 0 } in
    let lt : i < length fs = c.loop-i-test.true in
    let room : 6 * i + 6 ≤ length c.args.out.now = let l = c.if-out-frames.false in omega arith in
    let b = c.to_bytes-bytes.ensures in (
      write_more fs i d c.args.out.now c.loop-i.out c.copy_from_slice.new.self lt room (c.copy_from_slice.ensures.after ∙ b.bytes) c.loop-i.invariant.0,
      read_more fs i d lt (sym (ap frames_of b.bytes) ∙ b.frames) c.loop-i.invariant.1,
    )

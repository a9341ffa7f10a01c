use Rattle.std.proofs.Common.{◌≤◌, length, arith, ltb-false}
use Rattle.trace.proofs.Reading.{read_frames}
use Rattle.trace.proofs.frame.read_frame.Goals as goal

pub returns-in-len6-up-clause-frames : goal.returns-in-len6-up-clause-frames
returns-in-len6-up-clause-frames c =
    let xs = c.args.trace.now in
    let some : 6 ≤ length xs = omega (arith, ltb-false) in
    read_frames xs c.from_be_bytes-number.result some c.from_be_bytes-number.ensures

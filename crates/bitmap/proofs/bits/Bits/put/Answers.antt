use Rattle.std.proofs.Common.{◌/◌, ◌%◌, ◌<◌, length, arith}
use Rattle.std.proofs.lemmas.Nat.{one_shl}
use Rattle.bitmap.proofs.Flips.{flipped}
use Rattle.bitmap.proofs.bits.Bits.put.Goals as goal

pub returns-then-has-b : goal.returns-then-has-b
returns-then-has-b c =
    let ws = c.args.self.now.words in
    let i = c.args.i in
    let l : i / 64 < length ws = omega arith in
    flipped ws i c.args.b l (rw c.has.ensures at c.if-has-b.true) _ (one_shl (i % 64) 64 (omega arith))

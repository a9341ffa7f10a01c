use Rattle.std.proofs.Common.{◌≡◌, List, ℕ, [], ◌∷◌, get_or, subst, arith}
use Rattle.report.specs.Lines.{hex_byte}
use Rattle.report.specs.Pages.{Wrote}
use Rattle.report.proofs.Laying.{wrote_on, length_out, room_at, wrote_at}
use Rattle.report.proofs.lines.Page.digits.Goals as goal

pub push-requires : goal.push-requires
push-requires c =
    let two = room_at hex_byte c.args.bytes.now c.args.self.now c.loop-byte.self c.loop-byte.byte-index c.loop-byte.invariant 0 c.loop-byte-test.true c.requires in
    omega arith

pub push-requires-in-loop-byte : goal.push-requires-in-loop-byte
push-requires-in-loop-byte c =
    let two = room_at hex_byte c.args.bytes.now c.args.self.now c.loop-byte.self c.loop-byte.byte-index c.loop-byte.invariant 0 c.loop-byte-test.true c.requires in
    let l = length_out c.loop-byte.self c.push.new.self (c.digit.result ∷ []) c.push.ensures in
    let e = c.push.ensures.end in
    omega arith

pub loop-byte-preserved : goal.loop-byte-preserved
loop-byte-preserved c =
    let b = get_or c.args.bytes.now c.loop-byte.byte-index 0 in
    let two = wrote_on c.loop-byte.self c.push.new.self c.push-in-loop-byte.new.self (c.digit.result ∷ []) (c.digit-in-loop-byte.result ∷ []) c.push.ensures c.push-in-loop-byte.ensures in
    let same : c.digit.result ∷ c.digit-in-loop-byte.result ∷ [] ≡ hex_byte b = let h = c.digit.ensures in let l = c.digit-in-loop-byte.ensures in cc in
    wrote_at hex_byte c.args.bytes.now c.args.self.now c.loop-byte.self c.loop-byte.byte-index c.loop-byte.invariant 0 c.push-in-loop-byte.new.self c.loop-byte-test.true
    (subst (λ (t : List ℕ). Wrote c.loop-byte.self t c.push-in-loop-byte.new.self) same two)

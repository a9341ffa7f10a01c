use Rattle.std.proofs.Common.{ℕ, ◌+◌, ◌-◌, subst, arith}
use Rattle.boundary_tag.specs.Chunks.{Written}
use Rattle.boundary_tag.proofs.Carving.{carved_whole, carved_part}
use Rattle.boundary_tag.proofs.BoundaryTag.grant.Goals as goal

pub returns-then-live-chunk : goal.returns-then-live-chunk
returns-then-live-chunk c =
    let k = c.args.offer.chunk in
    let n = c.args.offer.size in
    let most = c.args.offer.most in
    let room = c.requires in
    let w = c.write.ensures in
    let long = w.long in
    carved_whole k.start k.length n c.args.self.now.region.now c.write.new.region c.paint.new.region w (c.paint.ensures.inside (omega arith)) c.if-live-chunk.true

pub returns : goal.returns
returns c =
    let k = c.args.offer.chunk in
    let n = c.args.offer.size in
    let most = c.args.offer.most in
    let room = c.requires in
    let w = c.write.ensures in
    let long = w.long in
    let ne = c.if-live-chunk.false in
    let rest = subst (λ (z : ℕ). Written z (k.length - (n + 16)) 0 c.paint.new.region c.write-2.new.region) c.end.ensures c.write-2.ensures in
    carved_part k.start k.length n c.args.self.now.region.now c.write.new.region c.paint.new.region w (c.paint.ensures.inside (omega arith)) c.write-2.new.region (c.args.offer.rest (omega arith)) rest

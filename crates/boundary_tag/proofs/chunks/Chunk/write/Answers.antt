use Rattle.std.proofs.Common.{◌+◌, ◌-◌, subst}
use Rattle.boundary_tag.specs.Chunks.{Chunk, Tagged}
use Rattle.boundary_tag.specs.States.{state_number}
use Rattle.boundary_tag.specs.Ends.{written}
use Rattle.boundary_tag.proofs.chunks.Chunk.write.Goals as goal

pub returns : goal.returns
returns c =
    let at = c.args.self in
    let xs = c.args.region.now in
    let ys = c.write.new.region in
    let zs = c.write-2.new.region in
    let tag = c.new-tag.ensures in
    written at.start at.length (state_number at.state) xs ys zs at.some
    (subst (λ (t : Chunk). Tagged at.start t.0 t.1 xs ys) tag c.write.ensures)
    (subst (λ (t : Chunk). Tagged (at.start + (at.length - 8)) t.0 t.1 ys zs) tag c.write-2.ensures)

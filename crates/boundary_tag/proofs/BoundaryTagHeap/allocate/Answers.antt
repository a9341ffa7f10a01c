use Rattle.std.proofs.Common.{◌+◌, Ok, length, arith}
use Rattle.heap.specs.Meaning.{Block}
use Rattle.boundary_tag.specs.Chunks.{Grants}
use Rattle.boundary_tag.specs.Laws.{fresh, span_within}
use Rattle.boundary_tag.proofs.Carving.{chosen, fresh_grant}
use Rattle.boundary_tag.proofs.Calls.{tag_allocates, keeps_allocates}
use Rattle.boundary_tag.proofs.BoundaryTagHeap.allocate.Goals as goal

pub grant-requires : goal.grant-requires
grant-requires c =
    let xs = c.args.self.now.region.now in
    let k = c.in_ok-offer.offer.chunk in
    let b : Block = (k.start + 8, c.in_ok-offer.offer.size) in
    let e = c.in_ok-offer.ensures in
    let f = fresh xs c.args.n b e.0 in
    let i = chosen xs c.args.n b f k.start k.length e.1 in
    let at = i.0 in
    let long = i.1 in
    let fits = f.fits in
    let w = span_within (length xs) in
    omega arith

granted : (c : goal.After-block) → Grants c.args.self.now.region.now c.grant.new.self.region.now (Ok c.block.result)
granted c =
    let xs = c.args.self.now.region.now in
    let ys = c.grant.new.self.region.now in
    let k = c.in_ok-offer.offer.chunk in
    let b : Block = (k.start + 8, c.in_ok-offer.offer.size) in
    let e = c.in_ok-offer.ensures in
    rw c.block.ensures (fresh_grant xs c.args.n b (fresh xs c.args.n b e.0) k.start k.length e.1 ys c.grant.ensures)

pub returns-clause-after : goal.returns-clause-after
returns-clause-after c = tag_allocates c.args.self.now.region.now c.grant.new.self.region.now (Ok c.block.result) (granted c)

pub returns-clause-kept : goal.returns-clause-kept
returns-clause-kept c = λ from h k. keeps_allocates c.args.self.now.region.now c.grant.new.self.region.now from.region.now h c.args.n (Ok c.block.result) (granted c) k

pub returns-clause-chunks : goal.returns-clause-chunks
returns-clause-chunks c = granted c

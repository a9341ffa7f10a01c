use Rattle.std.proofs.Common.{◌≡◌, Some, None, Err, Option, sym, refl, ap, ◌∙◌, rules, tests}
use Rattle.std.specs.List.{find}
use Rattle.std.specs.Option.{option_map}
use Rattle.std.proofs.lemmas.Iterator.Search.{find_from_yields_List}
use Rattle.std.proofs.lemmas.Iterator.Consumers.{YieldsList-from_first}
use Rattle.std.proofs.lemmas.Result.{err_from_is_err_and}
use Rattle.heap.specs.declared.fault.Fault.{Fault}
use Rattle.heap.specs.declared.fault.Kind.TheVariants.{BoundaryTag as TagK}
use Rattle.heap.specs.declared.fault.Cause.TheVariants.{Full}
use Rattle.heap.specs.Faults.{raised}
use Rattle.boundary_tag.specs.declared.chunks.Chunk.{Chunk as Found}
use Rattle.boundary_tag.specs.Placed.{seen, ahead, has_room}
use Rattle.boundary_tag.proofs.Reading.{extent, room_found, room_none, room_some, rounded}
use Rattle.boundary_tag.proofs.BoundaryTag.room.Goals as goal

pub returns-in_err-chunk : goal.returns-in_err-chunk
returns-in_err-chunk c =
    let xs = c.args.self.now.region.now in
    let size = c.next_multiple_of-size.result in
    let e : option_map seen c.find.result ≡ find (has_room size) (ahead c.new.result) = find_from_yields_List (has_room size) _ _ c.find.result c.find.ensures.ran (YieldsList-from_first seen ahead (ahead c.new.result) refl) (λ x b q k. search (rules, tests)) in
    let f = room_found xs c.new.result size c.find.result c.new.ensures.region c.new.ensures.at e in
    let none : c.find.result ≡ None = search (rules, tests) in
    let o = room_none xs c.args.n c.in_ok-admit.field-0 size c.in_ok-admit.ensures (rounded c.in_ok-admit.field-0 size c.next_multiple_of-size.ensures.value) (f ∙ ap (λ (r : Option Found). option_map extent (option_map seen r)) none) in
    let p = err_from_is_err_and c.from_residual-in_err-chunk.result c.from_residual-in_err-chunk.ensures.1 in
    let full : c.in_err-chunk.field-0.0 ≡ raised Full TagK c.args.n = search (rules, tests) in
    rw (p.1, p.2) (o ∙ ap (λ (z : Fault). Err z) (sym full))

pub returns : goal.returns
returns c =
    let xs = c.args.self.now.region.now in
    let size = c.next_multiple_of-size.result in
    let k = c.in_ok-chunk.chunk in
    let e : option_map seen c.find.result ≡ find (has_room size) (ahead c.new.result) = find_from_yields_List (has_room size) _ _ c.find.result c.find.ensures.ran (YieldsList-from_first seen ahead (ahead c.new.result) refl) (λ x b q k. search (rules, tests)) in
    let f = room_found xs c.new.result size c.find.result c.new.ensures.region c.new.ensures.at e in
    let some : c.find.result ≡ Some k = search (rules, tests) in
    rw c.offer.ensures.chunk (room_some xs c.args.n c.in_ok-admit.field-0 size c.in_ok-admit.ensures (rounded c.in_ok-admit.field-0 size c.next_multiple_of-size.ensures.value) k.start k.length c.offer.result.size (f ∙ ap (λ (r : Option Found). option_map extent (option_map seen r)) some) c.offer.ensures.size)

use Rattle.std.proofs.Common.{◌≡◌, length, sym, refl, ap, ◌∙◌, subst, rules, tests}
use Rattle.std.specs.List.{find}
use Rattle.std.specs.Option.{option_map}
use Rattle.std.proofs.lemmas.Iterator.Search.{find_from_yields_List}
use Rattle.std.proofs.lemmas.Iterator.Consumers.{YieldsList-from_first}
use Rattle.heap.specs.Meaning.{Finds}
use Rattle.boundary_tag.specs.Chunks.{tag_span, chunks, live_in}
use Rattle.boundary_tag.specs.Placed.{seen, ahead, covers}
use Rattle.boundary_tag.specs.Walks.{laid_walk}
use Rattle.boundary_tag.proofs.Reading.{between, live_found, ahead_from}
use Rattle.boundary_tag.proofs.BoundaryTagHeap.find.Goals as goal

pub returns : goal.returns
returns c =
    let xs = c.args.self.now.region.now in
    let a = c.args.a in
    let e : option_map seen c.find.result ≡ find (covers a) (ahead c.new.result) = find_from_yields_List (covers a) _ _ c.find.result c.find.ensures.ran (YieldsList-from_first seen ahead (ahead c.new.result) refl) (λ x b q k. search (rules, tests)) in
    let m : c.map.result ≡ option_map between (option_map seen c.find.result) = search (rules, tests) in
    subst (Finds (live_in (chunks xs) 0) a) (sym (m ∙ ap (option_map between) (e ∙ ap (find (covers a)) (ahead_from xs c.new.result 0 c.new.ensures.region c.new.ensures.at)))) (live_found (tag_span (length xs)) (chunks xs) 0 a (laid_walk xs (tag_span (length xs)) 0))

use Rattle.std.proofs.Common.{option_map, sym, ap, ◌∙◌, subst, rules, tests}
use Rattle.std.proofs.lemmas.Iterator.Consumers.{YieldsList-from_first}
use Rattle.std.proofs.lemmas.Iterator.Search.{find_from_yields_List}
use Rattle.heap.specs.Meaning.{Finds}
use Rattle.bump.specs.Table.{table, live_in, placed}
use Rattle.bump.specs.Headers.{seen, left}
use Rattle.bump.proofs.Readings.{covering, block_of, found_block, finds_in}
use Rattle.bump.proofs.BumpHeap.find.Goals as goal

pub returns : goal.returns
returns c =
    let cs = table c.args.self.now.region.now c.args.self.now.cursor in
    let e = find_from_yields_List (covering c.args.a) _ _ c.find.result c.find.ensures.ran (YieldsList-from_first seen left (placed cs 0) c.headers.ensures) (λ x b q k. search (rules, tests)) in
    subst (Finds (live_in cs 0) c.args.a) (sym (found_block c.find.result c.map.result c.map.ensures.cases ∙ ap (option_map block_of) e)) (finds_in cs 0 c.args.a)

use Rattle.std.proofs.Common.{◌≡◌, ℕ, ◌≤◌, List, map, ap, ◌∙◌, refl, arith}
use Rattle.std.proofs.lemmas.Iterator.{items_from_drains}
use Rattle.std.proofs.lemmas.Iterator.Consumers.{YieldsList-from_first}
use Rattle.bump.specs.Table.{bound_of, table, end_in, placed}
use Rattle.bump.specs.Headers.{seen, left}
use Rattle.bump.specs.Walks.{laid_walk}
use Rattle.bump.proofs.Readings.{ends, ends_match, last_ends, end_within}
use Rattle.bump.proofs.Bump.end.Goals as goal

within : (xs : List ℕ) (cursor : ℕ) → end_in (table xs cursor) 0 ≤ 65536
within xs cursor = let w = end_within (bound_of xs cursor) (table xs cursor) 0 (laid_walk xs (bound_of xs cursor) 0) (omega arith) in omega arith

pub returns-clause-value : goal.returns-clause-value
returns-clause-value c =
    let cs = table c.args.self.now.region.now c.args.self.now.cursor in
    let ran = c.last.ensures.ran in
    let drained = ran.1 in
    let items : map seen ran.0 ≡ placed cs 0 = items_from_drains ran.0 (drained.1.0, drained.1.1, λ _. (drained.0, drained.1.2)) (YieldsList-from_first seen left (placed cs 0) c.headers.ensures) in
    let value : c.map_or.result ≡ end_in cs 0 = ends_match c.last.result c.map_or.result c.map_or.ensures ∙ ap ends ran.2 ∙ last_ends cs ran.0 0 _ items refl in
    value

use Rattle.std.proofs.Common.{rules, ℕ, sym, ◌∙◌}
use borrow.Author.Tests.{tests}
use Rattle.std.proofs.lemmas.Iterator.{YieldsList-from_map}
use Rattle.std.proofs.lemmas.Iterator.Search.{find_from_yields_List}
use Rattle.std.proofs.lemmas.Iterator.Adapters.{YieldsList-from_rev_slice, option_map_id}
use Rattle.free_list.specs.FreeList.{listed}
use Rattle.free_list.proofs.Reading.{long_enough, find_newest}
use Rattle.free_list.proofs.free_list.FreeList.newest.Goals as goal

pub returns : goal.returns
returns g c =
    let s = c.args.self.now in
    let live = (g.H.Meant.means s.below).live in
    let held = listed s.held in
    sym (option_map_id c.find.result)
    ∙ find_from_yields_List (long_enough c.args.size) _ _ c.find.result c.find.ensures.ran
    (YieldsList-from_map _ (λ (a : ℕ). (a, live a)) (YieldsList-from_rev_slice held (cc)) c.map.ensures.closure (λ x r q k. search (rules, tests)))
    (λ x b q k. search (rules, tests))
    ∙ find_newest live c.args.size held

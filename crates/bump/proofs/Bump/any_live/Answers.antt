use Rattle.std.proofs.Common.{◌∙◌, rules, tests}
use Rattle.std.proofs.lemmas.Iterator.Consumers.{YieldsList-from_first}
use Rattle.std.proofs.lemmas.Iterator.Search.{any_from_yields_List}
use Rattle.bump.specs.Table.{table, placed}
use Rattle.bump.specs.Headers.{seen, left}
use Rattle.bump.proofs.Readings.{alive, any_alive}
use Rattle.bump.proofs.Bump.any_live.Goals as goal

pub returns : goal.returns
returns c =
    let cs = table c.args.self.now.region.now c.args.self.now.cursor in
    any_from_yields_List alive _ _ c.any.result c.any.ensures.ran (YieldsList-from_first seen left (placed cs 0) c.headers.ensures) (λ x b q k. search (rules, tests)) ∙ any_alive cs 0

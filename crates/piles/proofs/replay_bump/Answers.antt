use Rattle.std.proofs.Common.{length, refl, ap, ◌∙◌}
use Rattle.piles.specs.Piles.{one}
use Rattle.piles.proofs.replay_bump.Goals as goal

pub returns : goal.returns
returns c =
    let e = c.new-pile.ensures in
    one c.new-pile.result c.replay.new.heap (record { region = ap length e.region ∙ refl; cursor = e.cursor }) c.replay.ensures

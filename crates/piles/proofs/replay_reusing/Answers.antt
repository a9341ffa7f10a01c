use Rattle.std.proofs.Common.{length, refl, ap, ◌∙◌}
use Rattle.heap.specs.declared.rounding.Power.{Power}
use Rattle.bitmap.specs.declared.Bitmap.{Bitmap}
use Rattle.layers.specs.declared.rounded.Rounded.{Rounded}
use Rattle.piles.specs.Piles.{two}
use Rattle.piles.proofs.replay_reusing.Goals as goal

pub returns : goal.returns
returns c =
    let e = c.new.ensures in
    two c.new.result (record { region = ap length e.region ∙ refl; used = e.used; first = e.first }) (record {
      start = c.new-pile.result;
      end = c.replay.new.heap;
      below = ap (λ (z : Rounded Bitmap Power). z.below) c.new-pile.ensures.below ∙ c.new-rounded.ensures.below;
      held = c.new-pile.ensures.held;
      replays = c.replay.ensures;
    })

use Rattle.std.proofs.Common.{◌∙◌}
use Rattle.layers.specs.Rationed.{paid_granted}
use Rattle.layers.proofs.quota.QuotaHeap.allocate.Goals as goal

pub returns-clause-kept : goal.returns-clause-kept
returns-clause-kept g c =
    let e = c.charge.ensures in
    let w = g.H.Meant.lawful c.args.self.now.below in
    λ from h k. record {
      limit = e.limit ∙ k.limit;
      paid = λ p. paid_granted _ _ _ _ _ _ e.limit c.args.n c.charge.result w e.answer e.account e.after (k.paid p);
      below = e.kept from.below h k.below;
    }

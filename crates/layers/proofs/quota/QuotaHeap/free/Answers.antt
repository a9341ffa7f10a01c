use Rattle.std.proofs.Common.{◌∙◌}
use Rattle.heap.proofs.Offers.{own_after_free}
use Rattle.layers.specs.Rationed.{paid_freed}
use Rattle.layers.proofs.quota.QuotaHeap.free.Goals as goal

pub returns-clause-kept : goal.returns-clause-kept
returns-clause-kept g c =
    let e = c.credit.ensures in
    let a = c.args.a in
    let r = c.credit.result in
    let m = g.H.Meant.means c.args.self.now.below in
    let w = g.H.Meant.lawful c.args.self.now.below in
    λ from h k. rw (c.make_own.ensures, own_after_free) (record {
      limit = e.limit ∙ k.limit;
      paid = λ p. paid_freed _ _ _ _ _ _ e.limit a r w e.answer e.account e.after (k.paid p);
      below = e.kept from.below h k.below;
    })

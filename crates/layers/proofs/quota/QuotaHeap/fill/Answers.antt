use Rattle.heap.proofs.Offers.{own_after_fill}
use Rattle.layers.specs.Rationed.{paid_filled}
use Rattle.layers.proofs.quota.QuotaHeap.fill.Goals as goal

pub returns-clause-kept : goal.returns-clause-kept
returns-clause-kept g c =
    let e = c.fill.ensures in
    let a = c.args.a in
    let r = c.fill.result in
    let m = g.H.Meant.means c.args.self.now.below in
    λ from h k. rw (c.make_own.ensures, own_after_fill) (record {
      limit = k.limit;
      paid = λ p. paid_filled _ _ a c.args.c c.args.b _ _ r e.after (k.paid p);
      below = e.kept from.below h k.below;
    })

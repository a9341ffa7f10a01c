use Rattle.std.proofs.Common.{arith}
use Rattle.layers.specs.Affixed.{asked}
use Rattle.layers.proofs.affix.AffixHeap.offer.Goals as goal

pub overflow_add-result : goal.overflow_add-result
overflow_add-result g c = let e = (asked (g.H.Meant.means c.args.self.now.below) (g.H.Meant.lawful c.args.self.now.below) c.args.n c.in_ok-n.n _ _ _ (c.in_ok-start.start, c.in_ok-start.length) c.admit.ensures c.in_ok-n.was c.offer.ensures c.hand_up.ensures c.in_ok-start.was).ends in let l = (asked (g.H.Meant.means c.args.self.now.below) (g.H.Meant.lawful c.args.self.now.below) c.args.n c.in_ok-n.n _ _ _ (c.in_ok-start.start, c.in_ok-start.length) c.admit.ensures c.in_ok-n.was c.offer.ensures c.hand_up.ensures c.in_ok-start.was).long in omega arith

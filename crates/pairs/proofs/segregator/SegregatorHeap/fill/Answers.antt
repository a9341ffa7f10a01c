use Rattle.pairs.specs.Pairs.{by_size}
use Rattle.pairs.proofs.segregator.SegregatorHeap.fill.Goals as goal

pub returns-clause-after : goal.returns-clause-after
returns-clause-after g c = c.fill.ensures.after (by_size c.args.self.now.threshold)

use Rattle.heap.specs.declared.fault.Kind.TheVariants.{Segregator as SegregatorK}
use Rattle.pairs.specs.Pairs.{by_size}
use Rattle.pairs.proofs.segregator.SegregatorHeap.relief.Goals as goal

pub returns-clause-after : goal.returns-clause-after
returns-clause-after g c = c.relief.ensures.after SegregatorK (by_size c.args.self.now.threshold)

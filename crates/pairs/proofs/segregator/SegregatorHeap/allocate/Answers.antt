use Rattle.heap.specs.declared.fault.Kind.TheVariants.{Segregator as SegregatorK}
use Rattle.pairs.specs.Pairs.{by_size}
use Rattle.pairs.proofs.segregator.SegregatorHeap.allocate.Goals as goal

pub returns-then-is_small-clause-after : goal.returns-then-is_small-clause-after
returns-then-is_small-clause-after g c =
    let s = c.args.self.now in
    let e = c.allocate_first.ensures in
    e.after SegregatorK (by_size s.threshold)

pub returns-else-is_small-clause-after : goal.returns-else-is_small-clause-after
returns-else-is_small-clause-after g c =
    let s = c.args.self.now in
    let e = c.allocate_second.ensures in
    e.after (by_size s.threshold)

use Rattle.heap.specs.declared.fault.Kind.TheVariants.{Fallback as FallbackK}
use Rattle.pairs.specs.Pairs.{by_refusal}
use Rattle.pairs.proofs.fallback.FallbackHeap.relief.Goals as goal

pub returns-clause-after : goal.returns-clause-after
returns-clause-after g c = c.relief.ensures.after FallbackK by_refusal

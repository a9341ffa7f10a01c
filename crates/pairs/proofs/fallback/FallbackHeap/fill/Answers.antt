use Rattle.pairs.specs.Pairs.{by_refusal}
use Rattle.pairs.proofs.fallback.FallbackHeap.fill.Goals as goal

pub returns-clause-after : goal.returns-clause-after
returns-clause-after g c = c.fill.ensures.after by_refusal

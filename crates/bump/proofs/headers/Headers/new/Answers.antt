use Rattle.std.proofs.Common.{ℕ, min, ap, ◌∙◌}
use Rattle.bump.specs.Table.{walk, placed}
use Rattle.bump.specs.Headers.{left}
use Rattle.bump.proofs.headers.Headers.new.Goals as goal

pub returns : goal.returns
unfolding left
returns c = ap (λ (bound : ℕ). placed (walk c.args.region.now bound 0) 0) (c.min.ensures ∙ ap (min c.args.cursor) c.used_span.ensures)

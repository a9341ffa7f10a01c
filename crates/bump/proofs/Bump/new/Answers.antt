use Rattle.bump.proofs.Calls.{bump_none}
use Rattle.std.proofs.Common.{refl}
use Rattle.bump.proofs.Bump.new.Goals as goal

pub returns-clause-nothing : goal.returns-clause-nothing
returns-clause-nothing c = bump_none c.args.region.now 0 refl

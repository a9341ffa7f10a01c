use Rattle.layers.specs.Accounts.{none_paid}
use Rattle.layers.proofs.quota.Quota.new.Goals as goal

pub returns-clause-paid : goal.returns-clause-paid
returns-clause-paid g c = none_paid c.args.limit (g.H.Meant.means c.args.below)

use Rattle.std.proofs.Common.{sym, ◌∙◌}
use Rattle.heap.proofs.Checked.{begun_is}
use Rattle.heap.proofs.interface.length_at.Goals as goal

pub returns : goal.returns
returns g c = c.begun_at.ensures ∙ sym (begun_is _ (g.H.Meant.lawful c.args.heap.now) c.args.a c.find.result c.find.ensures)

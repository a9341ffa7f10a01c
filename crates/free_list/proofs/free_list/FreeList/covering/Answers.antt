use Rattle.std.proofs.Common.{sym}
use Rattle.free_list.specs.FreeList.{listed}
use Rattle.free_list.specs.Unheld.{finds_held}
use Rattle.free_list.proofs.free_list.FreeList.covering.Goals as goal

pub returns-then-contains : goal.returns-then-contains
returns-then-contains g c =
    let s = c.args.self.now in
    finds_held (g.H.Meant.means s.below) (listed s.held) c.args.a c.in_ok-block.block
    (g.H.Meant.lawful s.below) c.in_ok-block.ensures (sym c.if-contains.ensures)

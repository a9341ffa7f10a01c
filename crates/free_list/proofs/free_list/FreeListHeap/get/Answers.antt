use Rattle.std.proofs.Common.{sym, refl}
use Rattle.heap.specs.declared.fault.Kind.TheVariants.{FreeList as FreeListK}
use Rattle.heap.proofs.Checked.{get_checked}
use Rattle.heap.proofs.Offers.{own_get}
use Rattle.free_list.specs.FreeLists.{unheld, free_listed}
use Rattle.free_list.specs.FreeList.{listed}
use Rattle.free_list.specs.Unheld.{covered_below}
use Rattle.free_list.specs.FreeListed.{free_listed_lawful}
use Rattle.free_list.proofs.free_list.FreeListHeap.get.Goals as goal

pub returns : goal.returns
returns g c =
    let s = c.args.self.now in
    let m = g.H.Meant.means s.below in
    let held = listed s.held in
    let a = c.args.a in
    let L = g.R.Rounding.LARGEST in
    let R = g.R.Rounding.rounds in
    let t = get_checked FreeListK (free_listed L R held m) (free_listed_lawful L R held m g.R.Rounding.lawful (g.H.Meant.lawful s.below)) a c.covering.result c.covering.ensures in
    let i = t.accepted (sym c.in_ok-check_get.ensures) in
    rw c.make_own.ensures (own_get FreeListK m.kind (unheld held m.live) m.live a a m.byte m.byte c.get.result (covered_below held m.live a 1) (λ _. i) refl c.get.ensures)

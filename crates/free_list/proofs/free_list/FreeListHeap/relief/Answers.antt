use Rattle.std.proofs.Common.{rules}
use Rattle.free_list.specs.FreeList.{listed}
use Rattle.free_list.specs.Keeping.{relieved_keeps}
use Rattle.free_list.proofs.free_list.FreeListHeap.relief.Goals as goal

pub returns-clause-kept : goal.returns-clause-kept
returns-clause-kept g c =
    let s = c.args.self.now in
    let s' = c.release.new.self in
    let m = g.H.Meant.means s.below in
    let e = c.release.ensures in
    λ from h k.
    relieved_keeps g.R.Rounding.rounds (listed from.held) (g.H.Meant.means from.below).live (listed s.held) (listed s'.held) m.live _ (λ q. g.H.Meant.keeps from.below q s.below) _ h k e.held
    (λ a. search rules)
    (λ q l p. let sent = e.kept from.below q l p in search rules)

use Rattle.std.proofs.Common.{◌≡◌, [], take}
use Rattle.heap.specs.Histories.{History}
use Rattle.free_list.specs.FreeLists.{Released, AllLive, freed_in_turn}
use Rattle.free_list.specs.FreeList.{listed}
use Rattle.free_list.proofs.free_list.FreeList.release.Given as goal

-- none is held, and the first of those that were are freed below
abbrev pub invariant-loop-a : goal.invariant-loop-a
invariant-loop-a g l =
    let held = l.a-items in
    let m = g.H.Meant.means l.initial.self.below in
    (listed l.self.held ≡ [])
    × Released (take l.a-index held) m (g.H.Meant.means l.self.below)
    × ((from : g.row.H.Denot) (h : History) → AllLive held m.live → g.H.Meant.keeps from h l.initial.self.below → g.H.Meant.keeps from (freed_in_turn (take l.a-index held) h) l.self.below)

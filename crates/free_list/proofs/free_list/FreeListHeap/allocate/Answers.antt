use Rattle.std.proofs.Common.{◌≤◌, sym, ◌∙◌, arith}
use Rattle.free_list.specs.FreeList.{listed}
use Rattle.free_list.specs.Newest.{serves}
use Rattle.free_list.specs.FreeListed.{asked_rounded, asked_some, answer_served, answer_fetched, served_granted, fetched_allocates}
use Rattle.free_list.specs.Keeping.{served_keeps, fetch_keeps}
use Rattle.free_list.proofs.free_list.FreeListHeap.allocate.Goals as goal

pub serve-requires : goal.serve-requires
serve-requires g c =
    let s = c.args.self.now in
    let b = c.in-Some.block in
    let k = c.in_ok-size.size in
    let v = serves (g.H.Meant.means s.below).live k (listed s.held) b (sym c.in-Some.ensures) in
    let some : 1 ≤ k = asked_some g.R.Rounding.LARGEST g.R.Rounding.rounds c.args.n k (sym c.in_ok-size.ensures) g.R.Rounding.lawful in
    record { some = omega (arith, v.long, v.entire); live = sym v.entire }

pub returns-in-Some : goal.returns-in-Some
returns-in-Some g c =
    let s = c.args.self.now in
    let m = g.H.Meant.means s.below in
    let s' = c.serve.new.self in
    let m' = g.H.Meant.means s'.below in
    let held = listed s.held in
    let held' = listed s'.held in
    let L = g.R.Rounding.LARGEST in
    let R = g.R.Rounding.rounds in
    let n = c.args.n in
    let b = c.in-Some.block in
    let k = c.in_ok-size.size in
    let e = c.serve.ensures in
    let asks = sym c.in_ok-size.ensures in
    let serving = sym c.in-Some.ensures in
    let v = serves m.live k held b serving in
    let long : R n ≤ b.1 = omega (arith, v.long, v.entire, asked_rounded L R n k asks) in
    record {
      answer = answer_served L R n k asks held m b serving;
      after = served_granted L R held held' m m' b.0 b.1 (sym v.entire) e.held e.after v.among_them (g.H.Meant.lawful s.below);
      kept = λ from h f.
          served_keeps R (listed from.held) (g.H.Meant.means from.below).live held held' m.live m'.live (λ q. g.H.Meant.keeps from.below q s.below) (λ q. g.H.Meant.keeps from.below q s'.below) h f n b.0 b.1 v.among_them (sym v.entire) e.held e.after.live long (e.kept from.below);
    }

pub returns-in-None : goal.returns-in-None
returns-in-None g c =
    let s = c.args.self.now in
    let m = g.H.Meant.means s.below in
    let s' = c.fetch.new.self in
    let m' = g.H.Meant.means s'.below in
    let held = listed s.held in
    let held' = listed s'.held in
    let L = g.R.Rounding.LARGEST in
    let R = g.R.Rounding.rounds in
    let n = c.args.n in
    let k = c.in_ok-size.size in
    let e = c.fetch.ensures in
    let asks = sym c.in_ok-size.ensures in
    record {
      answer = e.answer ∙ answer_fetched L R n k asks held m (sym c.in-None.ensures);
      after = fetched_allocates L R held held' m m' c.fetch.result e.held e.after;
      kept = λ from h f.
          fetch_keeps R (listed from.held) (g.H.Meant.means from.below).live held m m' (λ q. g.H.Meant.keeps from.below q s.below) (λ q. g.H.Meant.keeps from.below q s'.below) h f held' n k c.fetch.result (g.H.Meant.lawful s.below) (asked_rounded L R n k asks) e.answer e.held e.after (e.kept from.below);
    }

use Rattle.std.proofs.Common.{◌≡◌, ◌<◌, ◌≤◌, false, length, Ok, Err, arith}
use Rattle.heap.specs.declared.fault.Kind.TheVariants.{FreeList as FreeListK}
use Rattle.heap.proofs.Lawful.{unchanged}
use Rattle.heap.proofs.Checked.{free_checked}
use Rattle.heap.proofs.Offers.{own_free}
use Rattle.free_list.specs.Holdings.{among}
use Rattle.free_list.specs.FreeLists.{unheld, free_listed}
use Rattle.free_list.specs.FreeList.{listed}
use Rattle.free_list.specs.Unheld.{unheld_not, unheld_le, some_unheld}
use Rattle.free_list.specs.FreeListed.{held_freed, below_frees, serves_next, serves_none, free_listed_lawful}
use Rattle.free_list.specs.Keeping.{held_keeps, below_free_keeps}
use Rattle.std.proofs.lemmas.Result.{err_from_is_err_and}
use Rattle.free_list.proofs.free_list.FreeList.give_back.Goals as goal

pub returns-in_err-check_free : goal.returns-in_err-check_free
returns-in_err-check_free g c =
    let s = c.args.self.now in
    let m = g.H.Meant.means s.below in
    let held = listed s.held in
    let L = g.R.Rounding.LARGEST in
    let R = g.R.Rounding.rounds in
    let a = c.args.a in
    let p = err_from_is_err_and c.from_residual.result c.from_residual.ensures.1 in
    let t = free_checked FreeListK (free_listed L R held m) (free_listed_lawful L R held m g.R.Rounding.lawful (g.H.Meant.lawful s.below)) a c.covering.result c.covering.ensures (Err c.in_err-check_free.field-0.0) c.in_err-check_free.ensures in
    rw (p.1, p.2) (record {
      answer = t;
      after = unchanged (free_listed L R held m);
      kept = λ from h k. k;
      serves = λ from h k l. serves_none L R a _ (free_listed L R held m) (free_listed L R held m) g.R.Rounding.lawful t.0 (k.long a);
    })

pub returns : goal.returns
returns g c =
    let s = c.args.self.now in
    let m = g.H.Meant.means s.below in
    let held = listed s.held in
    let held' = listed c.push.new.self in
    let L = g.R.Rounding.LARGEST in
    let R = g.R.Rounding.rounds in
    let a = c.args.a in
    let live : 0 < unheld held m.live a = free_checked FreeListK (free_listed L R held m) (free_listed_lawful L R held m g.R.Rounding.lawful (g.H.Meant.lawful s.below)) a c.covering.result c.covering.ensures (Ok tt) c.in_ok-check_free.ensures in
    let fresh : among a held ≡ false = some_unheld held m.live a live in
    let some : 0 < m.live a = omega (arith, unheld_le held m.live a) in
    let few : length held < 16 = grind (arith, c.is_full.ensures.full, c.is_full.ensures.most, c.if-is_full.false) in
    record {
      answer = live;
      after = held_freed L R held held' m a c.push.ensures;
      kept = λ from h k. held_keeps R (listed from.held) (g.H.Meant.means from.below).live held held' m.live (λ q. g.H.Meant.keeps from.below q s.below) h k a some few c.push.ensures;
      serves = λ from h k l. serves_next L R held held' m a _ g.R.Rounding.lawful c.push.ensures (k.long a);
    }

pub returns-then-is_full : goal.returns-then-is_full
returns-then-is_full g c =
    let s = c.args.self.now in
    let m = g.H.Meant.means s.below in
    let m' = g.H.Meant.means c.free.new.self in
    let held = listed s.held in
    let L = g.R.Rounding.LARGEST in
    let R = g.R.Rounding.rounds in
    let a = c.args.a in
    let r = c.free.result in
    let e = c.free.ensures in
    let live : 0 < unheld held m.live a = free_checked FreeListK (free_listed L R held m) (free_listed_lawful L R held m g.R.Rounding.lawful (g.H.Meant.lawful s.below)) a c.covering.result c.covering.ensures (Ok tt) c.in_ok-check_free.ensures in
    let fresh : among a held ≡ false = some_unheld held m.live a live in
    let full : 16 ≤ length held = grind (arith, c.is_full.ensures.full, c.if-is_full.true) in
    record {
      answer = rw c.make_own.ensures (own_free FreeListK m.kind (unheld held m.live) m.live a a r (unheld_not held m.live a fresh) e.answer);
      after = rw c.make_own.ensures (below_frees L R held m m' a r e.after);
      kept = λ from h k. rw c.make_own.ensures (below_free_keeps R (listed from.held) (g.H.Meant.means from.below).live held m m' (λ q. g.H.Meant.keeps from.below q s.below) (λ q. g.H.Meant.keeps from.below q c.free.new.self) h k a r full fresh e.after (e.kept from.below));
      serves = λ from h k l. absurd (let z : ⊥ = omega arith in z);
    }

use Rattle.std.proofs.Common.{Err, refl}
use Rattle.std.proofs.lemmas.Result.{err_from_is_err_and}
use Rattle.heap.specs.declared.fault.Kind.TheVariants.{Bump as BumpK}
use Rattle.heap.proofs.Checked.{free_checked, free_refused}
use Rattle.bump.specs.Table.{bump_means}
use Rattle.bump.specs.Laws.{bump_lawful}
use Rattle.bump.proofs.Calls.{bump_freed, keeps_freed}
use Rattle.bump.proofs.BumpHeap.free.Goals as goal

pub returns-in_err-check_free-clause-answer : goal.returns-in_err-check_free-clause-answer
returns-in_err-check_free-clause-answer c =
    let xs = c.args.self.now.region.now in
    let cursor = c.args.self.now.cursor in
    free_refused BumpK (bump_means xs cursor) (bump_lawful xs cursor) c.args.a c.find.result c.find.ensures _ c.from_residual.result c.in_err-check_free.ensures c.from_residual.ensures.1

pub returns-in_err-check_free-clause-table : goal.returns-in_err-check_free-clause-table
returns-in_err-check_free-clause-table c =
    let xs = c.args.self.now.region.now in
    let cursor = c.args.self.now.cursor in
    let q = free_checked BumpK (bump_means xs cursor) (bump_lawful xs cursor) c.args.a c.find.result c.find.ensures (Err _) c.in_err-check_free.ensures in
    let p = err_from_is_err_and c.from_residual.result c.from_residual.ensures.1 in
    rw (p.1, p.2) (q.0, q.1, refl, refl)

pub returns : goal.returns
returns c =
    let xs = c.args.self.now.region.now in
    let ys = c.strike.new.self.region.now in
    let cursor = c.args.self.now.cursor in
    let next = c.strike.new.self.cursor in
    let s = c.strike.ensures in
    record { answer = s.was; after = bump_freed xs ys cursor next c.args.a s; kept = λ from h k. keeps_freed xs ys cursor next c.args.a s from.region.now from.cursor h k; table = s }

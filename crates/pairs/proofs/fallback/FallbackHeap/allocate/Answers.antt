use Rattle.std.proofs.Common.{sym, ◌∙◌}
use Rattle.heap.specs.declared.fault.Kind.TheVariants.{Fallback as FallbackK}
use Rattle.pairs.specs.Pairs.{by_refusal, fallen_back}
use Rattle.pairs.proofs.Calling.{then_allocates, second_answer}
use Rattle.pairs.proofs.fallback.FallbackHeap.allocate.Goals as goal

pub returns-in-Ok-clause-after : goal.returns-in-Ok-clause-after
returns-in-Ok-clause-after g c =
    let e = c.in-Ok.ensures in
    e.after FallbackK by_refusal

pub returns-in-Err : goal.returns-in-Err
returns-in-Err g c =
    let s = c.args.self.now in
    let s' = c.allocate_first.new.self in
    let m₁ = g.A.Meant.means s.pair.first in
    let m₂ = g.B.Meant.means s.pair.second in
    let m₁' = g.A.Meant.means s'.first in
    let m₂' = g.B.Meant.means s'.second in
    let n = c.args.n in
    let e = c.in-Err.ensures in
    let e' = c.allocate_second.ensures in
    record {
      answer = second_answer FallbackK m₁ m₂ m₁' m₂' n _ c.in-Err.field-0 c.allocate_second.result (sym c.admit.ensures ∙ c.in_ok-admit.was) e.answer (e.after FallbackK) e'.answer;
      after = then_allocates (fallen_back m₁ m₂) (fallen_back m₁' m₂') _ c.allocate_second.result (e.after FallbackK by_refusal) (e'.after by_refusal);
      kept = λ from h k. e'.kept from.pair h (e.kept from.pair h k);
    }

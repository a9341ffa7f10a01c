use Rattle.std.proofs.Common.{Result, sym, ap, ◌∙◌, arith}
use Rattle.heap.specs.declared.fault.Fault.{Fault}
use Rattle.heap.specs.Faults.{up}
use Rattle.heap.specs.Meaning.{Block}
use Rattle.heap.proofs.Agreeing.{allocates_span}
use Rattle.heap.proofs.Lawful.{offered_below}
use Rattle.pairs.proofs.Calling.{granted_first}
use Rattle.pairs.proofs.Sent.{grant_first, grant_not_second, keeps_both}
use Rattle.pairs.proofs.pair.Pair.allocate_first.Goals as goal

pub returns : goal.returns
returns g c =
    let s = c.args.self.now in
    let m₁ = g.A.Meant.means s.first in
    let w = g.A.Meant.lawful s.first in
    let n = c.args.n in
    let e = c.allocate.ensures in
    let r = c.allocate.result in
    rw c.hand_up.ensures (record {
      answer = ap (λ (z : Result Block Fault). up z) e.answer;
      after = λ k choose. granted_first k choose m₁ _ (g.B.Meant.means s.second) w r (λ b q. (w.offered n b (sym e.answer ∙ q)).within) (λ b q. offered_below m₁ n b w (sym e.answer ∙ q)) e.after;
      kept = λ from h k.
          let is = k.span in
          keeps_both g.A.Meant.means g.A.Meant.keeps g.B.Meant.keeps from _ _ _ _ (allocates_span r m₁ _ e.after ∙ is)
          (grant_first _ n h r (λ b q. let l = offered_below m₁ n b w (sym e.answer ∙ q) in omega arith))
          (grant_not_second _ n h r (λ b q. let l = offered_below m₁ n b w (sym e.answer ∙ q) in omega arith))
          (e.kept from.first _ k.first)
          k.second;
    })

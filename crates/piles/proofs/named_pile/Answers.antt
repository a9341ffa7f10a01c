use Rattle.std.proofs.Common.{◌≡◌, Result, sym, ap, ◌∙◌}
use Rattle.std.specs.Result.{result_unwrap_or}
use Rattle.heap.specs.declared.fault.Cause.{Cause}
use Rattle.trace.specs.declared.frame.Pile.{Pile}
use Rattle.trace.specs.declared.frame.Pile.TheVariants.{Bump}
use Rattle.trace.specs.Frames.{pile_of}
use Rattle.trace.proofs.Testing.{recorded_head}
use Rattle.piles.proofs.named_pile.Goals as goal

pub returns-clause-named : goal.returns-clause-named
returns-clause-named c x e =
    let h = recorded_head c.args.trace.now x e in
    let s = sym h.2 ∙ c.in-Some.ensures.frames in
    let same : h.0 ≡ c.in-Some.head = cc in
    sym (c.unwrap_or.ensures ∙ ap (λ (r : Result Pile Cause). result_unwrap_or r Bump) (c.pile.ensures ∙ ap pile_of (sym same) ∙ h.3))

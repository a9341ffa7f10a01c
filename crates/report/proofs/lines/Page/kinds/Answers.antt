use Rattle.std.proofs.Common.{ℕ, ◌+◌, ap, ◌∙◌}
use Rattle.report.proofs.Lining.{kind_wrote}
use Rattle.report.proofs.lines.Page.kinds.Goals as goal

pub loop-kind-preserved-then-count-gt0 : goal.loop-kind-preserved-then-count-gt0
loop-kind-preserved-then-count-gt0 c =
    let s = c.in-Some.ensures.steps in
    kind_wrote c.args.self.now c.loop-kind.self c.args.kinds.now c.loop-kind.kind-iterator.a.start _ c.in-Some.count.now _ c.loop-kind.invariant s.1 c.next.new.self.a.start c.line.new.self (s.0.1 ∙ ap (λ (k : ℕ). k + 1) s.0.0) c.if-count-gt0.true
    (rw s.0.0 at c.line.ensures)

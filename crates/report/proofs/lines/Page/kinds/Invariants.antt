use Rattle.report.proofs.Lining.{KindsFrom}
use Rattle.report.proofs.lines.Page.kinds.Given as goal

abbrev pub invariant-loop-kind : goal.invariant-loop-kind
invariant-loop-kind l = KindsFrom l.initial.self l.self l.kinds l.kind-iterator.a.start l.kind-iterator.b.rest.now

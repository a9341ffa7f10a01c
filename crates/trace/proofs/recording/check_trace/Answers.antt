use Rattle.std.proofs.Common.{arith}
use Rattle.trace.proofs.Reading.{written_again}
use Rattle.trace.proofs.recording.check_trace.Goals as goal

pub returns-then-trace-gt-LONGEST_TRACE-clause-whole : goal.returns-then-trace-gt-LONGEST_TRACE-clause-whole
returns-then-trace-gt-LONGEST_TRACE-clause-whole c = written_again c.args.trace.now (λ i. let f = c.type_inv.trace i in omega arith)

pub returns-clause-whole : goal.returns-clause-whole
returns-clause-whole c = written_again c.args.trace.now (λ i. let f = c.type_inv.trace i in omega arith)

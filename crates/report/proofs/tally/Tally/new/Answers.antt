use Rattle.report.proofs.Tallying.{nothing}
use Rattle.report.proofs.tally.Tally.new.Goals as goal

pub returns : goal.returns
returns c =
    let d = c.default.ensures in
    let kinds = d.1.1.1.1.1.1.0 in
    nothing _ _ _ _ _ _ _ _ _ _ d.0 d.1.0 d.1.1.0 d.1.1.1.0 d.1.1.1.1.0 d.1.1.1.1.1.0 kinds.long (λ k h. kinds.at k 0 h) d.1.1.1.1.1.1.1

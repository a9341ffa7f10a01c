use Rattle.std.proofs.Common.{◌≡◌, ℕ, ◌+◌, List, get_or, set, ap, ◌∙◌, arith}
use Rattle.std.proofs.lemmas.List.Sums.{count_by-le-length}
use Rattle.heap.specs.Faults.{kind_number}
use Rattle.report.specs.Tallies.{kinds_of, is_refused_by}
use Rattle.report.proofs.Tallying.{kinds_refused, kind_few, getD_kinds}
use Rattle.report.proofs.tally.count_kind.Goals as goal

pub returns : goal.returns
returns c = λ os h e.
    let f = c.args.fault in
    let k = kind_number f.kind in
    let j : c.from-kind.result ≡ k = c.from-kind.ensures ∙ c.number.ensures in
    let at : get_or c.args.kinds.now c.from-kind.result 0 ≡ get_or (kinds_of os) k 0 = cc in
    let few = count_by-le-length (is_refused_by k) os in
    let g = getD_kinds os k (kind_few f.kind) in
    let more : c.saturating_add.result ≡ get_or (kinds_of os) k 0 + 1 = let s = c.saturating_add.ensures in omega arith in
    ap (λ (z : List ℕ). set z c.from-kind.result c.saturating_add.result) e
    ∙ ap (λ (z : ℕ). set (kinds_of os) z c.saturating_add.result) j
    ∙ kinds_refused os f c.saturating_add.result more

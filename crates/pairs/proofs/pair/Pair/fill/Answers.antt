use Rattle.std.proofs.Common.{ℕ, ◌-◌, ◌<◌, subst}
use Rattle.heap.specs.Meaning.{MayFill}
use Rattle.heap.proofs.Offers.{own_fill}
use Rattle.pairs.specs.Pairs.{both_fit, pair_live}
use Rattle.pairs.specs.Shares.{covered_low, low_covered, covered_high, high_covered}
use Rattle.pairs.specs.Paired.{bounded}
use Rattle.pairs.proofs.Calling.{filled_first}
use Rattle.pairs.proofs.pair.Pair.fill.Goals as goal

pub returns-in-First-clause-answer : goal.returns-in-First-clause-answer
returns-in-First-clause-answer g c =
    let s = c.args.self.now in
    let m₁ = g.A.Meant.means s.first in
    let m₂ = g.B.Meant.means s.second in
    let a = c.args.a in
    let n = c.args.c in
    let l : a < m₁.span = c.in-First.ensures in
    let o = both_fit m₁.span m₂.span in
    rw c.make_own.ensures (own_fill c.args.kind m₁.kind (pair_live m₁ m₂) m₁.live a a n (covered_low m₁.span o m₁.live m₂.live a n l) (low_covered m₁.span o m₁.live m₂.live a n l) c.fill.result c.fill.ensures.answer)

pub returns-in-First-clause-after : goal.returns-in-First-clause-after
returns-in-First-clause-after g c choose =
    let s = c.args.self.now in
    let m₁ = g.A.Meant.means s.first in
    rw c.make_own.ensures (filled_first c.args.kind choose m₁ _ (g.B.Meant.means s.second) (g.A.Meant.lawful s.first) m₁.kind c.args.a c.args.c c.args.b c.fill.result c.fill.ensures.answer c.fill.ensures.after)

pub returns-in-Second-clause-answer : goal.returns-in-Second-clause-answer
returns-in-Second-clause-answer g c =
    let s = c.args.self.now in
    let m₁ = g.A.Meant.means s.first in
    let m₂ = g.B.Meant.means s.second in
    let a = c.args.a in
    let n = c.args.c in
    let e = c.in-Second.ensures in
    let o = both_fit m₁.span m₂.span in
    let r = c.fill-in-Second.result in
    rw c.make_own-in-Second.ensures (own_fill c.args.kind m₂.kind (pair_live m₁ m₂) m₂.live a (a - m₁.span) n
    (covered_high m₁.span o m₁.live m₂.live (bounded m₁ (g.A.Meant.lawful s.first)) a n e.0 e.1) (high_covered m₁.span o m₁.live m₂.live a n e.0 e.1) r
    (subst (λ (z : ℕ). MayFill m₂.kind m₂.live z n r) e.2 c.fill-in-Second.ensures.answer))

use Rattle.std.proofs.Common.{ℕ, ◌-◌, ◌<◌, sym, subst, arith}
use Rattle.heap.specs.Meaning.{Gets}
use Rattle.heap.proofs.Offers.{own_get}
use Rattle.pairs.specs.Pairs.{both_fit, pair_live, pair_byte}
use Rattle.pairs.specs.Shares.{low, high, covered_low, low_covered, covered_high, high_covered, covered_shut}
use Rattle.pairs.specs.Paired.{bounded}
use Rattle.pairs.proofs.pair.Pair.get.Goals as goal

pub returns-in-First : goal.returns-in-First
returns-in-First g c =
    let s = c.args.self.now in
    let m₁ = g.A.Meant.means s.first in
    let m₂ = g.B.Meant.means s.second in
    let a = c.args.a in
    let l : a < m₁.span = c.in-First.ensures in
    let o = both_fit m₁.span m₂.span in
    rw c.make_own.ensures (own_get c.args.kind m₁.kind (pair_live m₁ m₂) m₁.live a a (pair_byte m₁ m₂) m₁.byte c.get.result
    (covered_low m₁.span o m₁.live m₂.live a 1 l) (low_covered m₁.span o m₁.live m₂.live a 1 l) (sym (low m₁.span o m₁.byte m₂.byte a l)) c.get.ensures)

pub returns-in-Second : goal.returns-in-Second
returns-in-Second g c =
    let s = c.args.self.now in
    let m₁ = g.A.Meant.means s.first in
    let m₂ = g.B.Meant.means s.second in
    let a = c.args.a in
    let e = c.in-Second.ensures in
    let o = both_fit m₁.span m₂.span in
    let bound = bounded m₁ (g.A.Meant.lawful s.first) in
    rw c.make_own-in-Second.ensures (own_get c.args.kind m₂.kind (pair_live m₁ m₂) m₂.live a (a - m₁.span) (pair_byte m₁ m₂) m₂.byte c.get-in-Second.result
    (covered_high m₁.span o m₁.live m₂.live bound a 1 e.0 e.1) (high_covered m₁.span o m₁.live m₂.live a 1 e.0 e.1) (sym (high m₁.span o m₁.byte m₂.byte a e.0 e.1))
    (subst (λ (z : ℕ). Gets m₂.kind m₂.live m₂.byte z c.get-in-Second.result) e.2 c.get-in-Second.ensures))

pub returns-in-Neither : goal.returns-in-Neither
returns-in-Neither g c =
    let s = c.args.self.now in
    let m₁ = g.A.Meant.means s.first in
    let m₂ = g.B.Meant.means s.second in
    let e = c.in-Neither.ensures in
    (covered_shut m₁.span (both_fit m₁.span m₂.span) m₁.live m₂.live (bounded m₁ (g.A.Meant.lawful s.first)) c.args.a 1 e.0 e.1 (omega arith), c.new.ensures)

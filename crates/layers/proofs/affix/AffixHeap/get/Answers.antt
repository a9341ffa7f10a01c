use Rattle.std.proofs.Common.{sym, refl, ◌∙◌, arith}
use Rattle.heap.specs.declared.fault.Kind.TheVariants.{Affix as AffixK}
use Rattle.heap.proofs.Checked.{get_checked}
use Rattle.heap.proofs.Offers.{own_get}
use Rattle.layers.specs.Affixes.{affix_live, affixed}
use Rattle.layers.specs.Affixed.{covered_outer, affixed_lawful}
use Rattle.layers.proofs.affix.AffixHeap.get.Goals as goal

pub returns : goal.returns
returns g c =
    let s = c.args.self.now.below in
    let m = g.H.Meant.means s in
    let a = c.args.a in
    let t = get_checked AffixK (affixed m) (affixed_lawful m (g.H.Meant.lawful s)) a c.inner.result c.inner.ensures in
    let i = t.accepted (sym c.check_get.ensures ∙ c.in_ok-check_get.was) in
    rw c.make_own.ensures (own_get AffixK m.kind (affix_live m.live) m.live a a m.byte m.byte c.get.result (covered_outer m.live a 1 (omega arith)) (λ _. i) refl c.get.ensures)

use Rattle.std.proofs.Common.{◌≡◌, Some, ap, ◌∙◌, arith}
use Rattle.heap.specs.Checks.{begun}
use Rattle.heap.proofs.Checked.{begun_is}
use Rattle.layers.specs.Affixes.{affix_live, affixed}
use Rattle.layers.specs.Affixed.{affixed_lawful}
use Rattle.layers.proofs.affix.Affix.whole.Goals as goal

-- no block above begins at an address inside another one
pub returns-in_default-clause-no : goal.returns-in_default-clause-no
returns-in_default-clause-no g c _ h _ =
    let m = g.H.Meant.means c.args.self.now.below in
    let a = c.args.a in
    let e : affix_live m.live a ≡ begun c.inner.result a = begun_is (affixed m) (affixed_lawful m (g.H.Meant.lawful c.args.self.now.below)) a c.inner.result c.inner.ensures in
    let i : c.inner.result ≡ Some (c.in-Some.start, c.in-Some.length) = c.in-Some.is in
    let n : begun (Some (c.in-Some.start, c.in-Some.length)) a ≡ 0 = grind (arith, c.if-start-a.false) in
    let z : affix_live m.live a ≡ 0 = e ∙ ap (λ f. begun f a) i ∙ n in
    let w : ⊥ = omega arith in w

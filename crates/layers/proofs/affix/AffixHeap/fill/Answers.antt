use Rattle.std.proofs.Common.{◌≡◌, ◌<◌, Ok, sym, ◌∙◌}
use Rattle.heap.specs.declared.fault.Kind.TheVariants.{Affix as AffixK}
use Rattle.heap.specs.Meaning.{Covered}
use Rattle.heap.specs.Checks.{checked_fill}
use Rattle.heap.proofs.Checked.{fill_some, fill_covered, fill_refused}
use Rattle.heap.proofs.Offers.{own_fill, own_after_fill}
use Rattle.layers.specs.Affixes.{affix_live, affixed}
use Rattle.layers.specs.Affixed.{covered_outer, affixed_lawful, affixed_fills, whole_fills, sent_fill}
use Rattle.layers.proofs.affix.AffixHeap.fill.Goals as goal

pub returns : goal.returns
returns g c =
    let s = c.args.self.now.below in
    let m = g.H.Meant.means s in
    let w = g.H.Meant.lawful s in
    let a = c.args.a in
    let n = c.args.c in
    let v = affixed_lawful m w in
    let ok : checked_fill AffixK c.inner.result a n ≡ Ok tt = sym c.check_fill.ensures ∙ c.in_ok-check_fill.was in
    let some : 0 < n = fill_some AffixK (affixed m) v a c.inner.result c.inner.ensures n ok in
    let i : Covered (affix_live m.live) a n = fill_covered AffixK (affixed m) v a c.inner.result c.inner.ensures n ok in
    let e = c.fill.ensures in
    let r = c.fill.result in
    record {
      answer = rw c.make_own.ensures (own_fill AffixK m.kind (affix_live m.live) m.live a a n (covered_outer m.live a n some) (λ _. i) r e.answer);
      after = rw c.make_own.ensures (affixed_fills m _ w a n c.args.b r some i e.after);
      kept = λ from h k. rw (c.make_own.ensures, own_after_fill) (record {
        whole = λ q. whole_fills m _ w a n c.args.b r some i e.after (k.whole q);
        below = rw sent_fill (e.kept from.below _ k.below);
      });
    }

pub returns-in_err-check_fill-clause-answer : goal.returns-in_err-check_fill-clause-answer
returns-in_err-check_fill-clause-answer g c =
    let s = c.args.self.now.below in
    let m = g.H.Meant.means s in
    fill_refused AffixK (affixed m) (affixed_lawful m (g.H.Meant.lawful s)) c.args.a c.inner.result c.inner.ensures c.args.c _ c.from_residual.result (sym c.in_err-check_fill.was ∙ c.check_fill.ensures) c.from_residual.ensures.1

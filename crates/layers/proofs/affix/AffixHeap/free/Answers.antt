use Rattle.std.proofs.Common.{◌<◌, Ok, sym, ◌∙◌}
use Rattle.heap.specs.declared.fault.Kind.TheVariants.{Affix as AffixK}
use Rattle.heap.proofs.Checked.{free_checked, free_refused}
use Rattle.heap.proofs.Offers.{own_after_free}
use Rattle.layers.specs.Affixes.{affix_live, affixed}
use Rattle.layers.specs.Affixed.{affixed_lawful, affixed_frees, whole_frees, sent_free}
use Rattle.layers.proofs.affix.AffixHeap.free.Goals as goal

pub returns-clause-kept : goal.returns-clause-kept
returns-clause-kept g c =
    let s = c.args.self.now.below in
    let m = g.H.Meant.means s in
    let a = c.args.a in
    let e = c.free.ensures in
    let r = c.free.result in
    let h : 0 < affix_live m.live a = free_checked AffixK (affixed m) (affixed_lawful m (g.H.Meant.lawful s)) a c.inner.result c.inner.ensures (Ok tt) (sym c.in_ok-check_free.was ∙ c.check_free.ensures) in
    let both = affixed_frees m.kind m _ a r h e.answer e.after in
    λ from q k. rw (c.make_own.ensures, own_after_free) (record {
      whole = λ z. whole_frees m.kind m _ a r h e.after (k.whole z);
      below = rw sent_free (e.kept from.below _ k.below);
    })

pub returns-in_err-check_free-clause-answer : goal.returns-in_err-check_free-clause-answer
returns-in_err-check_free-clause-answer g c =
    let s = c.args.self.now.below in
    let m = g.H.Meant.means s in
    free_refused AffixK (affixed m) (affixed_lawful m (g.H.Meant.lawful s)) c.args.a c.inner.result c.inner.ensures _ c.from_residual.result (sym c.in_err-check_free.was ∙ c.check_free.ensures) c.from_residual.ensures.1

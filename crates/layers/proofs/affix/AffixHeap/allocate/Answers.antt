use Rattle.std.proofs.Common.{ℕ, ◌+◌, ◌-◌, ◌∷◌, sym, ap, ◌∙◌, subst, arith}
use Rattle.heap.specs.Meaning.{Block}
use Rattle.heap.specs.Histories.{History, granted}
use Rattle.layers.specs.Affixes.{affix_offer, sent_affixed}
use Rattle.layers.specs.Affixed.{asked, marked_granted, marked_whole, marked_offer, marked_sent}
use Rattle.layers.proofs.affix.AffixHeap.allocate.Goals as goal

pub overflow_add-start : goal.overflow_add-start
overflow_add-start g c = let e = (asked (g.H.Meant.means c.args.self.now.below) (g.H.Meant.lawful c.args.self.now.below) c.args.n c.in_ok-n.n _ _ _ (c.in_ok-start.start, c.in_ok-start.length) c.admit.ensures c.in_ok-n.was c.allocate.ensures.answer c.hand_up.ensures c.in_ok-start.was).ends in omega arith

pub overflow_add-result : goal.overflow_add-result
overflow_add-result g c = let e = (asked (g.H.Meant.means c.args.self.now.below) (g.H.Meant.lawful c.args.self.now.below) c.args.n c.in_ok-n.n _ _ _ (c.in_ok-start.start, c.in_ok-start.length) c.admit.ensures c.in_ok-n.was c.allocate.ensures.answer c.hand_up.ensures c.in_ok-start.was).ends in let l = (asked (g.H.Meant.means c.args.self.now.below) (g.H.Meant.lawful c.args.self.now.below) c.args.n c.in_ok-n.n _ _ _ (c.in_ok-start.start, c.in_ok-start.length) c.admit.ensures c.in_ok-n.was c.allocate.ensures.answer c.hand_up.ensures c.in_ok-start.was).long in omega arith

pub returns : goal.returns
returns g c =
    let d = (asked (g.H.Meant.means c.args.self.now.below) (g.H.Meant.lawful c.args.self.now.below) c.args.n c.in_ok-n.n _ _ _ (c.in_ok-start.start, c.in_ok-start.length) c.admit.ensures c.in_ok-n.was c.allocate.ensures.answer c.hand_up.ensures c.in_ok-start.was) in
    let w = g.H.Meant.lawful c.args.self.now.below in
    let m = g.H.Meant.means c.args.self.now.below in
    let m₁ = g.H.Meant.means c.allocate.new.self in
    let m₂ = g.H.Meant.means c.fill.new.self in
    let m₃ = g.H.Meant.means c.fill-2.new.self in
    let n = c.in_ok-n.n in
    let b : Block = (c.in_ok-start.start, c.in_ok-start.length) in
    let e = c.allocate.ensures in
    let e₁ = c.fill.ensures in
    let e₂ = c.fill-2.ensures in
    let r = c.allocate.result in
    let r₁ = c.fill.result in
    let r₂ = c.fill-2.result in
    record {
      answer = sym (ap (affix_offer m) (sym d.same) ∙ marked_offer m m₁ m₂ m₃ n b r r₁ r₂ w d.some e.answer d.is e.after e₁.answer e₁.after e₂.answer e₂.after d.most);
      after = marked_granted m m₁ m₂ m₃ n b r r₁ r₂ w d.some e.answer d.is e.after e₁.answer e₁.after e₂.answer e₂.after;
      kept = λ from h k. record {
        whole = λ q. marked_whole m m₁ m₂ m₃ n b r r₁ r₂ w d.some e.answer d.is e.after e₁.answer e₁.after e₂.answer e₂.after (k.whole q);
        below = subst (λ (q : History). g.H.Meant.keeps from.below q c.fill-2.new.self)
            (marked_sent m m₁ m₂ m₃ n b r r₁ r₂ w d.some e.answer d.is e.after e₁.answer e₁.after e₂.answer e₂.after h ∙ ap (λ (z : ℕ). sent_affixed (granted z (b.0 + 8) (b.1 - 16) ∷ h)) d.same)
            (e₂.kept from.below _ (e₁.kept from.below _ (e.kept from.below _ k.below)));
      };
    }

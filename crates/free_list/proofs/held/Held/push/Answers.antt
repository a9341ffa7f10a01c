use Rattle.std.proofs.Common.{◌≤◌, ℕ, List, [], ◌∷◌, length, sym, subst, ap, ◌∙◌, arith, length-append}
use Rattle.free_list.specs.Holdings.{distinct}
use Rattle.free_list.specs.Addresses.{distinct_push}
use Rattle.free_list.proofs.held.Held.push.Goals as goal

pub invariant_of-self : goal.invariant_of-self
invariant_of-self c =
    let s = c.args.self.now in
    let xs = s.addresses.items in
    record {
      few = subst (λ (ys : List ℕ). length ys ≤ 16) (sym c.push.ensures.items) (let l = length-append xs (c.args.a ∷ []) in let room = c.requires.room in omega arith);
      apart = ap distinct c.push.ensures.items ∙ distinct_push c.args.a xs s.apart c.requires.fresh;
    }

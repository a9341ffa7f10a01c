use Rattle.std.proofs.Common.{◌≡◌, ◌≤◌, ℕ, List, length, rules, sym, subst, ap, ◌∙◌, arith}
use borrow.Author.Tests.{tests}
use Rattle.arrayvec.proofs.ArrayVecLemmas.{filter-from_retain}
use Rattle.free_list.specs.Holdings.{distinct, without}
use Rattle.free_list.specs.Addresses.{without_shorter}
use Rattle.free_list.proofs.Reading.{filter_without, distinct_without}
use Rattle.free_list.proofs.held.Held.remove.Goals as goal

pub invariant_of-self : goal.invariant_of-self
invariant_of-self c =
    let s = c.args.self.now in
    let xs = s.addresses.items in
    let kept : c.retain.new.self.items ≡ without c.args.a xs = filter-from_retain _ _ _ (λ x b f' y called. search (rules, tests)) xs c.retain.new.self.items c.retain.ensures.filtered ∙ filter_without c.args.a xs in
    record {
      few = subst (λ (ys : List ℕ). length ys ≤ 16) (sym kept) (let few = s.few in let l = without_shorter c.args.a xs in omega arith);
      apart = ap distinct kept ∙ distinct_without c.args.a xs s.apart;
    }

pub returns : goal.returns
returns c =
    let xs = c.args.self.now.addresses.items in
    filter-from_retain _ _ _ (λ x b f' y called. search (rules, tests)) xs c.retain.new.self.items c.retain.ensures.filtered ∙ filter_without c.args.a xs

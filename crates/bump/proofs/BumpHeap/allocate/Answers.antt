use Rattle.std.proofs.Common.{◌≡◌, ℕ, ◌+◌, ◌∷◌, sym, subst, arith}
use Rattle.heap.specs.Meaning.{Granted}
use Rattle.heap.specs.Histories.{granted}
use Rattle.bump.specs.Table.{bump_means, BumpKeeps}
use Rattle.bump.specs.Laws.{fresh}
use Rattle.bump.proofs.Calls.{headed_grant, bump_granted, keeps_granted}
use Rattle.bump.proofs.BumpHeap.allocate.Goals as goal

pub returns : goal.returns
returns c =
    let xs = c.args.self.now.region.now in
    let ys = c.grant.new.self.region.now in
    let cursor = c.args.self.now.cursor in
    let b = c.in_ok-block.block in
    let f = fresh xs cursor c.args.n b (sym c.in_ok-block.ensures) in
    let g = headed_grant xs ys cursor c.args.n b f c.grant.ensures.headed in
    let moved : b.0 + b.1 ≡ c.grant.new.self.cursor = let m = c.grant.ensures.moved in let at = f.at in omega arith in
    record {
      answer = c.in_ok-block.ensures;
      after = subst (λ (next : ℕ). Granted b.0 b.1 (bump_means xs cursor) (bump_means ys next)) moved (bump_granted xs ys cursor c.args.n b f g);
      kept = λ from h k. subst (λ (next : ℕ). BumpKeeps from.region.now from.cursor (granted c.args.n b.0 b.1 ∷ h) ys next) moved (keeps_granted xs ys cursor c.args.n b f g from.region.now from.cursor h k);
      table = (sym moved, g);
    }

use Rattle.std.proofs.Common.{◌≡◌, ℕ, ◌+◌, ◌-◌, ◌<◌, ◌≤◌, List, length, sym, ◌∙◌, arith}
use Rattle.std.proofs.lemmas.Bool.{not-true, not-false}
use Rattle.region.specs.Bytes.{put_word}
use Rattle.bump.specs.Table.{live_in, table, Struck}
use Rattle.bump.specs.Laws.{bump_reach}
use Rattle.bump.proofs.Headings.{struck}
use Rattle.bump.proofs.Calls.{strike_on, strike_over}
use Rattle.bump.proofs.Bump.strike.Goals as goal

ends : (xs ys : List ℕ) (cursor a : ℕ) → 0 < live_in (table xs cursor) 0 a → (a - 4 + 4 ≤ length xs → ys ≡ put_word xs (a - 4) 2) → Struck a xs ys
ends xs ys cursor a w e =
    let r = bump_reach xs cursor a w in
    let l = r.region in
    struck a xs ys r.low (omega arith) e

pub overflow_sub-a : goal.overflow_sub-a
overflow_sub-a c = let r = (bump_reach c.args.self.now.region.now c.args.self.now.cursor c.args.a c.requires).low in omega arith

pub returns-then-not-any_live : goal.returns-then-not-any_live
returns-then-not-any_live c =
    let xs = c.args.self.now.region.now in
    let ys = c.put_word.new.region in
    let cursor = c.args.self.now.cursor in
    strike_over xs ys cursor c.args.a c.requires (ends xs ys cursor c.args.a c.requires c.put_word.ensures.inside) (not-false _ (sym c.any_live.ensures ∙ c.if-not-any_live.true))

pub returns-else-not-any_live : goal.returns-else-not-any_live
returns-else-not-any_live c =
    let xs = c.args.self.now.region.now in
    let ys = c.put_word.new.region in
    let cursor = c.args.self.now.cursor in
    strike_on xs ys cursor c.args.a c.requires (ends xs ys cursor c.args.a c.requires c.put_word.ensures.inside) (not-true _ (sym c.any_live.ensures ∙ c.if-not-any_live.false))

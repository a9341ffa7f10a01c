use Rattle.std.proofs.Common.{rules, ◌≡◌, ℕ, ◌+◌, ◌-◌, ◌<◌, Bool, true, false, ◌∙◌, subst, arith}
use borrow.Author.Tests.{tests}
use mathlib.Core.Logic.{∥∥₁_elim}
use mathlib.Core.HLevel.{⊥_prop}
use Rattle.std.specs.Bool.{MatchBool}
use Rattle.std.specs.List.{range_with_len, AllWithin, HoldsAt}
use Rattle.std.proofs.lemmas.Iterator.{cases_from_all, YieldsList-from_range}
use Rattle.std.proofs.lemmas.List.FromFn.{get_or-range_with_len}
use Rattle.heap.specs.Meaning.{Covered}
use Rattle.layers.specs.Affixes.{Marked}
use Rattle.layers.proofs.affix.marked.Goals as goal

-- each of the eight bytes lies in the block
part : (live : ℕ → ℕ) (from i : ℕ) → i < 8 → Covered live from 8 → Covered live (from + i) 1
part live from i h k = let f = k.from in let t = k.to in record { start = k.start; from = omega arith; to = omega arith }

-- what `all` answered of the eight bytes
abbrev Told : (live byte : ℕ → ℕ) (from : ℕ) → Bool → Type 0
Told live byte from r = MatchBool r (AllWithin (λ a. byte a ≡ 90) (range_with_len from 8) 0 8) ((k : ℕ) × (k < 8) × HoldsAt (λ a. Covered live a 1 → byte a ≡ 90 → ⊥) (range_with_len from 8) k)

all_marked : (live byte : ℕ → ℕ) (from : ℕ) (r : Bool) → Told live byte from r → r ≡ true → Marked byte from
all_marked live byte from true t q = λ x i.
    let low = i.from in
    let high = i.below in
    let at : from + (x - from) ≡ x = omega arith in
    subst (λ (y : ℕ). byte y ≡ 90) (get_or-range_with_len from 8 (x - from) 0 (omega arith) ∙ at) (t (x - from) 0 (omega arith) (omega arith))
all_marked live byte from false t q = absurd (let z : ◌≡◌ {A = Bool} false true = q in let w : ⊥ = cc in w)

one_other : (live byte : ℕ → ℕ) (from : ℕ) (r : Bool) → Told live byte from r → r ≡ false → Covered live from 8 → Marked byte from → ⊥
one_other live byte from false t q = λ k m.
    let l = t.1 in
    let at = get_or-range_with_len from 8 t.0 0 l in
    subst (λ (y : ℕ). Covered live y 1 → byte y ≡ 90 → ⊥) at (t.2 0) (part live from t.0 l k) (m (from + t.0) (record { from = omega arith; below = omega arith }))
one_other live byte from true t q = absurd (let z : ◌≡◌ {A = Bool} true false = q in let w : ⊥ = cc in w)

pub returns-clause-yes : goal.returns-clause-yes
returns-clause-yes g c =
    let m = g.H.Meant.means c.args.heap.now in
    all_marked m.live m.byte c.args.from c.all.result (cases_from_all _ _ _ (λ a. m.byte a ≡ 90) (λ a. Covered m.live a 1 → m.byte a ≡ 90 → ⊥) c.all.ensures.ran (YieldsList-from_range c.args.from (c.args.from + 8) 8 (cc) (omega arith)) (λ x q k. search (rules, tests)) (λ x q k. search (rules, tests)))

pub returns-clause-no : goal.returns-clause-no
returns-clause-no g c q w =
    let m = g.H.Meant.means c.args.heap.now in
    ∥∥₁_elim c.requires.1 ⊥_prop (λ k. one_other m.live m.byte c.args.from c.all.result (cases_from_all _ _ _ (λ a. m.byte a ≡ 90) (λ a. Covered m.live a 1 → m.byte a ≡ 90 → ⊥) c.all.ensures.ran (YieldsList-from_range c.args.from (c.args.from + 8) 8 (cc) (omega arith)) (λ x q k. search (rules, tests)) (λ x q k. search (rules, tests))) q k w)

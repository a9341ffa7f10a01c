-- The live blocks without the held ones: which block covers an address, and where bytes lie in one.
use Rattle.std.specs.Prelude.{◌≡◌, ℕ, ◌<◌, ◌≤◌, true, false, List, Some, None}
use Rattle.std.proofs.Common.{sym, ◌∙◌, ap, subst, arith}
use Rattle.heap.specs.Meaning.{Meaning, Block, Lawful, In, Covered, Finds}
use Rattle.heap.proofs.Lawful.{same_start}
use Rattle.free_list.specs.Holdings.{among}
use Rattle.free_list.specs.FreeLists.{unheld}
use Rattle.std.proofs.lemmas.Bool.{cond-false, both_ways}

pub wider : (a c d x : ℕ) → c ≤ d → In a c x → In a d x
wider a c d x l i = let p = i.from in let q = i.below in record { from = p; below = omega arith }

pub in_some : (a c x : ℕ) → In a c x → 0 < c
in_some a c x i = let p = i.from in let q = i.below in omega arith

module _ (held : List ℕ) (live : ℕ → ℕ) (a : ℕ) where
  pub unheld_not : among a held ≡ false → unheld held live a ≡ live a
  unheld_not e = cond-false (among a held) 0 (live a) e

  pub unheld_le : unheld held live a ≤ live a
  unheld_le = grind arith

  -- a live block is not held
  pub some_unheld : 0 < unheld held live a → among a held ≡ false
  some_unheld p = grind arith

  pub some_same : 0 < unheld held live a → unheld held live a ≡ live a
  some_same p = unheld_not (some_unheld p)

  pub in_below : (x : ℕ) → In a (unheld held live a) x → In a (live a) x
  in_below x i = wider a (unheld held live a) (live a) x unheld_le i

  pub covered_below : (c : ℕ) → Covered (unheld held live) a c → Covered live a c
  covered_below c h = let t = h.to in record { start = h.start; from = h.from; to = omega (arith, unheld_start h.start) }
    where
      unheld_start : (s : ℕ) → unheld held live s ≤ live s
      unheld_start s = grind arith

-- where a held block covers a, none does
pub finds_held : (m : Meaning) (held : List ℕ) (a : ℕ) (b : Block) → Lawful m → Finds m.live a (Some b) → among b.0 held ≡ true → Finds (unheld held m.live) a None
finds_held m held a b w f e = λ s i.
    let some = in_some s (unheld held m.live s) a i in
    let same : s ≡ b.0 = same_start m w s b.0 a (in_below held m.live s a i) (subst (λ (c : ℕ). In b.0 c a) (sym f.0) f.1) in
    both_ways (among b.0 held) (ap (λ (z : ℕ). among z held) (sym same) ∙ some_unheld held m.live s some) e

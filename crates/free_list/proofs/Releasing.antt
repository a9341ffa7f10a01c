-- Held blocks freed below in turn.
use Rattle.std.proofs.Common.{◌≡◌, ℕ, ◌<◌, ◌≤◌, cond, eqb, List, [], ◌∷◌, ◌++◌, Ok, Err, Result, refl, ◌∙◌, subst, arith}
use Rattle.heap.specs.declared.fault.Fault.{Fault}
use Rattle.heap.specs.Meaning.{Meaning, In, MayFree, Frees}
use Rattle.heap.specs.Histories.{History, freed, after_free}
use Rattle.free_list.specs.FreeLists.{freed_in_turn, Released}
use Rattle.free_list.specs.Addresses.{among_push}
use Rattle.free_list.specs.Unheld.{wider}

freed_shorter : (a b c d : ℕ) → d ≡ cond (eqb b a) 0 c → d ≤ c
freed_shorter a b c d e = grind arith

-- one more; where no block begins there, nothing changes
pub released_more : (xs : List ℕ) (a : ℕ) (m m' m'' : Meaning) (r : Result (Unit {0}) Fault) → Released xs m m' → MayFree m'.kind m'.live a r → Frees a m' m'' r → Released (xs ++ (a ∷ [])) m m''
released_more xs a m m' m'' (Ok t) p o s = record {
  span = s.span ∙ p.span;
  live = λ x. let e = among_push x a xs in let l = s.live x in let q = p.live x in grind arith;
  byte = λ b x i. s.byte b x i ∙ p.byte b x (wider b (m''.live b) (m'.live b) x (freed_shorter a b (m'.live b) (m''.live b) (s.live b)) i);
}
released_more xs a m m' m'' (Err f) p o s = record {
  span = s.0.span ∙ p.span;
  live = λ x. let e = among_push x a xs in let z = o.0 in let l = s.0.live x in let q = p.live x in grind arith;
  byte = λ b x i.
      let j : In b (m'.live b) x = subst (λ (c : ℕ). In b c x) (s.0.live b) i in
      s.0.byte b x j ∙ p.byte b x j;
}

-- a free of a block that is live is accepted
pub surely_freed : (K : History → Type 0) (a : ℕ) (m : Meaning) (r : Result (Unit {0}) Fault) (h : History) → 0 < m.live a → MayFree m.kind m.live a r → K (after_free a r h) → K (freed a ∷ h)
surely_freed K a m (Ok t) h p o k = k
surely_freed K a m (Err f) h p o k = absurd (let z = o.0 in let w : ⊥ = omega arith in w)

pub in_turn_push : (xs : List ℕ) (a : ℕ) (h : History) → freed_in_turn (xs ++ (a ∷ [])) h ≡ freed a ∷ freed_in_turn xs h
in_turn_push [] a h = refl
in_turn_push (x ∷ xs) a h = in_turn_push xs a (freed x ∷ h)

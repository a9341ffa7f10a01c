-- The newest held block that is long enough.
use Rattle.std.specs.Prelude.{◌≡◌, ℕ, ◌+◌, ◌<◌, ◌≤◌, Bool, true, false, cond, List, [], ◌∷◌, ◌++◌, length, take, Some, None, Option, ◌==◌, nat_le, slice_index, refl}
use Rattle.std.proofs.Common.{◌∙◌, ap, subst, arith}
use Rattle.heap.specs.Meaning.{Block}
use Rattle.free_list.specs.Holdings.{among}
use Rattle.free_list.specs.FreeLists.{newest, or_else}
use Rattle.std.proofs.lemmas.List.{take_more}
use Rattle.std.proofs.lemmas.Bool.{cond-true, cond-false, le-leb, lt-leb, leb-true, eq-eqb}

or_else_cond : (t : Bool) (b : Block) (o p : Option Block) → or_else (cond t (Some b) o) p ≡ cond t (Some b) (or_else o p)
or_else_cond true b o p = refl
or_else_cond false b o p = refl

pub newest_push : (live : ℕ → ℕ) (k : ℕ) (xs : List ℕ) (a : ℕ) → newest live k (xs ++ (a ∷ [])) ≡ cond (nat_le k (live a)) (Some (a, live a)) (newest live k xs)
newest_push live k [] a = refl
newest_push live k (x ∷ xs) a =
    let last : Option Block = cond (nat_le k (live x)) (Some (x, live x)) None in
    ap (λ (o : Option Block). or_else o last) (newest_push live k xs a) ∙ or_else_cond (nat_le k (live a)) (a, live a) (newest live k xs) last

-- the last address of a part from the start is long enough
pub newest_here : (live : ℕ → ℕ) (k : ℕ) (xs : List ℕ) (i : ℕ) → i < length xs → k ≤ live (slice_index xs i) → newest live k (take (i + 1) xs) ≡ Some (slice_index xs i, live (slice_index xs i))
newest_here live k xs i l h = ap (newest live k) (take_more xs i 0 l) ∙ newest_push live k (take i xs) (slice_index xs i) ∙ cond-true (nat_le k (live (slice_index xs i))) _ _ (le-leb k (live (slice_index xs i)) h)

-- or it is not
pub newest_before : (live : ℕ → ℕ) (k : ℕ) (xs : List ℕ) (i : ℕ) → i < length xs → live (slice_index xs i) < k → newest live k (take (i + 1) xs) ≡ newest live k (take i xs)
newest_before live k xs i l h = ap (newest live k) (take_more xs i 0 l) ∙ newest_push live k (take i xs) (slice_index xs i) ∙ cond-false (nat_le k (live (slice_index xs i))) _ _ (lt-leb k (live (slice_index xs i)) h)

-- what holds of the newest block that is long enough
pub record Serves (live : ℕ → ℕ) (k : ℕ) (held : List ℕ) (b : Block) : Type 0 where
  pub among_them : among b.0 held ≡ true
  pub long : k ≤ live b.0
  pub entire : b.1 ≡ live b.0

first_serves : (live : ℕ → ℕ) (k x : ℕ) (xs : List ℕ) (b : Block) (t : Bool) → nat_le k (live x) ≡ t → cond t (Some (x, live x)) None ≡ Some b → Serves live k (x ∷ xs) b
first_serves live k x xs b true q e =
    let same : (x, live x) ≡ b = cc in
    subst (λ (d : Block). Serves live k (x ∷ xs) d) same
    (record { among_them = cond-true (x == x) true (among x xs) (eq-eqb x x refl); long = leb-true k (live x) q; entire = refl })
first_serves live k x xs b false q e = absurd (let z : ◌≡◌ {A = ℕ} 0 1 = cc in let w : ⊥ = omega arith in w)

pub serves : (live : ℕ → ℕ) (k : ℕ) (held : List ℕ) (b : Block) → newest live k held ≡ Some b → Serves live k held b
serves live k [] b e = absurd (let z : ◌≡◌ {A = ℕ} 0 1 = cc in let w : ⊥ = omega arith in w)
serves live k (x ∷ xs) b e = from (serves live k xs b) (newest live k xs) refl e
  where
    from : (newest live k xs ≡ Some b → Serves live k xs b) → (o : Option Block) → newest live k xs ≡ o → or_else o (cond (nat_le k (live x)) (Some (x, live x)) None) ≡ Some b → Serves live k (x ∷ xs) b
    from before (Some d) q f =
        let s = before (q ∙ f) in
        let i = s.among_them in
        record { among_them = grind arith; long = s.long; entire = s.entire }
    from before None q f = first_serves live k x xs b (nat_le k (live x)) refl f

pub newest_same : (live live' : ℕ → ℕ) (k : ℕ) (held : List ℕ) → ((a : ℕ) → live' a ≡ live a) → newest live' k held ≡ newest live k held
newest_same live live' k [] e = refl
newest_same live live' k (x ∷ xs) e = let i = newest_same live live' k xs e in let j = e x in cc

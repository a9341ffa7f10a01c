-- Lists of addresses: one more at the end, one taken out, a part from the start.
use Rattle.std.specs.Prelude.{◌≡◌, ℕ, ◌+◌, ◌<◌, ◌≤◌, true, false, cond, List, [], ◌∷◌, ◌++◌, length, take, drop, ◌==◌, ◌≢◌, slice_index, refl}
use Rattle.std.proofs.Common.{sym, ◌∙◌, ap, take-append-drop, take-take, arith}
use Rattle.std.proofs.Math.Seq.{take-length}
use Rattle.free_list.specs.Holdings.{among, distinct, without}
use Rattle.std.proofs.lemmas.List.{take_more}
use Rattle.std.proofs.lemmas.Bool.{cond-true, eq-eqb, both_ways}

pub among_push : (a x : ℕ) (xs : List ℕ) → among a (xs ++ (x ∷ [])) ≡ cond (a == x) true (among a xs)
among_push a x [] = refl
among_push a x (y ∷ ys) = let i = among_push a x ys in grind arith

pub without_push : (a x : ℕ) (xs : List ℕ) → without a (xs ++ (x ∷ [])) ≡ cond (a == x) (without a xs) (without a xs ++ (x ∷ []))
without_push a x [] = refl
without_push a x (y ∷ ys) = let i = without_push a x ys in grind arith

pub distinct_push : (a : ℕ) (xs : List ℕ) → distinct xs ≡ true → among a xs ≡ false → distinct (xs ++ (a ∷ [])) ≡ true
distinct_push a [] d f = refl
distinct_push a (y ∷ ys) d f =
    let i = distinct_push a ys in
    let p = among_push y a ys in
    grind arith

pub among_front : (a : ℕ) (xs ys : List ℕ) → among a xs ≡ true → among a (xs ++ ys) ≡ true
among_front a [] ys e = absurd (both_ways false refl e)
among_front a (x ∷ xs) ys e = let i = among_front a xs ys in grind arith

pub distinct_front : (xs ys : List ℕ) → distinct (xs ++ ys) ≡ true → distinct xs ≡ true
distinct_front [] ys d = refl
distinct_front (x ∷ xs) ys d = let i = distinct_front xs ys in let f = among_front x xs ys in grind arith

pub fresh_last : (a : ℕ) (xs : List ℕ) → distinct (xs ++ (a ∷ [])) ≡ true → among a xs ≡ false
fresh_last a [] d = refl
fresh_last a (y ∷ ys) d = let i = fresh_last a ys in let p = among_push y a ys in grind arith

pub among_taken_out : (a : ℕ) (xs : List ℕ) → among a (without a xs) ≡ false
among_taken_out a [] = refl
among_taken_out a (y ∷ ys) = let i = among_taken_out a ys in grind arith

pub among_others : (a x : ℕ) (xs : List ℕ) → (x ≢ a) → among x (without a xs) ≡ among x xs
among_others a x [] ne = refl
among_others a x (y ∷ ys) ne = let i = among_others a x ys ne in grind arith

pub without_shorter : (a : ℕ) (xs : List ℕ) → length (without a xs) ≤ length xs
without_shorter a [] = omega arith
without_shorter a (y ∷ ys) = let i = without_shorter a ys in grind arith

-- the address at i is not among those before it
pub fresh_at : (xs : List ℕ) (n i : ℕ) → distinct (take n xs) ≡ true → i < n → i < length xs → among (slice_index xs i) (take i xs) ≡ false
fresh_at xs n i d l k =
    let e : take (i + 1) (take n xs) ≡ take i xs ++ (slice_index xs i ∷ []) = take-take (i + 1) n xs (omega arith) ∙ take_more xs i 0 k in
    let f : distinct (take (i + 1) (take n xs)) ≡ true = distinct_front (take (i + 1) (take n xs)) (drop (i + 1) (take n xs)) (ap distinct (take-append-drop (i + 1) (take n xs)) ∙ d) in
    fresh_last (slice_index xs i) (take i xs) (sym (ap distinct e) ∙ f)

pub among_more : (a : ℕ) (xs : List ℕ) (i : ℕ) → i < length xs → among a (take (i + 1) xs) ≡ cond (a == slice_index xs i) true (among a (take i xs))
among_more a xs i l = ap (among a) (take_more xs i 0 l) ∙ among_push a (slice_index xs i) (take i xs)

pub without_more : (a : ℕ) (xs : List ℕ) (i : ℕ) → i < length xs → without a (take (i + 1) xs) ≡ cond (a == slice_index xs i) (without a (take i xs)) (without a (take i xs) ++ (slice_index xs i ∷ []))
without_more a xs i l = ap (without a) (take_more xs i 0 l) ∙ without_push a (slice_index xs i) (take i xs)

-- what stands below the end of a part from the start is among it
pub among_at : (xs : List ℕ) (n i : ℕ) → i < n → i < length xs → among (slice_index xs i) (take n xs) ≡ true
among_at xs n i l k =
    let here : among (slice_index xs i) (take (i + 1) xs) ≡ true = among_more (slice_index xs i) xs i k ∙ cond-true (slice_index xs i == slice_index xs i) true (among (slice_index xs i) (take i xs)) (eq-eqb (slice_index xs i) (slice_index xs i) refl) in
    ap (among (slice_index xs i)) (sym (take-append-drop (i + 1) (take n xs))) ∙ among_front (slice_index xs i) (take (i + 1) (take n xs)) (drop (i + 1) (take n xs)) (ap (among (slice_index xs i)) (take-take (i + 1) n xs (omega arith)) ∙ here)

-- the same of a whole list
pub fresh_in : (xs : List ℕ) (i : ℕ) → distinct xs ≡ true → i < length xs → among (slice_index xs i) (take i xs) ≡ false
fresh_in xs i d l = fresh_at xs (length xs) i (ap distinct (take-length xs) ∙ d) l l

pub among_in : (xs : List ℕ) (i : ℕ) → i < length xs → among (slice_index xs i) xs ≡ true
among_in xs i l = ap (among (slice_index xs i)) (sym (take-length xs)) ∙ among_at xs (length xs) i l l

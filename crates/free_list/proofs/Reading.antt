-- What a slice's own methods and chains say of the table, in the words of the definitions.
use Rattle.std.proofs.Common.{◌≡◌, ℕ, Bool, true, not, List, [], ◌∷◌, reverse, filter, map, Some, None, Option, refl, ap, ◌∙◌, arith, nat_le, ◌==◌}
use Rattle.std.specs.List.{list_any, find}
use Rattle.std.specs.Option.{option_or}
use Rattle.std.proofs.lemmas.List.Folds.{find-append}
use Rattle.std.proofs.lemmas.Grind.{reverse_onto}
use Rattle.std.proofs.lemmas.List.{map-append}
use Rattle.heap.specs.Meaning.{Block}
use Rattle.free_list.specs.Holdings.{among, distinct, without}
use Rattle.free_list.specs.FreeLists.{newest, or_else}
use Rattle.free_list.specs.Addresses.{among_others}

pub any_among : (a : ℕ) (xs : List ℕ) → list_any (λ y. y == a) xs ≡ among a xs
any_among a [] = refl
any_among a (x ∷ xs) = let i = any_among a xs in grind arith

pub filter_without : (a : ℕ) (xs : List ℕ) → filter (λ y. not (y == a)) xs ≡ without a xs
filter_without a [] = refl
filter_without a (x ∷ xs) = let i = filter_without a xs in grind arith

pub distinct_without : (a : ℕ) (xs : List ℕ) → distinct xs ≡ true → distinct (without a xs) ≡ true
distinct_without a [] d = refl
distinct_without a (x ∷ xs) d = let i = distinct_without a xs in let o = among_others a x xs in grind arith

-- a held block of at least k bytes
-- a held block of at least k bytes
abbrev pub long_enough : ℕ → Block → Bool
long_enough k b = nat_le k b.1

or_same : (o p : Option Block) → option_or o p ≡ or_else o p
or_same None p = refl
or_same (Some b) p = refl

pub find_newest : (live : ℕ → ℕ) (k : ℕ) (xs : List ℕ) → find (long_enough k) (map (λ a. (a, live a)) (reverse xs)) ≡ newest live k xs
find_newest live k [] = refl
find_newest live k (x ∷ xs) =
    let f : ℕ → Block = λ a. (a, live a) in
    let p = long_enough k in
    ap (λ (q : List ℕ). find p (map f q)) (reverse_onto xs x [])
    ∙ ap (find p) (map-append f (reverse xs) (x ∷ []))
    ∙ find-append p (map f (reverse xs)) (f x ∷ [])
    ∙ ap (λ (o : Option Block). option_or o (find p (f x ∷ []))) (find_newest live k xs)
    ∙ or_same (newest live k xs) (find p (f x ∷ []))

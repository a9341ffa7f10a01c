-- Lists of addresses, oldest first: what the table of a free list does.
use Rattle.std.specs.Prelude.{ℕ, Bool, true, false, cond, List, [], ◌∷◌, ◌++◌, ◌==◌}

-- a is among them
abbrev pub among : ℕ → List ℕ → Bool
among a [] = false
among a (x ∷ xs) = cond (a == x) true (among a xs)

-- no address stands twice
abbrev pub distinct : List ℕ → Bool
distinct [] = true
distinct (x ∷ xs) = cond (among x xs) false (distinct xs)

-- a taken out
abbrev pub without : ℕ → List ℕ → List ℕ
without a [] = []
without a (x ∷ xs) = cond (a == x) (without a xs) (x ∷ without a xs)

-- a added as the newest
abbrev pub with_newest : List ℕ → ℕ → List ℕ
with_newest xs a = xs ++ (a ∷ [])

-- What is read in the headers of a table: each in turn, the last, the one whose block covers an address, and whether any is live.
use Rattle.std.proofs.Common.{◌≡◌, ℕ, ◌+◌, ◌-◌, ◌%◌, ◌<◌, ◌≤◌, Bool, true, false, not, cond, eqb, leb, ltb, ◌&&◌, ◌⊎◌, List, [], ◌∷◌, map, length, Some, None, Option, option_map, MatchOption, IsSomeAnd, sym, refl, ap, ◌∙◌, inl, inr, ⊎_elim, arith}
use Rattle.std.proofs.lemmas.Bool.{cases_eq, cases_Bool, cond-true, cond-false}
use Rattle.std.specs.List.{list_any, last_or, find}
use Rattle.heap.specs.Meaning.{Block, In, Finds}
use Rattle.bump.specs.declared.headers.State.{State}
use Rattle.bump.specs.declared.headers.State.TheVariants.{Live, Ended}
use Rattle.bump.specs.declared.headers.Header.{Header as Read}
use Rattle.region.specs.Bytes.{word_at}
use Rattle.bump.specs.Table.{Header, shaped, header_at, walk, live_in, end_in, none_live, Placed, placed}
use Rattle.bump.specs.Headers.{number, seen}
use Rattle.bump.specs.Walks.{Laid, shaped_good, walk_step, live_here, live_other, live_low}

abbrev onto : Placed → List Placed → List Placed
onto q qs = q ∷ qs

-- what was read at p is the header there, or none
pub header_of : (xs : List ℕ) (bound p room l s : ℕ) → bound ≤ length xs → room ≡ bound - p → 16 ≤ room → (p + 4 ≤ length xs → l ≡ word_at xs p) → (p + 4 + 4 ≤ length xs → s ≡ word_at xs (p + 4)) → header_at xs bound p ≡ shaped bound p l s
unfolding header_at
header_of xs bound p room l s h e k f g = sym (ap (λ (z : ℕ). shaped bound p z s) (f (omega arith)) ∙ ap (λ (z : ℕ). shaped bound p (word_at xs p) z) (g (omega arith)))

pub shaped_else : (bound p l s : ℕ) → (s ≡ 1 → ⊥) → (s ≡ 2 → ⊥) → shaped bound p l s ≡ None
shaped_else bound p l s h k = grind arith

pub shaped_unfit : (bound p l s : ℕ) → (8 ≤ l → l % 8 ≡ 0 → bound < p + 8 + l) → shaped bound p l s ≡ None
shaped_unfit bound p l s h = grind arith

number_is : (s : State) → (number s ≡ 1) ⊎ (number s ≡ 2)
number_is Live = inl refl
number_is Ended = inr refl

pub shaped_fit : (bound p l : ℕ) (s : State) → p + 8 + l ≤ bound → 8 ≤ l → l % 8 ≡ 0 → shaped bound p l (number s) ≡ Some (l, number s)
shaped_fit bound p l s f o e = shaped_good bound p l (number s) f o e (number_is s)

-- one header further
pub read_on : (xs : List ℕ) (bound p start l n next : ℕ) → start ≡ p + 8 → next ≡ start + l → header_at xs bound p ≡ Some (l, n) → placed (walk xs bound p) p ≡ (start, (l, n)) ∷ placed (walk xs bound next) next
read_on xs bound p start l n next s e h =
    let on : p + 8 + l ≡ next = omega arith in
    ap (λ (cs : List Header). placed cs p) (walk_step xs bound p (l, n) h)
    ∙ ap (λ (z : ℕ). onto (p + 8, (l, n)) (placed (walk xs bound z) z)) on
    ∙ ap (λ (z : ℕ). onto (z, (l, n)) (placed (walk xs bound next) next)) (sym s)

-- any live
abbrev pub alive : Placed → Bool
alive q = eqb q.1.1 1

pub any_alive : (cs : List Header) (p : ℕ) → list_any alive (placed cs p) ≡ not (none_live cs)
any_alive [] p = refl
any_alive (c ∷ cs) p = let i = any_alive cs (p + 8 + c.0) in grind arith

-- the last, which ends where the table does
abbrev pub ends : Option Read → ℕ
ends (Some h) = h.start + h.length
ends None = 0

pub ends_match : (o : Option Read) (r : ℕ) → MatchOption o (r ≡ 0) (λ h. r ≡ h.start + h.length) → r ≡ ends o
ends_match (Some h) r m = m
ends_match None r m = m

pub last_ends : (cs : List Header) (hs : List Read) (p : ℕ) (o : Option Read) → map seen hs ≡ placed cs p → ends o ≡ p → ends (last_or o hs) ≡ end_in cs p
last_ends [] [] p o e f = f
last_ends [] (h ∷ hs) p o e f = cc
last_ends (c ∷ cs) [] p o e f = cc
last_ends (c ∷ cs) (h ∷ hs) p o e f =
    let q : seen h ≡ (p + 8, c) = cc in
    let qs : map seen hs ≡ placed cs (p + 8 + c.0) = cc in
    let start : h.start ≡ p + 8 = ap (λ (x : Placed). x.0) q in
    let long : h.length ≡ c.0 = ap (λ (x : Placed). x.1.0) q in
    last_ends cs hs (p + 8 + c.0) (Some h) qs (omega arith)

pub end_within : (bound : ℕ) (cs : List Header) (p : ℕ) → Laid bound p cs → p ≤ bound → end_in cs p ≤ bound
end_within bound [] p w h = h
end_within bound (c ∷ cs) p w h = end_within bound cs (p + 8 + c.0) w.1 w.0.fits

-- the live one whose block covers an address
abbrev pub covering : ℕ → Placed → Bool
covering a q = alive q && (leb q.0 a && ltb a (q.0 + q.1.0))

abbrev pub block_of : Placed → Block
block_of q = (q.0, q.1.0)

covers : (s l p a : ℕ) → (eqb s 1 && (leb (p + 8) a && ltb a (p + 8 + l))) ≡ true → (cond (eqb s 1) l 0 ≡ l) × In (p + 8) l a
covers s l p a e = (grind arith, record { from = grind arith; below = grind arith })

misses : (s l p a : ℕ) → (eqb s 1 && (leb (p + 8) a && ltb a (p + 8 + l))) ≡ false → In (p + 8) (cond (eqb s 1) l 0) a → ⊥
misses s l p a e i = let f = i.from in let b = i.below in grind arith

past : (c : Header) (cs : List Header) (p a : ℕ) (r : Option Block) → covering a (p + 8, c) ≡ false → Finds (live_in cs (p + 8 + c.0)) a r → Finds (live_in (c ∷ cs) p) a r
past c cs p a (Some b) e f =
    let lo = f.1.from in
    let hi = f.1.below in
    let l = f.0 in
    (live_other c cs p b.0 (λ q. let z = live_low cs (p + 8 + c.0) b.0 (omega arith) in omega arith) ∙ f.0, f.1)
past c cs p a None e f = λ b i.
    let lo = i.from in
    let hi = i.below in
    ⊎_elim
    (λ (q : b ≡ p + 8). let h = live_here c cs p b q in misses c.1 c.0 p a e (record { from = omega arith; below = omega arith }))
    (λ (q : b ≡ p + 8 → ⊥). let o = live_other c cs p b q in f b (record { from = lo; below = omega arith }))
    (cases_eq b (p + 8))

pub finds_in : (cs : List Header) (p a : ℕ) → Finds (live_in cs p) a (option_map block_of (find (covering a) (placed cs p)))
finds_in [] p a = λ b i. let lo = i.from in let hi = i.below in omega arith
finds_in (c ∷ cs) p a =
    let others = find (covering a) (placed cs (p + 8 + c.0)) in
    ⊎_elim
    (λ (e : covering a (p + 8, c) ≡ true).
    let h = covers c.1 c.0 p a e in
    rw (cond-true (covering a (p + 8, c)) (Some (p + 8, c)) others e) (live_here c cs p (p + 8) refl ∙ h.0, h.1))
    (λ (e : covering a (p + 8, c) ≡ false).
    rw (cond-false (covering a (p + 8, c)) (Some (p + 8, c)) others e) (past c cs p a (option_map block_of others) e (finds_in cs (p + 8 + c.0) a)))
    (cases_Bool (covering a (p + 8, c)))

pub found_block : (r : Option Read) (o : Option Block) → MatchOption r (o ≡ None) (λ h. IsSomeAnd o (λ b. b ≡ (h.start, h.length))) → o ≡ option_map block_of (option_map seen r)
found_block None o e = e
found_block (Some h) (Some b) e = ap (λ (d : Block). Some d) e
found_block (Some h) None e = absurd e

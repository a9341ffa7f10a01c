-- Stretches of chunks in a region: what is read where bytes stayed, and the list once one stretch was written anew.
use Rattle.std.proofs.Common.{◌≡◌, ℕ, ◌+◌, ◌<◌, ◌≤◌, List, [], ◌∷◌, ◌++◌, get_or, Some, None, sym, refl, ap, ◌∙◌, ⊎_elim, arith}
use Rattle.boundary_tag.specs.Chunks.{Chunk, chunk_at, walk, end_in}
use Rattle.boundary_tag.specs.Walks.{option_cases, chunk_same, walk_step, walk_end, walk_from_same}

-- the chunks cs stand from p to q
abbrev pub Reach : List ℕ → ℕ → ℕ → List Chunk → ℕ → Type 0
Reach xs span p [] q = p ≡ q
Reach xs span p (c ∷ cs) q = (chunk_at xs span p ≡ Some c) × Reach xs span (p + c.0) cs q

pub reach_walk : (xs : List ℕ) (span p : ℕ) (cs : List Chunk) (q : ℕ) → Reach xs span p cs q → walk xs span p ≡ cs ++ walk xs span q
reach_walk xs span p [] q r = ap (walk xs span) r
reach_walk xs span p (c ∷ cs) q r = walk_step xs span p c r.0 ∙ ap (λ (z : List Chunk). c ∷ z) (reach_walk xs span (p + c.0) cs q r.1)

pub reach_up : (xs : List ℕ) (span p : ℕ) (cs : List Chunk) (q : ℕ) → Reach xs span p cs q → p ≤ q
reach_up xs span p [] q r = omega arith
reach_up xs span p (c ∷ cs) q r = let i = reach_up xs span (p + c.0) cs q r.1 in omega arith

pub reach_same : (xs ys : List ℕ) (span p : ℕ) (cs : List Chunk) (q : ℕ) → ((x : ℕ) → x < q → get_or ys x 0 ≡ get_or xs x 0) → Reach xs span p cs q → Reach ys span p cs q
reach_same xs ys span p [] q e r = r
reach_same xs ys span p (c ∷ cs) q e r =
    let u = reach_up xs span (p + c.0) cs q r.1 in
    (chunk_same xs ys span p c (λ x h l. e x (omega arith)) r.0, reach_same xs ys span (p + c.0) cs q e r.1)

head_of : (c d : Chunk) (cs ds : List Chunk) → c ∷ cs ≡ d ∷ ds → c ≡ d
head_of c d cs ds e = cc

tail_of : (c d : Chunk) (cs ds : List Chunk) → c ∷ cs ≡ d ∷ ds → cs ≡ ds
tail_of c d cs ds e = cc

none_some : (c : Chunk) (cs : List Chunk) → [] ≡ c ∷ cs → ⊥
none_some c cs e = let z : ◌≡◌ {A = ℕ} 0 1 = cc in omega arith

pub walk_first : (xs : List ℕ) (span p : ℕ) (c : Chunk) (cs : List Chunk) → walk xs span p ≡ c ∷ cs → (chunk_at xs span p ≡ Some c) × (walk xs span (p + c.0) ≡ cs)
walk_first xs span p c cs e =
    ⊎_elim
    (λ (q : chunk_at xs span p ≡ None). absurd (none_some c cs (sym (walk_end xs span p q) ∙ e)))
    (λ (q : (d : Chunk) × (chunk_at xs span p ≡ Some d)).
    let d = q.0 in
    let s : d ∷ walk xs span (p + d.0) ≡ c ∷ cs = sym (walk_step xs span p d q.1) ∙ e in
    let h : d ≡ c = head_of d c (walk xs span (p + d.0)) cs s in
    (q.1 ∙ ap (λ (z : Chunk). Some z) h, ap (λ (z : Chunk). walk xs span (p + z.0)) (sym h) ∙ tail_of d c (walk xs span (p + d.0)) cs s))
    (option_cases (chunk_at xs span p))

pub walk_reach : (xs : List ℕ) (span p : ℕ) (pre rest : List Chunk) → walk xs span p ≡ pre ++ rest → Reach xs span p pre (end_in pre p) × (walk xs span (end_in pre p) ≡ rest)
walk_reach xs span p [] rest e = (refl, e)
walk_reach xs span p (c ∷ pre) rest e =
    let f = walk_first xs span p c (pre ++ rest) e in
    let i = walk_reach xs span (p + c.0) pre rest f.1 in
    ((f.0, i.0), i.1)

-- the list after a stretch from k to q was written anew, and every byte before and behind stayed
pub rewritten : (xs ys : List ℕ) (span : ℕ) (pre mid post : List Chunk) (k q : ℕ) → Reach xs span 0 pre k → ((x : ℕ) → x < k → get_or ys x 0 ≡ get_or xs x 0)
    → Reach ys span k mid q → walk xs span q ≡ post → ((x : ℕ) → q ≤ x → get_or ys x 0 ≡ get_or xs x 0) → walk ys span 0 ≡ pre ++ (mid ++ post)
rewritten xs ys span pre mid post k q r lo m w hi =
    reach_walk ys span 0 pre k (reach_same xs ys span 0 pre k lo r)
    ∙ ap (λ (z : List Chunk). pre ++ z) (reach_walk ys span k mid q m ∙ ap (λ (z : List Chunk). mid ++ z) (walk_from_same xs ys span q hi ∙ w))

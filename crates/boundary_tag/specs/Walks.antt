-- The chunks of a region: one more, and what is known of all.
use Rattle.std.proofs.Common.{◌≡◌, ℕ, zero, suc, ◌+◌, ◌-◌, ◌%◌, ◌<◌, ◌≤◌, cond, eqb, ◌⊎◌, List, [], ◌∷◌, get_or, Some, None, Option, sym, refl, ap, ◌∙◌, subst, inl, inr, ⊎_elim, arith}
use Rattle.heap.specs.Meaning.{In}
use Rattle.boundary_tag.specs.Chunks.{Chunk, Shape, Inside, tag_at, shaped, closed, chunk_at, then_chunks, some_chunks, walk, live_in}
use Rattle.boundary_tag.specs.Ends.{tag_same}
use Rattle.std.proofs.lemmas.Bool.{cond-true, cond-false, eq-eqb, ne_eqb, cases_eq, cases_lt}

pub option_cases : (o : Option Chunk) → (o ≡ None) ⊎ ((c : Chunk) × (o ≡ Some c))
option_cases None = inl refl
option_cases (Some c) = inr (c, refl)

pub shaped_short : (span p l s : ℕ) → span < p + 24 → shaped span p l s ≡ None
shaped_short span p l s h = grind arith

pub shaped_is : (span p l s : ℕ) (c : Chunk) → shaped span p l s ≡ Some c → (l, s) ≡ c
shaped_is span p l s c e = grind arith

pub shaped_fits : (span p l s : ℕ) (c : Chunk) → shaped span p l s ≡ Some c → p + l ≤ span
shaped_fits span p l s c e = grind arith

pub shaped_some : (span p l s : ℕ) (c : Chunk) → shaped span p l s ≡ Some c → 24 ≤ l
shaped_some span p l s c e = grind arith

pub shaped_eighth : (span p l s : ℕ) (c : Chunk) → shaped span p l s ≡ Some c → l % 8 ≡ 0
shaped_eighth span p l s c e = grind arith

pub shaped_state : (span p l s : ℕ) (c : Chunk) → shaped span p l s ≡ Some c → (s ≡ 0) ⊎ (s ≡ 1)
shaped_state span p l s c e =
    ⊎_elim (λ (q : s ≡ 0). inl q)
    (λ (q : s ≡ 0 → ⊥). ⊎_elim (λ (r : s ≡ 1). inr r) (λ (r : s ≡ 1 → ⊥). absurd (let z : ◌≡◌ {A = ℕ} 0 1 = grind arith in let w : ⊥ = omega arith in w)) (cases_eq s 1))
    (cases_eq s 0)

pub shaped_good : (span p l s : ℕ) → p + l ≤ span → 24 ≤ l → l % 8 ≡ 0 → (s ≡ 0) ⊎ (s ≡ 1) → shaped span p l s ≡ Some (l, s)
shaped_good span p l s f o g (inl e) = grind arith
shaped_good span p l s f o g (inr e) = grind arith

pub shape_shaped : (span p l s : ℕ) (c : Chunk) → shaped span p l s ≡ Some c → Shape span p c
shape_shaped span p l s c e =
    subst (λ (q : Chunk). Shape span p q) (shaped_is span p l s c e)
    (record { fits = shaped_fits span p l s c e; some = shaped_some span p l s c e; eighth = shaped_eighth span p l s c e; state = shaped_state span p l s c e })

closed_pair : (a b u v : ℕ) (c : Chunk) → cond (eqb u a) (cond (eqb v b) (Some (a, b)) None) None ≡ Some c → (u ≡ a) × (v ≡ b) × ((a, b) ≡ c)
closed_pair a b u v c e = (grind arith, grind arith, grind arith)

pub closed_is : (o : Option Chunk) (t c : Chunk) → closed o t ≡ Some c → (o ≡ Some c) × (t ≡ c)
closed_is None t c e = absurd (let z : ◌≡◌ {A = ℕ} 0 1 = cc in let w : ⊥ = omega arith in w)
closed_is (Some d) t c e =
    let k = closed_pair d.0 d.1 t.0 t.1 c e in
    (ap (λ (z : Chunk). Some z) k.2, same t.0 t.1 d.0 d.1 k.0 k.1 ∙ k.2)
  where
    same : (u v a b : ℕ) → u ≡ a → v ≡ b → ◌≡◌ {A = Chunk} (u, v) (a, b)
    same u v a b p q = cc

closed_good : (c : Chunk) → closed (Some c) c ≡ Some c
closed_good c = cond-true (eqb c.0 c.0) (cond (eqb c.1 c.1) (Some c) None) None (eq-eqb c.0 c.0 refl) ∙ cond-true (eqb c.1 c.1) (Some c) None (eq-eqb c.1 c.1 refl)

-- what is read at a chunk's two ends
pub record Ends (xs : List ℕ) (p : ℕ) (c : Chunk) : Type 0 where
  pub head : tag_at xs p ≡ c
  pub tail : tag_at xs (p + (c.0 - 8)) ≡ c

pub shape_of : (xs : List ℕ) (span p : ℕ) (c : Chunk) → chunk_at xs span p ≡ Some c → Shape span p c
unfolding chunk_at
shape_of xs span p c e = let t = tag_at xs p in shape_shaped span p t.0 t.1 c (closed_is (shaped span p t.0 t.1) (tag_at xs (p + (t.0 - 8))) c e).0

pub ends_of : (xs : List ℕ) (span p : ℕ) (c : Chunk) → chunk_at xs span p ≡ Some c → Ends xs p c
unfolding chunk_at
ends_of xs span p c e =
    let t = tag_at xs p in
    let k = closed_is (shaped span p t.0 t.1) (tag_at xs (p + (t.0 - 8))) c e in
    let h : t ≡ c = shaped_is span p t.0 t.1 c k.0 in
    record { head = h; tail = ap (λ (z : Chunk). tag_at xs (p + (z.0 - 8))) (sym h) ∙ k.1 }

pub chunk_good : (xs : List ℕ) (span p : ℕ) (c : Chunk) → Ends xs p c → Shape span p c → chunk_at xs span p ≡ Some c
unfolding chunk_at
chunk_good xs span p c e s =
    ap (λ (z : Chunk). closed (shaped span p z.0 z.1) (tag_at xs (p + (z.0 - 8)))) e.head
    ∙ ap (λ (z : Chunk). closed (shaped span p c.0 c.1) z) e.tail
    ∙ ap (λ (z : Option Chunk). closed z c) (shaped_good span p c.0 c.1 s.fits s.some s.eighth s.state)
    ∙ closed_good c

pub chunk_none : (xs : List ℕ) (span p : ℕ) → span < p + 24 → chunk_at xs span p ≡ None
unfolding chunk_at
chunk_none xs span p h = ap (λ (o : Option Chunk). closed o (tag_at xs (p + ((tag_at xs p).0 - 8)))) (shaped_short span p (tag_at xs p).0 (tag_at xs p).1 h)

pub inside_of : (xs : List ℕ) (span p : ℕ) (o : Option Chunk) → o ≡ chunk_at xs span p → Inside span p o
inside_of xs span p None e = tt
inside_of xs span p (Some c) e = shape_of xs span p c (sym e)

-- a chunk depends on its own bytes alone
pub chunk_same : (xs ys : List ℕ) (span p : ℕ) (c : Chunk) → ((x : ℕ) → p ≤ x → x < p + c.0 → get_or ys x 0 ≡ get_or xs x 0) → chunk_at xs span p ≡ Some c → chunk_at ys span p ≡ Some c
chunk_same xs ys span p c e h =
    let s = shape_of xs span p c h in
    let o = s.some in
    let k = ends_of xs span p c h in
    chunk_good ys span p c
    (record {
      head = tag_same xs ys p (λ x q r. e x q (omega arith)) ∙ k.head;
      tail = tag_same xs ys (p + (c.0 - 8)) (λ x q r. e x (omega arith) (omega arith)) ∙ k.tail;
    })
    s

-- and not on those between its tags
pub chunk_kept : (xs ys : List ℕ) (span p : ℕ) (c : Chunk) → ((x : ℕ) → x < p + 8 → get_or ys x 0 ≡ get_or xs x 0) → ((x : ℕ) → p + c.0 - 8 ≤ x → get_or ys x 0 ≡ get_or xs x 0) → chunk_at xs span p ≡ Some c → chunk_at ys span p ≡ Some c
chunk_kept xs ys span p c lo hi h =
    let s = shape_of xs span p c h in
    let o = s.some in
    let k = ends_of xs span p c h in
    chunk_good ys span p c
    (record {
      head = tag_same xs ys p (λ x q r. lo x (omega arith)) ∙ k.head;
      tail = tag_same xs ys (p + (c.0 - 8)) (λ x q r. hi x (omega arith)) ∙ k.tail;
    })
    s

pub chunk_from_same : (xs ys : List ℕ) (span p : ℕ) → ((x : ℕ) → p ≤ x → get_or ys x 0 ≡ get_or xs x 0) → chunk_at ys span p ≡ chunk_at xs span p
unfolding chunk_at
chunk_from_same xs ys span p e =
    ap (λ (z : Chunk). closed (shaped span p z.0 z.1) (tag_at ys (p + (z.0 - 8)))) (tag_same xs ys p (λ x q r. e x q))
    ∙ ap (λ (z : Chunk). closed (shaped span p (tag_at xs p).0 (tag_at xs p).1) z) (tag_same xs ys (p + ((tag_at xs p).0 - 8)) (λ x q r. e x (omega arith)))

pub then_same : (o : Option Chunk) (f g : Chunk → List Chunk) → ((c : Chunk) → o ≡ Some c → f c ≡ g c) → then_chunks o f ≡ then_chunks o g
then_same None f g e = refl
then_same (Some c) f g e = ap (λ (r : List Chunk). c ∷ r) (e c refl)

chunks_none : (n : ℕ) (xs : List ℕ) (span p : ℕ) → chunk_at xs span p ≡ None → some_chunks n xs span p ≡ []
unfolding some_chunks
chunks_none zero xs span p e = refl
chunks_none (suc n) xs span p e = ap (λ (o : Option Chunk). then_chunks o (λ c. some_chunks n xs span (p + c.0))) e

chunks_some : (n : ℕ) (xs : List ℕ) (span p : ℕ) (c : Chunk) → chunk_at xs span p ≡ Some c → some_chunks (suc n) xs span p ≡ c ∷ some_chunks n xs span (p + c.0)
unfolding some_chunks
chunks_some n xs span p c e = ap (λ (o : Option Chunk). then_chunks o (λ d. some_chunks n xs span (p + d.0))) e

-- any number that reaches the span's end is enough
chunks_enough : (n k : ℕ) (xs : List ℕ) (span p : ℕ) → span ≤ p + n → span ≤ p + k → some_chunks n xs span p ≡ some_chunks k xs span p
unfolding some_chunks
chunks_enough zero zero xs span p h j = refl
chunks_enough zero (suc k) xs span p h j = sym (chunks_none (suc k) xs span p (chunk_none xs span p (omega arith)))
chunks_enough (suc n) zero xs span p h j = chunks_none (suc n) xs span p (chunk_none xs span p (omega arith))
chunks_enough (suc n) (suc k) xs span p h j =
    then_same (chunk_at xs span p) (λ c. some_chunks n xs span (p + c.0)) (λ c. some_chunks k xs span (p + c.0))
    (λ c e. let o = (shape_of xs span p c e).some in chunks_enough n k xs span (p + c.0) (omega arith) (omega arith))

pub walk_end : (xs : List ℕ) (span p : ℕ) → chunk_at xs span p ≡ None → walk xs span p ≡ []
unfolding walk
walk_end xs span p e = chunks_none (span - p) xs span p e

pub walk_step : (xs : List ℕ) (span p : ℕ) (c : Chunk) → chunk_at xs span p ≡ Some c → walk xs span p ≡ c ∷ walk xs span (p + c.0)
unfolding walk
walk_step xs span p c e =
    let s = shape_of xs span p c e in
    let f = s.fits in
    let o = s.some in
    chunks_enough (span - p) (suc (span - p)) xs span p (omega arith) (omega arith)
    ∙ chunks_some (span - p) xs span p c e
    ∙ ap (λ (r : List Chunk). c ∷ r) (chunks_enough (span - p) (span - (p + c.0)) xs span (p + c.0) (omega arith) (omega arith))

chunks_from_same : (n : ℕ) (xs ys : List ℕ) (span p : ℕ) → ((x : ℕ) → p ≤ x → get_or ys x 0 ≡ get_or xs x 0) → some_chunks n ys span p ≡ some_chunks n xs span p
unfolding some_chunks
chunks_from_same zero xs ys span p e = refl
chunks_from_same (suc n) xs ys span p e =
    ap (λ (o : Option Chunk). then_chunks o (λ c. some_chunks n ys span (p + c.0))) (chunk_from_same xs ys span p e)
    ∙ then_same (chunk_at xs span p) (λ c. some_chunks n ys span (p + c.0)) (λ c. some_chunks n xs span (p + c.0))
    (λ c _. chunks_from_same n xs ys span (p + c.0) (λ x h. e x (omega arith)))

pub walk_from_same : (xs ys : List ℕ) (span p : ℕ) → ((x : ℕ) → p ≤ x → get_or ys x 0 ≡ get_or xs x 0) → walk ys span p ≡ walk xs span p
unfolding walk
walk_from_same xs ys span p e = chunks_from_same (span - p) xs ys span p e

-- chunks as they lie
abbrev pub Laid : ℕ → ℕ → List Chunk → Type 0
Laid span p [] = Unit {0}
Laid span p (c ∷ cs) = Shape span p c × Laid span (p + c.0) cs

laid_then : (o : Option Chunk) (span p : ℕ) (f : Chunk → List Chunk) → ((c : Chunk) → o ≡ Some c → Shape span p c × Laid span (p + c.0) (f c)) → Laid span p (then_chunks o f)
laid_then None span p f h = tt
laid_then (Some c) span p f h = h c refl

laid_chunks : (n : ℕ) (xs : List ℕ) (span p : ℕ) → Laid span p (some_chunks n xs span p)
unfolding some_chunks
laid_chunks zero xs span p = tt
laid_chunks (suc n) xs span p = laid_then (chunk_at xs span p) span p (λ c. some_chunks n xs span (p + c.0)) (λ c e. (shape_of xs span p c e, laid_chunks n xs span (p + c.0)))

pub laid_walk : (xs : List ℕ) (span p : ℕ) → Laid span p (walk xs span p)
unfolding walk
laid_walk xs span p = laid_chunks (span - p) xs span p

pub live_other : (c : Chunk) (cs : List Chunk) (p a : ℕ) → (a ≡ p + 8 → ⊥) → live_in (c ∷ cs) p a ≡ live_in cs (p + c.0) a
live_other c cs p a h = cond-false (eqb a (p + 8)) (cond (eqb c.1 1) (c.0 - 16) 0) (live_in cs (p + c.0) a) (ne_eqb a (p + 8) h)

pub live_here : (c : Chunk) (cs : List Chunk) (p a : ℕ) → a ≡ p + 8 → live_in (c ∷ cs) p a ≡ cond (eqb c.1 1) (c.0 - 16) 0
live_here c cs p a h = cond-true (eqb a (p + 8)) (cond (eqb c.1 1) (c.0 - 16) 0) (live_in cs (p + c.0) a) (eq-eqb a (p + 8) h)

pub at_most : (s l : ℕ) → cond (eqb s 1) l 0 ≤ l
at_most s l = grind arith

pub both : (s l : ℕ) → 0 < cond (eqb s 1) l 0 → cond (eqb s 1) l 0 ≡ l
both s l h = grind arith

pub is_live : (s l : ℕ) → 0 < cond (eqb s 1) l 0 → s ≡ 1
is_live s l h = grind arith

pub live_low : (span : ℕ) (cs : List Chunk) (p a : ℕ) → Laid span p cs → a < p + 8 → live_in cs p a ≡ 0
live_low span [] p a w h = refl
live_low span (c ∷ cs) p a w h = live_other c cs p a (λ e. omega arith) ∙ live_low span cs (p + c.0) a w.1 (omega arith)

-- a live block among chunks
pub record Found (span p a l : ℕ) : Type 0 where
  pub from : p + 8 ≤ a
  pub address : a % 8 ≡ 0
  pub eighth : l % 8 ≡ 0
  pub some : 8 ≤ l
  pub within : a + l + 8 ≤ span

pub laid_found : (span : ℕ) (cs : List Chunk) (p a : ℕ) → p % 8 ≡ 0 → Laid span p cs → 0 < live_in cs p a → Found span p a (live_in cs p a)
laid_found span [] p a g w h = absurd (let z : ⊥ = omega arith in z)
laid_found span (c ∷ cs) p a g w h =
    let s = w.0 in
    let f = s.fits in
    let o = s.some in
    let e = s.eighth in
    ⊎_elim
    (λ (q : a ≡ p + 8).
    let u = live_here c cs p a q in
    let v : cond (eqb c.1 1) (c.0 - 16) 0 ≡ c.0 - 16 = both c.1 (c.0 - 16) (omega arith) in
    let l : live_in (c ∷ cs) p a ≡ c.0 - 16 = u ∙ v in
    record { from = omega arith; address = omega arith; eighth = omega arith; some = omega arith; within = omega arith })
    (λ (q : a ≡ p + 8 → ⊥).
    let u = live_other c cs p a q in
    let r = laid_found span cs (p + c.0) a (omega arith) w.1 (omega arith) in
    let rf = r.from in
    let re = r.eighth in
    let rs = r.some in
    let rw' = r.within in
    record { from = omega arith; address = r.address; eighth = omega arith; some = omega arith; within = omega arith })
    (cases_eq a (p + 8))

-- between two live blocks there is room for two tags
pub laid_apart : (span : ℕ) (cs : List Chunk) (p a b : ℕ) → Laid span p cs → a < b → 0 < live_in cs p a → 0 < live_in cs p b → a + live_in cs p a + 16 ≤ b
laid_apart span [] p a b w l h k = absurd (let z : ⊥ = omega arith in z)
laid_apart span (c ∷ cs) p a b w l h k =
    let o = w.0.some in
    ⊎_elim
    (λ (q : a ≡ p + 8).
    let u = live_here c cs p a q in
    let v = at_most c.1 (c.0 - 16) in
    let x = live_other c cs p b (λ e. omega arith) in
    ⊎_elim
    (λ (r : b < p + c.0 + 8). absurd (let y = live_low span cs (p + c.0) b w.1 r in let z : ⊥ = omega arith in z))
    (λ (r : p + c.0 + 8 ≤ b). omega arith)
    (cases_lt b (p + c.0 + 8)))
    (λ (q : a ≡ p + 8 → ⊥).
    let u = live_other c cs p a q in
    ⊎_elim
    (λ (r : a < p + c.0 + 8). absurd (let y = live_low span cs (p + c.0) a w.1 r in let z : ⊥ = omega arith in z))
    (λ (r : p + c.0 + 8 ≤ a).
    let x = live_other c cs p b (λ e. omega arith) in
    let i = laid_apart span cs (p + c.0) a b w.1 l (omega arith) (omega arith) in
    omega arith)
    (cases_lt a (p + c.0 + 8)))
    (cases_eq a (p + 8))

-- the blocks from p on are those of the chunks from p on
abbrev pub From : (ℕ → ℕ) → List ℕ → ℕ → ℕ → Type 0
From live xs span p = (x : ℕ) → p ≤ x → live x ≡ live_in (walk xs span p) p x

module _ (live : ℕ → ℕ) (xs : List ℕ) (span p : ℕ) (f : From live xs span p) where
  pub from_none : chunk_at xs span p ≡ None → (x : ℕ) → p ≤ x → live x ≡ 0
  from_none e x h = f x h ∙ ap (λ (cs : List Chunk). live_in cs p x) (walk_end xs span p e)

  module _ (c : Chunk) (e : chunk_at xs span p ≡ Some c) where
    pub from_step : From live xs span (p + c.0)
    from_step x h =
        let o = (shape_of xs span p c e).some in
        f x (omega arith) ∙ ap (λ (cs : List Chunk). live_in cs p x) (walk_step xs span p c e) ∙ live_other c (walk xs span (p + c.0)) p x (λ q. omega arith)

    pub from_here : live (p + 8) ≡ cond (eqb c.1 1) (c.0 - 16) 0
    from_here = f (p + 8) (omega arith) ∙ ap (λ (cs : List Chunk). live_in cs p (p + 8)) (walk_step xs span p c e) ∙ live_here c (walk xs span (p + c.0)) p (p + 8) refl

    from_between : (x : ℕ) → p ≤ x → x < p + c.0 → (x ≡ p + 8 → ⊥) → live x ≡ 0
    from_between x h l q =
        f x h ∙ ap (λ (cs : List Chunk). live_in cs p x) (walk_step xs span p c e) ∙ live_other c (walk xs span (p + c.0)) p x q
        ∙ live_low span (walk xs span (p + c.0)) (p + c.0) x (laid_walk xs span (p + c.0)) (omega arith)

    pub from_live : c.1 ≡ 1 → live (p + 8) ≡ c.0 - 16
    from_live s = from_here ∙ cond-true (eqb c.1 1) (c.0 - 16) 0 (eq-eqb c.1 1 s)

    -- no block before the next chunk covers a, if none before p does and this one does not
    pub past_step : (a : ℕ) → (In (p + 8) (cond (eqb c.1 1) (c.0 - 16) 0) a → ⊥) → ((x : ℕ) → x < p → In x (live x) a → ⊥) → (x : ℕ) → x < p + c.0 → In x (live x) a → ⊥
    past_step a out old x l i =
        ⊎_elim
        (λ (q : x < p). old x q i)
        (λ (q : p ≤ x). ⊎_elim
        (λ (r : x ≡ p + 8).
        let k : live x ≡ cond (eqb c.1 1) (c.0 - 16) 0 = ap live r ∙ from_here in
        let lo = i.from in
        let hi = i.below in
        out (record { from = omega arith; below = omega arith }))
        (λ (r : x ≡ p + 8 → ⊥). let z = from_between x q l r in let lo = i.from in let hi = i.below in omega arith)
        (cases_eq x (p + 8)))
        (cases_lt x p)

pub out_past : (s l p a : ℕ) → p + 8 + l ≤ a → In (p + 8) (cond (eqb s 1) l 0) a → ⊥
out_past s l p a h i = let b = i.below in let m = at_most s l in omega arith

pub out_before : (s l p a : ℕ) → a < p + 8 → In (p + 8) (cond (eqb s 1) l 0) a → ⊥
out_before s l p a h i = let b = i.from in omega arith

pub out_free : (s l p a : ℕ) → (s ≡ 1 → ⊥) → In (p + 8) (cond (eqb s 1) l 0) a → ⊥
out_free s l p a h i = let f = i.from in let b = i.below in let z = cond-false (eqb s 1) l 0 (ne_eqb s 1 h) in omega arith

-- a chunk as it is read: its first tag, its shape, then its last tag
pub read_some : (xs : List ℕ) (span p : ℕ) (first last c : Chunk) (r : Option Chunk) → first ≡ tag_at xs p → Some c ≡ shaped span p first.0 first.1 → last ≡ tag_at xs (p + (c.0 - 8)) → r ≡ closed (Some c) last → r ≡ chunk_at xs span p
unfolding chunk_at
read_some xs span p first last c r f s l e =
    let i : tag_at xs p ≡ c = sym f ∙ shaped_is span p first.0 first.1 c (sym s) in
    e ∙ ap (λ (t : Chunk). closed (Some c) t) (l ∙ ap (λ (z : Chunk). tag_at xs (p + (z.0 - 8))) (sym i))
    ∙ ap (λ (o : Option Chunk). closed o (tag_at xs (p + ((tag_at xs p).0 - 8)))) (s ∙ ap (λ (z : Chunk). shaped span p z.0 z.1) f)

pub read_none : (xs : List ℕ) (span p : ℕ) (first : Chunk) → first ≡ tag_at xs p → None ≡ shaped span p first.0 first.1 → None ≡ chunk_at xs span p
unfolding chunk_at
read_none xs span p first f s = ap (λ (o : Option Chunk). closed o (tag_at xs (p + ((tag_at xs p).0 - 8)))) (s ∙ ap (λ (z : Chunk). shaped span p z.0 z.1) f)

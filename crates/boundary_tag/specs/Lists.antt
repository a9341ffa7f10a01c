-- Lists of chunks: a chunk in its place, and how the list changes as a block comes or ends there.
use Rattle.std.proofs.Common.{◌≡◌, ℕ, ◌+◌, ◌-◌, ◌%◌, ◌<◌, ◌≤◌, cond, eqb, leb, ◌⊎◌, List, [], ◌∷◌, ◌++◌, Some, Option, sym, refl, ap, ◌∙◌, subst, inl, inr, ⊎_elim, arith}
use Rattle.boundary_tag.specs.Chunks.{Chunk, live_in, end_in, lowest_fit, split, chunks_granted, free_length, past_free, join, join_before, chunks_freed, Beside, Settled}
use Rattle.boundary_tag.specs.Walks.{Laid, live_other, live_here, live_low, both, is_live, at_most}
use Rattle.std.proofs.lemmas.Bool.{cond-true, cond-false, eq-eqb, ne_eqb, le-leb, lt-leb, cases_eq, cases_lt}

-- the search for a free chunk, one step
module _ (c : Chunk) (cs : List Chunk) (p need : ℕ) where
  pub fit_here : c.1 ≡ 0 → need ≤ c.0 → lowest_fit (c ∷ cs) p need ≡ Some (p, c.0)
  fit_here s l =
      cond-true (eqb c.1 0) (cond (leb need c.0) (Some (p, c.0)) (lowest_fit cs (p + c.0) need)) (lowest_fit cs (p + c.0) need) (eq-eqb c.1 0 s)
      ∙ cond-true (leb need c.0) (Some (p, c.0)) (lowest_fit cs (p + c.0) need) (le-leb need c.0 l)

  pub fit_short : c.0 < need → lowest_fit (c ∷ cs) p need ≡ lowest_fit cs (p + c.0) need
  fit_short l = short c.0 c.1 (lowest_fit cs (p + c.0) need) l
    where
      short : (d s : ℕ) (r : Option Chunk) → d < need → cond (eqb s 0) (cond (leb need d) (Some (p, d)) r) r ≡ r
      short d s r h = grind arith

  pub fit_live : (c.1 ≡ 0 → ⊥) → lowest_fit (c ∷ cs) p need ≡ lowest_fit cs (p + c.0) need
  fit_live s = cond-false (eqb c.1 0) (cond (leb need c.0) (Some (p, c.0)) (lowest_fit cs (p + c.0) need)) (lowest_fit cs (p + c.0) need) (ne_eqb c.1 0 s)

-- a free chunk that fits, or one further on
fit_cases : (c : Chunk) (cs : List Chunk) (p need : ℕ) → ((c.1 ≡ 0) × (need ≤ c.0)) ⊎ (lowest_fit (c ∷ cs) p need ≡ lowest_fit cs (p + c.0) need)
fit_cases c cs p need =
    ⊎_elim
    (λ (s : c.1 ≡ 0). ⊎_elim (λ (l : c.0 < need). inr (fit_short c cs p need l)) (λ (l : need ≤ c.0). inl (s, l)) (cases_lt c.0 need))
    (λ (s : c.1 ≡ 0 → ⊥). inr (fit_live c cs p need s))
    (cases_eq c.1 0)

-- a list cut before the chunk at k
pub record Cut (cs : List Chunk) (p k : ℕ) : Type 0 where
  pub before : List Chunk
  pub here : Chunk
  pub behind : List Chunk
  pub whole : cs ≡ before ++ (here ∷ behind)
  pub at : end_in before p ≡ k

abbrev cut_more : (c : Chunk) (cs : List Chunk) (p k : ℕ) → Cut cs (p + c.0) k → Cut (c ∷ cs) p k
cut_more c cs p k u = record { before = c ∷ u.before; here = u.here; behind = u.behind; whole = ap (λ (z : List Chunk). c ∷ z) u.whole; at = u.at }

-- the chunk of a fit
pub record FitCut (cs : List Chunk) (p need : ℕ) (k : ℕ × ℕ) : Type 0 where
  pub cut : Cut cs p k.0
  pub free : cut.here.1 ≡ 0
  pub size : cut.here.0 ≡ k.1
  pub enough : need ≤ k.1

pub fit_cut : (cs : List Chunk) (p need : ℕ) (k : ℕ × ℕ) → lowest_fit cs p need ≡ Some k → FitCut cs p need k
fit_cut [] p need k e = absurd (let z : ◌≡◌ {A = ℕ} 0 1 = cc in let w : ⊥ = omega arith in w)
fit_cut (c ∷ cs) p need k e =
    ⊎_elim
    (λ (q : (c.1 ≡ 0) × (need ≤ c.0)).
    let i : ◌≡◌ {A = Option (ℕ × ℕ)} (Some (p, c.0)) (Some k) = sym (fit_here c cs p need q.0 q.1) ∙ e in
    let i2 : ◌≡◌ {A = ℕ × ℕ} (p, c.0) k = cc in
    let i0 : p ≡ k.0 = ap (λ (z : ℕ × ℕ). z.0) i2 in
    let i1 : c.0 ≡ k.1 = ap (λ (z : ℕ × ℕ). z.1) i2 in
    let l = q.1 in
    record { cut = record { before = []; here = c; behind = cs; whole = refl; at = i0 }; free = q.0; size = i1; enough = omega arith })
    (λ (q : lowest_fit (c ∷ cs) p need ≡ lowest_fit cs (p + c.0) need).
    let u = fit_cut cs (p + c.0) need k (sym q ∙ e) in
    record { cut = cut_more c cs p k.0 u.cut; free = u.free; size = u.size; enough = u.enough })
    (fit_cases c cs p need)

-- the chunk of a live block
pub record LiveCut (cs : List Chunk) (p a : ℕ) : Type 0 where
  pub place : ℕ
  pub at : a ≡ place + 8
  pub cut : Cut cs p place
  pub live : cut.here.1 ≡ 1
  pub size : cut.here.0 - 16 ≡ live_in cs p a

pub live_cut : (cs : List Chunk) (p a : ℕ) → 0 < live_in cs p a → LiveCut cs p a
live_cut [] p a h = absurd (let z : ⊥ = omega arith in z)
live_cut (c ∷ cs) p a h =
    ⊎_elim
    (λ (q : a ≡ p + 8).
    let u = live_here c cs p a q in
    let pos : 0 < cond (eqb c.1 1) (c.0 - 16) 0 = omega arith in
    record { place = p; at = q; cut = record { before = []; here = c; behind = cs; whole = refl; at = refl }; live = is_live c.1 (c.0 - 16) pos; size = sym (u ∙ both c.1 (c.0 - 16) pos) })
    (λ (q : a ≡ p + 8 → ⊥).
    let u = live_other c cs p a q in
    let i = live_cut cs (p + c.0) a (omega arith) in
    record { place = i.place; at = i.at; cut = cut_more c cs p i.place i.cut; live = i.live; size = i.size ∙ sym u })
    (cases_eq a (p + 8))

-- ends of lists
pub end_more : (cs ds : List Chunk) (p : ℕ) → end_in (cs ++ ds) p ≡ end_in ds (end_in cs p)
end_more [] ds p = refl
end_more (c ∷ cs) ds p = end_more cs ds (p + c.0)

pub end_from : (cs : List Chunk) (p : ℕ) → p ≤ end_in cs p
end_from [] p = omega arith
end_from (c ∷ cs) p = let i = end_from cs (p + c.0) in omega arith

-- what is known of the chunks before a place, and of those from there on
pub laid_before : (span : ℕ) (cs ds : List Chunk) (p : ℕ) → Laid span p (cs ++ ds) → Laid span p cs
laid_before span [] ds p w = tt
laid_before span (c ∷ cs) ds p w = (w.0, laid_before span cs ds (p + c.0) w.1)

pub laid_behind : (span : ℕ) (cs ds : List Chunk) (p : ℕ) → Laid span p (cs ++ ds) → Laid span (end_in cs p) ds
laid_behind span [] ds p w = w
laid_behind span (c ∷ cs) ds p w = laid_behind span cs ds (p + c.0) w.1

pub end_eighth : (span : ℕ) (cs : List Chunk) (p : ℕ) → Laid span p cs → p % 8 ≡ 0 → end_in cs p % 8 ≡ 0
end_eighth span [] p w h = h
end_eighth span (c ∷ cs) p w h = let e = w.0.eighth in end_eighth span cs (p + c.0) w.1 (omega arith)

-- the blocks of two lists that begin alike differ by one block, if those of their rests do
pub live_after : (span : ℕ) (pre cs ds : List Chunk) (p a v x : ℕ) → Laid span p pre → end_in pre p + 8 ≤ a → ((y : ℕ) → live_in ds (end_in pre p) y ≡ cond (eqb y a) v (live_in cs (end_in pre p) y))
    → live_in (pre ++ ds) p x ≡ cond (eqb x a) v (live_in (pre ++ cs) p x)
live_after span [] cs ds p a v x w l e = e x
live_after span (c ∷ pre) cs ds p a v x w l e =
    let i = live_after span pre cs ds (p + c.0) a v x w.1 l e in
    let o = w.0.some in
    let f = end_from pre (p + c.0) in
    ⊎_elim
    (λ (q : x ≡ p + 8).
    live_here c (pre ++ ds) p x q ∙ sym (live_here c (pre ++ cs) p x q)
    ∙ sym (cond-false (eqb x a) v (live_in (c ∷ (pre ++ cs)) p x) (ne_eqb x a (λ r. omega arith))))
    (λ (q : x ≡ p + 8 → ⊥).
    live_other c (pre ++ ds) p x q ∙ i
    ∙ ap (λ (y : ℕ). cond (eqb x a) v y) (sym (live_other c (pre ++ cs) p x q)))
    (cases_eq x (p + 8))

-- the same rest after the same beginning leaves no two free chunks side by side, if its first chunk does not bring that about
pub settled_after : (pre cs ds : List Chunk) → Settled (pre ++ cs) → (Settled cs → Settled ds) → ((b : Chunk) → Beside b cs → Beside b ds) → Settled (pre ++ ds)
settled_after [] cs ds s t f = t s
settled_after (c ∷ []) cs ds s t f = (f c s.0, t s.1)
settled_after (c ∷ d ∷ pre) cs ds s t f = (s.0, settled_after (d ∷ pre) cs ds s.1 t f)

-- a grant at a chunk in its place
pub granted_at : (span : ℕ) (pre : List Chunk) (d : Chunk) (post : List Chunk) (p c : ℕ) → Laid span p pre → chunks_granted (pre ++ (d ∷ post)) p (end_in pre p + 8) c ≡ pre ++ split d.0 c post
granted_at span [] d post p c w = cond-true (eqb (p + 8) (p + 8)) (split d.0 c post) (d ∷ chunks_granted post (p + d.0) (p + 8) c) (eq-eqb (p + 8) (p + 8) refl)
granted_at span (b ∷ pre) d post p c w =
    let o = w.0.some in
    let f = end_from pre (p + b.0) in
    let a = end_in pre (p + b.0) + 8 in
    cond-false (eqb a (p + 8)) (split b.0 c (pre ++ (d ∷ post))) (b ∷ chunks_granted (pre ++ (d ∷ post)) (p + b.0) a c) (ne_eqb a (p + 8) (λ r. omega arith))
    ∙ ap (λ (z : List Chunk). b ∷ z) (granted_at span pre d post (p + b.0) c w.1)

-- the two ways of a grant
pub split_two : (l c : ℕ) (cs : List Chunk) → c + 40 ≤ l → split l c cs ≡ (c + 16, 1) ∷ (l - (c + 16), 0) ∷ cs
split_two l c cs h = cond-true (leb (c + 40) l) ((c + 16, 1) ∷ (l - (c + 16), 0) ∷ cs) ((l, 1) ∷ cs) (le-leb (c + 40) l h)

pub split_one : (l c : ℕ) (cs : List Chunk) → l < c + 40 → split l c cs ≡ (l, 1) ∷ cs
split_one l c cs h = cond-false (leb (c + 40) l) ((c + 16, 1) ∷ (l - (c + 16), 0) ∷ cs) ((l, 1) ∷ cs) (lt-leb (c + 40) l h)

-- the chunks before a place end with one that is not free, or with none
abbrev pub Quiet : List Chunk → Type 0
Quiet [] = Unit {0}
Quiet (c ∷ []) = c.1 ≡ 0 → ⊥
Quiet (c ∷ d ∷ ds) = Quiet (d ∷ ds)

-- or they end with a free one
pub record Ending (cs : List Chunk) : Type 0 where
  pub before : List Chunk
  pub last : Chunk
  pub whole : cs ≡ before ++ (last ∷ [])
  pub free : last.1 ≡ 0

pub last_cases : (cs : List Chunk) → Quiet cs ⊎ Ending cs
last_cases [] = inl tt
last_cases (c ∷ []) = ⊎_elim (λ (q : c.1 ≡ 0). inr (record { before = []; last = c; whole = refl; free = q })) (λ (q : c.1 ≡ 0 → ⊥). inl q) (cases_eq c.1 0)
last_cases (c ∷ d ∷ ds) =
    ⊎_elim (λ (q : Quiet (d ∷ ds)). inl q) (λ (q : Ending (d ∷ ds)). inr (record { before = c ∷ q.before; last = q.last; whole = ap (λ (z : List Chunk). c ∷ z) q.whole; free = q.free })) (last_cases (d ∷ ds))

pub more_more : (cs : List Chunk) (b : Chunk) (ds : List Chunk) → (cs ++ (b ∷ [])) ++ ds ≡ cs ++ (b ∷ ds)
more_more [] b ds = refl
more_more (c ∷ cs) b ds = ap (λ (z : List Chunk). c ∷ z) (more_more cs b ds)

-- a free chunk has no block: live blocks lie before it or behind it
pub live_around : (span : ℕ) (pre : List Chunk) (d : Chunk) (post : List Chunk) (p a : ℕ) → Laid span p (pre ++ (d ∷ post)) → d.1 ≡ 0 → 0 < live_in (pre ++ (d ∷ post)) p a
    → (a + live_in (pre ++ (d ∷ post)) p a ≤ end_in pre p) ⊎ (end_in pre p + d.0 ≤ a)
live_around span [] d post p a w s h =
    ⊎_elim
    (λ (q : a ≡ p + 8). absurd (let u = live_here d post p a q in let v = cond-false (eqb d.1 1) (d.0 - 16) 0 (ne_eqb d.1 1 (λ r. omega arith)) in let z : ⊥ = omega arith in z))
    (λ (q : a ≡ p + 8 → ⊥).
    let u = live_other d post p a q in
    ⊎_elim
    (λ (r : a < p + d.0 + 8). absurd (let y = live_low span post (p + d.0) a w.1 r in let z : ⊥ = omega arith in z))
    (λ (r : p + d.0 + 8 ≤ a). inr (omega arith))
    (cases_lt a (p + d.0 + 8)))
    (cases_eq a (p + 8))
live_around span (c ∷ pre) d post p a w s h =
    let o = w.0.some in
    let f = end_from pre (p + c.0) in
    ⊎_elim
    (λ (q : a ≡ p + 8). let u = live_here c (pre ++ (d ∷ post)) p a q in let v = at_most c.1 (c.0 - 16) in inl (omega arith))
    (λ (q : a ≡ p + 8 → ⊥).
    let u = live_other c (pre ++ (d ∷ post)) p a q in
    ⊎_elim
    (λ (r : a + live_in (pre ++ (d ∷ post)) (p + c.0) a ≤ end_in pre (p + c.0)). inl (omega arith))
    (λ (r : end_in pre (p + c.0) + d.0 ≤ a). inr r)
    (live_around span pre d post (p + c.0) a w.1 s (omega arith)))
    (cases_eq a (p + 8))

-- the blocks of a split chunk, of which the first part is live
pub live_split : (span : ℕ) (d : Chunk) (post : List Chunk) (k c y : ℕ) → Laid span k (d ∷ post) → d.1 ≡ 0 → c + 16 ≤ d.0 → (c + 16 < d.0 → c + 40 ≤ d.0)
    → live_in (split d.0 c post) k y ≡ cond (eqb y (k + 8)) c (live_in (d ∷ post) k y)
live_split span d post k c y w s h g =
    let o = w.0.some in
    ⊎_elim
    (λ (q : d.0 < c + 40).
    let e : d.0 ≡ c + 16 = ⊎_elim (λ (r : c + 16 < d.0). absurd (let z = g r in let v : ⊥ = omega arith in v)) (λ (r : d.0 ≤ c + 16). omega arith) (cases_lt (c + 16) d.0) in
    ap (λ (z : List Chunk). live_in z k y) (split_one d.0 c post q)
    ∙ ⊎_elim
    (λ (r : y ≡ k + 8).
    let u = live_here (d.0, 1) post k y r in
    let v = cond-true (eqb y (k + 8)) c (live_in (d ∷ post) k y) (eq-eqb y (k + 8) r) in
    omega arith)
    (λ (r : y ≡ k + 8 → ⊥). live_other (d.0, 1) post k y r ∙ sym (live_other d post k y r) ∙ sym (cond-false (eqb y (k + 8)) c (live_in (d ∷ post) k y) (ne_eqb y (k + 8) r)))
    (cases_eq y (k + 8)))
    (λ (q : c + 40 ≤ d.0).
    let rest = (d.0 - (c + 16), 0) ∷ post in
    ap (λ (z : List Chunk). live_in z k y) (split_two d.0 c post q)
    ∙ ⊎_elim
    (λ (r : y ≡ k + 8).
    let u = live_here (c + 16, 1) rest k y r in
    let v = cond-true (eqb y (k + 8)) c (live_in (d ∷ post) k y) (eq-eqb y (k + 8) r) in
    omega arith)
    (λ (r : y ≡ k + 8 → ⊥).
    let at : k + (c + 16) + (d.0 - (c + 16)) ≡ k + d.0 = omega arith in
    live_other (c + 16, 1) rest k y r
    ∙ ⊎_elim
    (λ (t : y ≡ k + (c + 16) + 8). live_here (d.0 - (c + 16), 0) post (k + (c + 16)) y t ∙ sym (live_low span post (k + d.0) y w.1 (omega arith)))
    (λ (t : y ≡ k + (c + 16) + 8 → ⊥). live_other (d.0 - (c + 16), 0) post (k + (c + 16)) y t ∙ ap (λ (z : ℕ). live_in post z y) at)
    (cases_eq y (k + (c + 16) + 8))
    ∙ sym (live_other d post k y r)
    ∙ sym (cond-false (eqb y (k + 8)) c (live_in (d ∷ post) k y) (ne_eqb y (k + 8) r)))
    (cases_eq y (k + 8)))
    (cases_lt d.0 (c + 40))

pub end_split : (d : Chunk) (post : List Chunk) (k c : ℕ) → c + 16 ≤ d.0 → end_in (split d.0 c post) k ≡ end_in (d ∷ post) k
end_split d post k c h =
    ⊎_elim
    (λ (q : d.0 < c + 40). ap (λ (z : List Chunk). end_in z k) (split_one d.0 c post q))
    (λ (q : c + 40 ≤ d.0). ap (λ (z : List Chunk). end_in z k) (split_two d.0 c post q) ∙ ap (λ (z : ℕ). end_in post z) (let at : k + (c + 16) + (d.0 - (c + 16)) ≡ k + d.0 = omega arith in at))
    (cases_lt d.0 (c + 40))

pub settled_split : (d : Chunk) (post : List Chunk) (c : ℕ) → d.1 ≡ 0 → Settled (d ∷ post) → Settled (split d.0 c post)
settled_split d post c s w =
    ⊎_elim
    (λ (q : d.0 < c + 40). subst Settled (sym (split_one d.0 c post q)) (beside_live post, w.1))
    (λ (q : c + 40 ≤ d.0). subst Settled (sym (split_two d.0 c post q)) ((λ e f. let z : ⊥ = omega arith in z), (beside_free post w.0, w.1)))
    (cases_lt d.0 (c + 40))
  where
    beside_live : (cs : List Chunk) → Beside (d.0, 1) cs
    beside_live [] = tt
    beside_live (b ∷ cs) = λ e f. let z : ⊥ = omega arith in z

    beside_free : (cs : List Chunk) → Beside d cs → Beside (d.0 - (c + 16), 0) cs
    beside_free [] v = tt
    beside_free (b ∷ cs) v = λ e f. v s f

pub beside_split : (l c : ℕ) (post : List Chunk) (b : Chunk) → Beside b (split l c post)
beside_split l c post b =
    ⊎_elim
    (λ (q : l < c + 40). subst (Beside b) (sym (split_one l c post q)) (λ e f. let z : ⊥ = omega arith in z))
    (λ (q : c + 40 ≤ l). subst (Beside b) (sym (split_two l c post q)) (λ e f. let z : ⊥ = omega arith in z))
    (cases_lt l (c + 40))

-- a first chunk that is free, and one that is not
pub free_here : (d : Chunk) (ds : List Chunk) → d.1 ≡ 0 → (free_length (d ∷ ds) ≡ d.0) × (past_free (d ∷ ds) ≡ ds)
free_here d ds s = (cond-true (eqb d.1 0) d.0 0 (eq-eqb d.1 0 s), cond-true (eqb d.1 0) ds (d ∷ ds) (eq-eqb d.1 0 s))

pub live_first : (d : Chunk) (ds : List Chunk) → (d.1 ≡ 0 → ⊥) → (free_length (d ∷ ds) ≡ 0) × (past_free (d ∷ ds) ≡ d ∷ ds)
live_first d ds s = (cond-false (eqb d.1 0) d.0 0 (ne_eqb d.1 0 s), cond-false (eqb d.1 0) ds (d ∷ ds) (ne_eqb d.1 0 s))

-- the chunks behind a free first one, with the first at q
module _ (q : ℕ) where
  -- they stand behind it, and end where all do
  pub end_past : (cs : List Chunk) → end_in (past_free cs) (q + free_length cs) ≡ end_in cs q
  end_past [] = let e : q + 0 ≡ q = omega arith in e
  end_past (d ∷ ds) =
      ⊎_elim
      (λ (s : d.1 ≡ 0). let f = free_here d ds s in ap (λ (z : List Chunk). end_in z (q + free_length (d ∷ ds))) f.1 ∙ ap (λ (z : ℕ). end_in ds (q + z)) f.0)
      (λ (s : d.1 ≡ 0 → ⊥). let f = live_first d ds s in ap (λ (z : List Chunk). end_in z (q + free_length (d ∷ ds))) f.1 ∙ ap (λ (z : ℕ). end_in (d ∷ ds) z) (let g = f.0 in let e : q + free_length (d ∷ ds) ≡ q = omega arith in e))
      (cases_eq d.1 0)

  -- with the same blocks
  pub live_past : (span : ℕ) (cs : List Chunk) (y : ℕ) → Laid span q cs → live_in (past_free cs) (q + free_length cs) y ≡ live_in cs q y
  live_past span [] y w = refl
  live_past span (d ∷ ds) y w =
      ⊎_elim
      (λ (s : d.1 ≡ 0).
      let f = free_here d ds s in
      ap (λ (z : List Chunk). live_in z (q + free_length (d ∷ ds)) y) f.1 ∙ ap (λ (z : ℕ). live_in ds (q + z) y) f.0
      ∙ ⊎_elim
      (λ (r : y ≡ q + 8).
      let o = w.0.some in
      live_low span ds (q + d.0) y w.1 (omega arith)
      ∙ sym (live_here d ds q y r ∙ cond-false (eqb d.1 1) (d.0 - 16) 0 (ne_eqb d.1 1 (λ t. let z : ⊥ = omega arith in z))))
      (λ (r : y ≡ q + 8 → ⊥). sym (live_other d ds q y r))
      (cases_eq y (q + 8)))
      (λ (s : d.1 ≡ 0 → ⊥). let f = live_first d ds s in ap (λ (z : List Chunk). live_in z (q + free_length (d ∷ ds)) y) f.1 ∙ ap (λ (z : ℕ). live_in (d ∷ ds) z y) (let g = f.0 in let e : q + free_length (d ∷ ds) ≡ q = omega arith in e))
      (cases_eq d.1 0)

  pub laid_past : (span : ℕ) (cs : List Chunk) → q ≤ span → Laid span q cs → (q + free_length cs ≤ span) × (free_length cs % 8 ≡ 0)
  laid_past span [] h w = (omega arith, refl)
  laid_past span (d ∷ ds) h w =
      ⊎_elim
      (λ (s : d.1 ≡ 0). let f = (free_here d ds s).0 in let g = w.0.fits in let e = w.0.eighth in (omega arith, omega arith))
      (λ (s : d.1 ≡ 0 → ⊥). let f = (live_first d ds s).0 in (omega arith, omega arith))
      (cases_eq d.1 0)

settled_past : (m : ℕ) (cs : List Chunk) → Settled cs → Beside (m, 0) (past_free cs) × Settled (past_free cs)
settled_past m [] w = (tt, tt)
settled_past m (d ∷ ds) w =
    ⊎_elim
    (λ (s : d.1 ≡ 0). let f = (free_here d ds s).1 in subst (λ (z : List Chunk). Beside (m, 0) z × Settled z) (sym f) (next ds w.0 s, w.1))
    (λ (s : d.1 ≡ 0 → ⊥). let f = (live_first d ds s).1 in subst (λ (z : List Chunk). Beside (m, 0) z × Settled z) (sym f) ((λ e g. s g), w))
    (cases_eq d.1 0)
  where
    next : (es : List Chunk) → Beside d es → d.1 ≡ 0 → Beside (m, 0) es
    next [] v s = tt
    next (b ∷ es) v s = λ e g. v s g

-- a chunk freed where the one before it is not free
pub settled_quiet : (pre cs ds : List Chunk) → Quiet pre → Settled (pre ++ cs) → (Settled cs → Settled ds) → Settled (pre ++ ds)
settled_quiet [] cs ds u s t = t s
settled_quiet (c ∷ []) cs ds u s t = (quiet ds, t s.1)
  where
    quiet : (es : List Chunk) → Beside c es
    quiet [] = tt
    quiet (b ∷ es) = λ e f. u e
settled_quiet (c ∷ d ∷ pre) cs ds u s t = (s.0, settled_quiet (d ∷ pre) cs ds u s.1 t)

pub settled_join : (m : ℕ) (c : Chunk) (post : List Chunk) → Settled (c ∷ post) → Settled ((m, 0) ∷ past_free post)
settled_join m c post w = settled_past m post w.1

-- and where the one before it is free
pub settled_before : (m : ℕ) (pre : List Chunk) (b c : Chunk) (post : List Chunk) → b.1 ≡ 0 → Settled (pre ++ (b ∷ c ∷ post)) → Settled (pre ++ ((m, 0) ∷ past_free post))
settled_before m pre b c post s w = settled_after pre (b ∷ c ∷ post) ((m, 0) ∷ past_free post) w (λ t. settled_past m post t.1.1) (λ e t g f. t g s)

-- the list after a free
pub freed_first : (c : Chunk) (post : List Chunk) (p : ℕ) → chunks_freed (c ∷ post) p (p + 8) ≡ join c.0 post
freed_first c post p = cond-true (eqb (p + 8) (p + 8)) (join c.0 post) (cond (eqb (p + 8) (p + c.0 + 8)) (join_before c (chunks_freed post (p + c.0) (p + 8))) (c ∷ chunks_freed post (p + c.0) (p + 8))) (eq-eqb (p + 8) (p + 8) refl)

freed_next : (b c : Chunk) (post : List Chunk) (p : ℕ) → 24 ≤ b.0 → chunks_freed (b ∷ c ∷ post) p (p + b.0 + 8) ≡ join_before b (join c.0 post)
freed_next b c post p o =
    let a = p + b.0 + 8 in
    let cs = c ∷ post in
    let on = chunks_freed cs (p + b.0) a in
    cond-false (eqb a (p + 8)) (join b.0 cs) (cond (eqb a (p + b.0 + 8)) (join_before b on) (b ∷ on)) (ne_eqb a (p + 8) (λ r. omega arith))
    ∙ cond-true (eqb a (p + b.0 + 8)) (join_before b on) (b ∷ on) (eq-eqb a (p + b.0 + 8) refl)
    ∙ ap (λ (z : List Chunk). join_before b z) (freed_first c post (p + b.0))

freed_far : (b : Chunk) (cs : List Chunk) (p a : ℕ) → 24 ≤ b.0 → p + b.0 + 8 < a → chunks_freed (b ∷ cs) p a ≡ b ∷ chunks_freed cs (p + b.0) a
freed_far b cs p a o l =
    let on = chunks_freed cs (p + b.0) a in
    cond-false (eqb a (p + 8)) (join b.0 cs) (cond (eqb a (p + b.0 + 8)) (join_before b on) (b ∷ on)) (ne_eqb a (p + 8) (λ r. omega arith))
    ∙ cond-false (eqb a (p + b.0 + 8)) (join_before b on) (b ∷ on) (ne_eqb a (p + b.0 + 8) (λ r. omega arith))

pub freed_quiet : (span : ℕ) (pre : List Chunk) (c : Chunk) (post : List Chunk) (p : ℕ) → Quiet pre → Laid span p pre → chunks_freed (pre ++ (c ∷ post)) p (end_in pre p + 8) ≡ pre ++ join c.0 post
freed_quiet span [] c post p u w = freed_first c post p
freed_quiet span (b ∷ []) c post p u w =
    freed_next b c post p w.0.some
    ∙ cond-false (eqb b.1 0) (join b.0 (join c.0 post)) (b ∷ join c.0 post) (ne_eqb b.1 0 u)
freed_quiet span (b ∷ d ∷ pre) c post p u w =
    let f = end_from pre (p + b.0 + d.0) in
    let o = w.1.0.some in
    freed_far b (d ∷ (pre ++ (c ∷ post))) p (end_in pre (p + b.0 + d.0) + 8) w.0.some (omega arith)
    ∙ ap (λ (z : List Chunk). b ∷ z) (freed_quiet span (d ∷ pre) c post (p + b.0) u w.1)

pub freed_before : (span : ℕ) (pre : List Chunk) (b c : Chunk) (post : List Chunk) (p : ℕ) → b.1 ≡ 0 → Laid span p (pre ++ (b ∷ [])) → chunks_freed (pre ++ (b ∷ c ∷ post)) p (end_in pre p + b.0 + 8) ≡ pre ++ join b.0 (join c.0 post)
freed_before span [] b c post p s w =
    freed_next b c post p w.0.some
    ∙ cond-true (eqb b.1 0) (join b.0 (join c.0 post)) (b ∷ join c.0 post) (eq-eqb b.1 0 s)
freed_before span (d ∷ pre) b c post p s w =
    let f = end_from pre (p + d.0) in
    let o = (laid_behind span pre (b ∷ []) (p + d.0) w.1).0.some in
    freed_far d (pre ++ (b ∷ c ∷ post)) p (end_in pre (p + d.0) + b.0 + 8) w.0.some (omega arith)
    ∙ ap (λ (z : List Chunk). d ∷ z) (freed_before span pre b c post (p + d.0) s w.1)

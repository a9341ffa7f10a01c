-- How the headers of a region change as a block comes, ends or is filled.
use Rattle.std.proofs.Common.{◌≡◌, ℕ, zero, suc, ◌+◌, ◌-◌, ◌%◌, ◌<◌, ◌≤◌, Bool, true, false, cond, eqb, List, [], ◌∷◌, ◌++◌, get_or, Some, None, Option, sym, refl, ap, ◌∙◌, inr, ⊎_elim, arith}
use Rattle.region.specs.Bytes.{word_at}
use Rattle.bump.specs.Table.{Header, shaped, header_at, then_headers, headers, walk, live_in, end_in, ended, none_live, table_freed, Struck}
use Rattle.region.proofs.Words.{word_same}
use Rattle.bump.specs.Walks.{option_cases, shaped_is, shaped_fits, shaped_some, shaped_eighth, shaped_state, shaped_good, shape_of, header_none, then_same, headers_none, headers_some, walk_step, walk_end, live_other, live_here, live_low, both, end_from}
use Rattle.std.proofs.lemmas.Bool.{cond-true, cond-false, eq-eqb, ne_eqb, cases_eq, cases_lt, cases_Bool}

abbrev onto : Header → List Header → List Header
onto c cs = c ∷ cs

-- a header depends on its eight bytes alone
pub header_same : (xs ys : List ℕ) (bound p : ℕ) → ((x : ℕ) → p ≤ x → x < p + 8 → get_or ys x 0 ≡ get_or xs x 0) → header_at ys bound p ≡ header_at xs bound p
unfolding header_at
header_same xs ys bound p e =
    ap (λ (l : ℕ). shaped bound p l (word_at ys (p + 4))) (word_same xs ys p (λ x h l. e x h (omega arith)))
    ∙ ap (λ (s : ℕ). shaped bound p (word_at xs p) s) (word_same xs ys (p + 4) (λ x h l. e x (omega arith) (omega arith)))

-- a larger bound keeps it
pub header_larger : (xs : List ℕ) (bound more p : ℕ) (c : Header) → bound ≤ more → header_at xs bound p ≡ Some c → header_at xs more p ≡ Some c
unfolding header_at
header_larger xs bound more p c h e =
    let f = shaped_fits bound p (word_at xs p) (word_at xs (p + 4)) c e in
    shaped_good more p (word_at xs p) (word_at xs (p + 4)) (omega arith) (shaped_some bound p (word_at xs p) (word_at xs (p + 4)) c e) (shaped_eighth bound p (word_at xs p) (word_at xs (p + 4)) c e) (shaped_state bound p (word_at xs p) (word_at xs (p + 4)) c e)
    ∙ ap (λ (d : Header). Some d) (shaped_is bound p (word_at xs p) (word_at xs (p + 4)) c e)

pub headers_from_same : (n : ℕ) (xs ys : List ℕ) (bound p : ℕ) → ((x : ℕ) → p ≤ x → get_or ys x 0 ≡ get_or xs x 0) → headers n ys bound p ≡ headers n xs bound p
unfolding headers
headers_from_same zero xs ys bound p e = refl
headers_from_same (suc n) xs ys bound p e =
    ap (λ (o : Option Header). then_headers o (λ c. headers n ys bound (p + 8 + c.0))) (header_same xs ys bound p (λ x h l. e x h))
    ∙ then_same (header_at xs bound p) (λ c. headers n ys bound (p + 8 + c.0)) (λ c. headers n xs bound (p + 8 + c.0))
    (λ c _. headers_from_same n xs ys bound (p + 8 + c.0) (λ x h. e x (omega arith)))

live_none : (n : ℕ) (xs : List ℕ) (bound p a : ℕ) → header_at xs bound p ≡ None → live_in (headers n xs bound p) p a ≡ 0
live_none n xs bound p a e = ap (λ (cs : List Header). live_in cs p a) (headers_none n xs bound p e)

live_some : (n : ℕ) (xs : List ℕ) (bound p a : ℕ) (c : Header) → header_at xs bound p ≡ Some c → live_in (headers (suc n) xs bound p) p a ≡ live_in (c ∷ headers n xs bound (p + 8 + c.0)) p a
live_some n xs bound p a c e = ap (λ (cs : List Header). live_in cs p a) (headers_some n xs bound p c e)

high : (cs : List Header) (p a : ℕ) → 0 < live_in cs p a → p + 8 ≤ a
high cs p a h = ⊎_elim (λ (q : a < p + 8). absurd (let z = live_low cs p a q in let w : ⊥ = omega arith in w)) (λ (q : p + 8 ≤ a). q) (cases_lt a (p + 8))

-- bytes inside a live block are in no header
pub headers_painted : (n : ℕ) (xs ys : List ℕ) (bound p s l : ℕ) → ((x : ℕ) → x < s → get_or ys x 0 ≡ get_or xs x 0) → ((x : ℕ) → s + l ≤ x → get_or ys x 0 ≡ get_or xs x 0)
    → live_in (headers n xs bound p) p s ≡ l → 0 < l → headers n ys bound p ≡ headers n xs bound p
unfolding headers
headers_painted zero xs ys bound p s l lo hi e h = refl
headers_painted (suc n) xs ys bound p s l lo hi e h =
    ⊎_elim
    (λ (q : header_at xs bound p ≡ None). absurd (let z = live_none (suc n) xs bound p s q in let w : ⊥ = omega arith in w))
    (λ (q : (c : Header) × (header_at xs bound p ≡ Some c)).
    let c = q.0 in
    let rest = headers n xs bound (p + 8 + c.0) in
    let k : live_in (c ∷ rest) p s ≡ l = sym (live_some n xs bound p s c q.1) ∙ e in
    let up : p + 8 ≤ s = high (c ∷ rest) p s (omega arith) in
    let there : header_at ys bound p ≡ Some c = header_same xs ys bound p (λ x g j. lo x (omega arith)) ∙ q.1 in
    let tail : headers n ys bound (p + 8 + c.0) ≡ rest =
    ⊎_elim
    (λ (r : s ≡ p + 8).
    let u = live_here c rest p s r in
    let v : cond (eqb c.1 1) c.0 0 ≡ c.0 = both c.1 c.0 (omega arith) in
    headers_from_same n xs ys bound (p + 8 + c.0) (λ x g. hi x (omega arith)))
    (λ (r : s ≡ p + 8 → ⊥). headers_painted n xs ys bound (p + 8 + c.0) s l lo hi (sym (live_other c rest p s r) ∙ k) h)
    (cases_eq s (p + 8)) in
    headers_some n ys bound p c there ∙ ap (λ (cs : List Header). c ∷ cs) tail ∙ sym (headers_some n xs bound p c q.1))
    (option_cases (header_at xs bound p))

pub ended_low : (cs : List Header) (p a : ℕ) → a < p + 8 → ended cs p a ≡ cs
ended_low [] p a h = refl
ended_low (c ∷ cs) p a h =
    ap (λ (s : ℕ). onto (c.0, s) (ended cs (p + 8 + c.0) a)) (cond-false (eqb a (p + 8)) 2 c.1 (ne_eqb a (p + 8) (λ q. omega arith)))
    ∙ ap (λ (r : List Header). c ∷ r) (ended_low cs (p + 8 + c.0) a (omega arith))

pub end_ended : (cs : List Header) (p a : ℕ) → end_in (ended cs p a) p ≡ end_in cs p
end_ended [] p a = refl
end_ended (c ∷ cs) p a = end_ended cs (p + 8 + c.0) a

pub live_ended : (cs : List Header) (p a x : ℕ) → live_in (ended cs p a) p x ≡ cond (eqb x a) 0 (live_in cs p x)
live_ended [] p a x = grind arith
live_ended (c ∷ cs) p a x =
    let i = live_ended cs (p + 8 + c.0) a x in
    grind arith

struck_header : (xs ys : List ℕ) (bound p a : ℕ) (c : Header) → Struck a xs ys → a ≡ p + 8 → header_at xs bound p ≡ Some c → header_at ys bound p ≡ Some (c.0, 2)
unfolding header_at
struck_header xs ys bound p a c s q e =
    let is = shaped_is bound p (word_at xs p) (word_at xs (p + 4)) c e in
    let is0 : word_at xs p ≡ c.0 = ap (λ (d : Header). d.0) is in
    let w0 : word_at ys p ≡ c.0 = word_same xs ys p (λ x h l. s.before x (omega arith)) ∙ is0 in
    let at : p + 4 ≡ a - 4 = omega arith in
    let w1 : word_at ys (p + 4) ≡ 2 = ap (word_at ys) at ∙ s.state in
    let f = shaped_fits bound p (word_at xs p) (word_at xs (p + 4)) c e in
    let o = shaped_some bound p (word_at xs p) (word_at xs (p + 4)) c e in
    let g : word_at xs p % 8 ≡ 0 = shaped_eighth bound p (word_at xs p) (word_at xs (p + 4)) c e in
    let g' : c.0 % 8 ≡ 0 = sym (ap (λ (z : ℕ). z % 8) is0) ∙ g in
    ap (λ (l : ℕ). shaped bound p l (word_at ys (p + 4))) w0 ∙ ap (λ (t : ℕ). shaped bound p c.0 t) w1
    ∙ shaped_good bound p c.0 2 (omega arith) (omega arith) g' (inr refl)

pub headers_struck : (n : ℕ) (xs ys : List ℕ) (bound p a : ℕ) → Struck a xs ys → 0 < live_in (headers n xs bound p) p a → headers n ys bound p ≡ ended (headers n xs bound p) p a
unfolding headers
headers_struck zero xs ys bound p a s h = refl
headers_struck (suc n) xs ys bound p a s h =
    ⊎_elim
    (λ (q : header_at xs bound p ≡ None). absurd (let z = live_none (suc n) xs bound p a q in let w : ⊥ = omega arith in w))
    (λ (q : (c : Header) × (header_at xs bound p ≡ Some c)).
    let c = q.0 in
    let rest = headers n xs bound (p + 8 + c.0) in
    let k : live_in (headers (suc n) xs bound p) p a ≡ live_in (c ∷ rest) p a = live_some n xs bound p a c q.1 in
    let back : ended (c ∷ rest) p a ≡ ended (headers (suc n) xs bound p) p a = ap (λ (cs : List Header). ended cs p a) (sym (headers_some n xs bound p c q.1)) in
    ⊎_elim
    (λ (r : a ≡ p + 8).
    let there = struck_header xs ys bound p a c s r q.1 in
    let same : headers n ys bound (p + 8 + c.0) ≡ rest = headers_from_same n xs ys bound (p + 8 + c.0) (λ x g. s.behind x (omega arith)) in
    let low : ended rest (p + 8 + c.0) a ≡ rest = ended_low rest (p + 8 + c.0) a (omega arith) in
    headers_some n ys bound p (c.0, 2) there
    ∙ ap (λ (cs : List Header). onto (c.0, 2) cs) (same ∙ sym low)
    ∙ ap (λ (t : ℕ). onto (c.0, t) (ended rest (p + 8 + c.0) a)) (sym (cond-true (eqb a (p + 8)) 2 c.1 (eq-eqb a (p + 8) r)))
    ∙ back)
    (λ (r : a ≡ p + 8 → ⊥).
    let o = live_other c rest p a r in
    let pos : 0 < live_in rest (p + 8 + c.0) a = omega arith in
    let up : p + 8 + c.0 + 8 ≤ a = high rest (p + 8 + c.0) a pos in
    let there : header_at ys bound p ≡ Some c = header_same xs ys bound p (λ x g j. s.before x (omega arith)) ∙ q.1 in
    let i = headers_struck n xs ys bound (p + 8 + c.0) a s pos in
    headers_some n ys bound p c there
    ∙ ap (λ (cs : List Header). c ∷ cs) i
    ∙ ap (λ (t : ℕ). onto (c.0, t) (ended rest (p + 8 + c.0) a)) (sym (cond-false (eqb a (p + 8)) 2 c.1 (ne_eqb a (p + 8) r)))
    ∙ back)
    (cases_eq a (p + 8)))
    (option_cases (header_at xs bound p))

-- one block more
last_one : (ys : List ℕ) (bound more p l : ℕ) → p ≡ bound → bound + 8 + l ≡ more → header_at ys more bound ≡ Some (l, 1) → walk ys more p ≡ (l, 1) ∷ []
last_one ys bound more p l q m h =
    ap (λ (z : ℕ). walk ys more z) q ∙ walk_step ys more bound (l, 1) h
    ∙ ap (λ (cs : List Header). onto (l, 1) cs) (walk_end ys more (bound + 8 + l) (header_none ys more (bound + 8 + l) (omega arith)))

pub headers_grown : (n : ℕ) (xs ys : List ℕ) (bound more p l : ℕ) → ((x : ℕ) → x < bound → get_or ys x 0 ≡ get_or xs x 0) → bound + 8 + l ≡ more → header_at ys more bound ≡ Some (l, 1)
    → end_in (headers n xs bound p) p ≡ bound → walk ys more p ≡ headers n xs bound p ++ ((l, 1) ∷ [])
unfolding headers
headers_grown zero xs ys bound more p l lo m h e = last_one ys bound more p l e m h
headers_grown (suc n) xs ys bound more p l lo m h e =
    ⊎_elim
    (λ (q : header_at xs bound p ≡ None).
    let z = headers_none (suc n) xs bound p q in
    let at : p ≡ bound = sym (ap (λ (cs : List Header). end_in cs p) z) ∙ e in
    last_one ys bound more p l at m h ∙ ap (λ (cs : List Header). cs ++ ((l, 1) ∷ [])) (sym z))
    (λ (q : (c : Header) × (header_at xs bound p ≡ Some c)).
    let c = q.0 in
    let rest = headers n xs bound (p + 8 + c.0) in
    let z : headers (suc n) xs bound p ≡ c ∷ rest = headers_some n xs bound p c q.1 in
    let f = (shape_of xs bound p c q.1).fits in
    let there : header_at ys more p ≡ Some c = header_larger ys bound more p c (omega arith) (header_same xs ys bound p (λ x g j. lo x (omega arith)) ∙ q.1) in
    let i = headers_grown n xs ys bound more (p + 8 + c.0) l lo m h (sym (ap (λ (cs : List Header). end_in cs p) z) ∙ e) in
    walk_step ys more p c there ∙ ap (λ (cs : List Header). c ∷ cs) i ∙ ap (λ (cs : List Header). cs ++ ((l, 1) ∷ [])) (sym z))
    (option_cases (header_at xs bound p))

pub end_more : (cs : List Header) (p l : ℕ) → end_in (cs ++ ((l, 1) ∷ [])) p ≡ end_in cs p + 8 + l
end_more [] p l = refl
end_more (c ∷ cs) p l = end_more cs (p + 8 + c.0) l

pub live_more : (cs : List Header) (p l x : ℕ) → live_in (cs ++ ((l, 1) ∷ [])) p x ≡ cond (eqb x (end_in cs p + 8)) l (live_in cs p x)
live_more [] p l x = refl
live_more (c ∷ cs) p l x =
    let i = live_more cs (p + 8 + c.0) l x in
    let f = end_from cs (p + 8 + c.0) in
    ⊎_elim
    (λ (q : x ≡ p + 8).
    live_here c (cs ++ ((l, 1) ∷ [])) p x q ∙ sym (live_here c cs p x q)
    ∙ sym (cond-false (eqb x (end_in cs (p + 8 + c.0) + 8)) l (live_in (c ∷ cs) p x) (ne_eqb x (end_in cs (p + 8 + c.0) + 8) (λ r. omega arith))))
    (λ (q : x ≡ p + 8 → ⊥).
    live_other c (cs ++ ((l, 1) ∷ [])) p x q ∙ i
    ∙ ap (λ (y : ℕ). cond (eqb x (end_in cs (p + 8 + c.0) + 8)) l y) (sym (live_other c cs p x q)))
    (cases_eq x (p + 8))

-- where no block is live, none begins anywhere
pub none_live_at : (cs : List Header) (p x : ℕ) → none_live cs ≡ true → live_in cs p x ≡ 0
none_live_at [] p x e = refl
none_live_at (c ∷ cs) p x e =
    let i = none_live_at cs (p + 8 + c.0) x (none_rest c.1 (none_live cs) e) in
    let h = none_here c.1 (none_live cs) c.0 e in
    ⊎_elim
    (λ (q : x ≡ p + 8). live_here c cs p x q ∙ h)
    (λ (q : x ≡ p + 8 → ⊥). live_other c cs p x q ∙ i)
    (cases_eq x (p + 8))
  where
    none_rest : (s : ℕ) (t : Bool) → cond (eqb s 1) false t ≡ true → t ≡ true
    none_rest s t e = grind arith

    none_here : (s : ℕ) (t : Bool) (l : ℕ) → cond (eqb s 1) false t ≡ true → cond (eqb s 1) l 0 ≡ 0
    none_here s t l e = grind arith

-- a table after a free
pub live_table_freed : (t : List Header) (a x : ℕ) → live_in (table_freed t a) 0 x ≡ cond (eqb x a) 0 (live_in t 0 x)
live_table_freed t a x =
    ⊎_elim
    (λ (q : none_live (ended t 0 a) ≡ true).
    ap (λ (cs : List Header). live_in cs 0 x) (cond-true (none_live (ended t 0 a)) [] (ended t 0 a) q) ∙ sym (none_live_at (ended t 0 a) 0 x q) ∙ live_ended t 0 a x)
    (λ (q : none_live (ended t 0 a) ≡ false). ap (λ (cs : List Header). live_in cs 0 x) (cond-false (none_live (ended t 0 a)) [] (ended t 0 a) q) ∙ live_ended t 0 a x)
    (cases_Bool (none_live (ended t 0 a)))

pub end_table_freed : (t : List Header) (a : ℕ) → end_in (table_freed t a) 0 ≡ cond (none_live (ended t 0 a)) 0 (end_in t 0)
end_table_freed t a =
    ⊎_elim
    (λ (q : none_live (ended t 0 a) ≡ true).
    ap (λ (cs : List Header). end_in cs 0) (cond-true (none_live (ended t 0 a)) [] (ended t 0 a) q) ∙ sym (cond-true (none_live (ended t 0 a)) 0 (end_in t 0) q))
    (λ (q : none_live (ended t 0 a) ≡ false).
    ap (λ (cs : List Header). end_in cs 0) (cond-false (none_live (ended t 0 a)) [] (ended t 0 a) q) ∙ end_ended t 0 a ∙ sym (cond-false (none_live (ended t 0 a)) 0 (end_in t 0) q))
    (cases_Bool (none_live (ended t 0 a)))

-- The headers of a bump heap's region: one more, and what is known of all.
use Rattle.std.proofs.Common.{◌≡◌, ℕ, zero, suc, ◌+◌, ◌-◌, ◌%◌, ◌<◌, ◌≤◌, cond, eqb, ◌⊎◌, List, [], ◌∷◌, Some, None, Option, sym, refl, ap, ◌∙◌, subst, inl, inr, ⊎_elim, arith}
use Rattle.heap.specs.Meaning.{In}
use Rattle.region.specs.Bytes.{word_at}
use Rattle.bump.specs.Table.{Header, Shape, Inside, shaped, header_at, then_headers, headers, walk, live_in, end_in}
use Rattle.std.proofs.lemmas.Bool.{cond-true, cond-false, eq-eqb, ne_eqb, cases_eq, cases_lt}

pub option_cases : (o : Option Header) → (o ≡ None) ⊎ ((c : Header) × (o ≡ Some c))
option_cases None = inl refl
option_cases (Some c) = inr (c, refl)

pub shaped_short : (bound p l s : ℕ) → bound < p + 16 → shaped bound p l s ≡ None
shaped_short bound p l s h = grind arith

pub shaped_is : (bound p l s : ℕ) (c : Header) → shaped bound p l s ≡ Some c → (l, s) ≡ c
shaped_is bound p l s c e = grind arith

pub shaped_fits : (bound p l s : ℕ) (c : Header) → shaped bound p l s ≡ Some c → p + 8 + l ≤ bound
shaped_fits bound p l s c e = grind arith

pub shaped_some : (bound p l s : ℕ) (c : Header) → shaped bound p l s ≡ Some c → 8 ≤ l
shaped_some bound p l s c e = grind arith

pub shaped_eighth : (bound p l s : ℕ) (c : Header) → shaped bound p l s ≡ Some c → l % 8 ≡ 0
shaped_eighth bound p l s c e = grind arith

pub shaped_state : (bound p l s : ℕ) (c : Header) → shaped bound p l s ≡ Some c → (s ≡ 1) ⊎ (s ≡ 2)
shaped_state bound p l s c e =
    ⊎_elim (λ (q : s ≡ 1). inl q)
    (λ (q : s ≡ 1 → ⊥). ⊎_elim (λ (r : s ≡ 2). inr r) (λ (r : s ≡ 2 → ⊥). absurd (let z : ◌≡◌ {A = ℕ} 0 1 = grind arith in let w : ⊥ = omega arith in w)) (cases_eq s 2))
    (cases_eq s 1)

pub shaped_good : (bound p l s : ℕ) → p + 8 + l ≤ bound → 8 ≤ l → l % 8 ≡ 0 → (s ≡ 1) ⊎ (s ≡ 2) → shaped bound p l s ≡ Some (l, s)
shaped_good bound p l s f o g (inl e) = grind arith
shaped_good bound p l s f o g (inr e) = grind arith

pub shape_of : (xs : List ℕ) (bound p : ℕ) (c : Header) → header_at xs bound p ≡ Some c → Shape bound p c
unfolding header_at
shape_of xs bound p c e =
    subst (λ (q : Header). Shape bound p q) (shaped_is bound p (word_at xs p) (word_at xs (p + 4)) c e)
    (record {
      fits = shaped_fits bound p (word_at xs p) (word_at xs (p + 4)) c e;
      some = shaped_some bound p (word_at xs p) (word_at xs (p + 4)) c e;
      eighth = shaped_eighth bound p (word_at xs p) (word_at xs (p + 4)) c e;
      state = shaped_state bound p (word_at xs p) (word_at xs (p + 4)) c e;
    })

pub header_none : (xs : List ℕ) (bound p : ℕ) → bound < p + 16 → header_at xs bound p ≡ None
unfolding header_at
header_none xs bound p h = shaped_short bound p (word_at xs p) (word_at xs (p + 4)) h

pub then_same : (o : Option Header) (f g : Header → List Header) → ((c : Header) → o ≡ Some c → f c ≡ g c) → then_headers o f ≡ then_headers o g
then_same None f g e = refl
then_same (Some c) f g e = ap (λ (r : List Header). c ∷ r) (e c refl)

pub headers_none : (n : ℕ) (xs : List ℕ) (bound p : ℕ) → header_at xs bound p ≡ None → headers n xs bound p ≡ []
unfolding headers
headers_none zero xs bound p e = refl
headers_none (suc n) xs bound p e = ap (λ (o : Option Header). then_headers o (λ c. headers n xs bound (p + 8 + c.0))) e

pub headers_some : (n : ℕ) (xs : List ℕ) (bound p : ℕ) (c : Header) → header_at xs bound p ≡ Some c → headers (suc n) xs bound p ≡ c ∷ headers n xs bound (p + 8 + c.0)
unfolding headers
headers_some n xs bound p c e = ap (λ (o : Option Header). then_headers o (λ d. headers n xs bound (p + 8 + d.0))) e

-- any number that reaches the bound is enough
pub headers_enough : (n k : ℕ) (xs : List ℕ) (bound p : ℕ) → bound ≤ p + n → bound ≤ p + k → headers n xs bound p ≡ headers k xs bound p
unfolding headers
headers_enough zero zero xs bound p h j = refl
headers_enough zero (suc k) xs bound p h j = sym (headers_none (suc k) xs bound p (header_none xs bound p (omega arith)))
headers_enough (suc n) zero xs bound p h j = headers_none (suc n) xs bound p (header_none xs bound p (omega arith))
headers_enough (suc n) (suc k) xs bound p h j =
    then_same (header_at xs bound p) (λ c. headers n xs bound (p + 8 + c.0)) (λ c. headers k xs bound (p + 8 + c.0))
    (λ c _. headers_enough n k xs bound (p + 8 + c.0) (omega arith) (omega arith))

pub walk_end : (xs : List ℕ) (bound p : ℕ) → header_at xs bound p ≡ None → walk xs bound p ≡ []
unfolding walk
walk_end xs bound p e = headers_none (bound - p) xs bound p e

pub walk_step : (xs : List ℕ) (bound p : ℕ) (c : Header) → header_at xs bound p ≡ Some c → walk xs bound p ≡ c ∷ walk xs bound (p + 8 + c.0)
unfolding walk
walk_step xs bound p c e =
    let s = shape_of xs bound p c e in
    let f = s.fits in
    headers_enough (bound - p) (suc (bound - p)) xs bound p (omega arith) (omega arith)
    ∙ headers_some (bound - p) xs bound p c e
    ∙ ap (λ (r : List Header). c ∷ r) (headers_enough (bound - p) (bound - (p + 8 + c.0)) xs bound (p + 8 + c.0) (omega arith) (omega arith))

-- headers as they lie
abbrev pub Laid : ℕ → ℕ → List Header → Type 0
Laid bound p [] = Unit {0}
Laid bound p (c ∷ cs) = Shape bound p c × Laid bound (p + 8 + c.0) cs

laid_then : (o : Option Header) (bound p : ℕ) (f : Header → List Header) → ((c : Header) → o ≡ Some c → Shape bound p c × Laid bound (p + 8 + c.0) (f c)) → Laid bound p (then_headers o f)
laid_then None bound p f h = tt
laid_then (Some c) bound p f h = h c refl

pub laid_headers : (n : ℕ) (xs : List ℕ) (bound p : ℕ) → Laid bound p (headers n xs bound p)
unfolding headers
laid_headers zero xs bound p = tt
laid_headers (suc n) xs bound p = laid_then (header_at xs bound p) bound p (λ c. headers n xs bound (p + 8 + c.0)) (λ c e. (shape_of xs bound p c e, laid_headers n xs bound (p + 8 + c.0)))

pub laid_walk : (xs : List ℕ) (bound p : ℕ) → Laid bound p (walk xs bound p)
unfolding walk
laid_walk xs bound p = laid_headers (bound - p) xs bound p

pub live_other : (c : Header) (cs : List Header) (p a : ℕ) → (a ≡ p + 8 → ⊥) → live_in (c ∷ cs) p a ≡ live_in cs (p + 8 + c.0) a
live_other c cs p a h = cond-false (eqb a (p + 8)) (cond (eqb c.1 1) c.0 0) (live_in cs (p + 8 + c.0) a) (ne_eqb a (p + 8) h)

pub live_here : (c : Header) (cs : List Header) (p a : ℕ) → a ≡ p + 8 → live_in (c ∷ cs) p a ≡ cond (eqb c.1 1) c.0 0
live_here c cs p a h = cond-true (eqb a (p + 8)) (cond (eqb c.1 1) c.0 0) (live_in cs (p + 8 + c.0) a) (eq-eqb a (p + 8) h)

pub at_most : (s l : ℕ) → cond (eqb s 1) l 0 ≤ l
at_most s l = grind arith

pub both : (s l : ℕ) → 0 < cond (eqb s 1) l 0 → cond (eqb s 1) l 0 ≡ l
both s l h = grind arith

pub live_low : (cs : List Header) (p a : ℕ) → a < p + 8 → live_in cs p a ≡ 0
live_low [] p a h = refl
live_low (c ∷ cs) p a h = live_other c cs p a (λ e. omega arith) ∙ live_low cs (p + 8 + c.0) a (omega arith)

-- a live block among headers
pub record Found (bound p a l : ℕ) : Type 0 where
  pub from : p + 8 ≤ a
  pub address : a % 8 ≡ 0
  pub eighth : l % 8 ≡ 0
  pub some : 8 ≤ l
  pub within : a + l ≤ bound

pub laid_found : (bound : ℕ) (cs : List Header) (p a : ℕ) → p % 8 ≡ 0 → Laid bound p cs → 0 < live_in cs p a → Found bound p a (live_in cs p a)
laid_found bound [] p a g w h = absurd (let z : ⊥ = omega arith in z)
laid_found bound (c ∷ cs) p a g w h =
    let s = w.0 in
    let f = s.fits in
    let o = s.some in
    let e = s.eighth in
    ⊎_elim
    (λ (q : a ≡ p + 8).
    let u = live_here c cs p a q in
    let v : cond (eqb c.1 1) c.0 0 ≡ c.0 = both c.1 c.0 (omega arith) in
    let l : live_in (c ∷ cs) p a ≡ c.0 = u ∙ v in
    record { from = omega arith; address = omega arith; eighth = omega arith; some = omega arith; within = omega arith })
    (λ (q : a ≡ p + 8 → ⊥).
    let u = live_other c cs p a q in
    let r = laid_found bound cs (p + 8 + c.0) a (omega arith) w.1 (omega arith) in
    let rf = r.from in
    let re = r.eighth in
    let rs = r.some in
    let rw' = r.within in
    record { from = omega arith; address = r.address; eighth = omega arith; some = omega arith; within = omega arith })
    (cases_eq a (p + 8))

-- between two live blocks there is room for a header
pub laid_apart : (bound : ℕ) (cs : List Header) (p a b : ℕ) → Laid bound p cs → a < b → 0 < live_in cs p a → 0 < live_in cs p b → a + live_in cs p a + 8 ≤ b
laid_apart bound [] p a b w l h k = absurd (let z : ⊥ = omega arith in z)
laid_apart bound (c ∷ cs) p a b w l h k =
    ⊎_elim
    (λ (q : a ≡ p + 8).
    let u = live_here c cs p a q in
    let v = at_most c.1 c.0 in
    let x = live_other c cs p b (λ e. omega arith) in
    ⊎_elim
    (λ (r : b < p + 8 + c.0 + 8). absurd (let y = live_low cs (p + 8 + c.0) b r in let z : ⊥ = omega arith in z))
    (λ (r : p + 8 + c.0 + 8 ≤ b). omega arith)
    (cases_lt b (p + 8 + c.0 + 8)))
    (λ (q : a ≡ p + 8 → ⊥).
    let u = live_other c cs p a q in
    ⊎_elim
    (λ (r : a < p + 8 + c.0 + 8). absurd (let y = live_low cs (p + 8 + c.0) a r in let z : ⊥ = omega arith in z))
    (λ (r : p + 8 + c.0 + 8 ≤ a).
    let x = live_other c cs p b (λ e. omega arith) in
    let i = laid_apart bound cs (p + 8 + c.0) a b w.1 l (omega arith) (omega arith) in
    omega arith)
    (cases_lt a (p + 8 + c.0 + 8)))
    (cases_eq a (p + 8))

pub end_from : (cs : List Header) (p : ℕ) → p ≤ end_in cs p
end_from [] p = omega arith
end_from (c ∷ cs) p = let i = end_from cs (p + 8 + c.0) in omega arith

pub end_eighth : (bound : ℕ) (cs : List Header) (p : ℕ) → Laid bound p cs → p % 8 ≡ 0 → end_in cs p % 8 ≡ 0
end_eighth bound [] p w h = h
end_eighth bound (c ∷ cs) p w h = let e = w.0.eighth in end_eighth bound cs (p + 8 + c.0) w.1 (omega arith)

pub inside_of : (xs : List ℕ) (bound p : ℕ) (o : Option Header) → o ≡ header_at xs bound p → Inside bound p o
inside_of xs bound p None e = tt
inside_of xs bound p (Some c) e = shape_of xs bound p c (sym e)

-- the blocks from p on are those of the headers from p on
abbrev pub From : (ℕ → ℕ) → List ℕ → ℕ → ℕ → Type 0
From live xs bound p = (x : ℕ) → p ≤ x → live x ≡ live_in (walk xs bound p) p x

pub from_step : (live : ℕ → ℕ) (xs : List ℕ) (bound p : ℕ) (c : Header) → header_at xs bound p ≡ Some c → From live xs bound p → From live xs bound (p + 8 + c.0)
from_step live xs bound p c e f x h =
    let o = (shape_of xs bound p c e).some in
    f x (omega arith) ∙ ap (λ (cs : List Header). live_in cs p x) (walk_step xs bound p c e) ∙ live_other c (walk xs bound (p + 8 + c.0)) p x (λ q. omega arith)

pub from_here : (live : ℕ → ℕ) (xs : List ℕ) (bound p : ℕ) (c : Header) → header_at xs bound p ≡ Some c → From live xs bound p → live (p + 8) ≡ cond (eqb c.1 1) c.0 0
from_here live xs bound p c e f =
    f (p + 8) (omega arith) ∙ ap (λ (cs : List Header). live_in cs p (p + 8)) (walk_step xs bound p c e) ∙ live_here c (walk xs bound (p + 8 + c.0)) p (p + 8) refl

pub from_between : (live : ℕ → ℕ) (xs : List ℕ) (bound p : ℕ) (c : Header) → header_at xs bound p ≡ Some c → From live xs bound p → (x : ℕ) → p ≤ x → x < p + 8 + c.0 → (x ≡ p + 8 → ⊥) → live x ≡ 0
from_between live xs bound p c e f x h l q =
    f x h ∙ ap (λ (cs : List Header). live_in cs p x) (walk_step xs bound p c e) ∙ live_other c (walk xs bound (p + 8 + c.0)) p x q
    ∙ live_low (walk xs bound (p + 8 + c.0)) (p + 8 + c.0) x (omega arith)

pub from_none : (live : ℕ → ℕ) (xs : List ℕ) (bound p : ℕ) → header_at xs bound p ≡ None → From live xs bound p → (x : ℕ) → p ≤ x → live x ≡ 0
from_none live xs bound p e f x h = f x h ∙ ap (λ (cs : List Header). live_in cs p x) (walk_end xs bound p e)

pub from_live : (live : ℕ → ℕ) (xs : List ℕ) (bound p : ℕ) (c : Header) → header_at xs bound p ≡ Some c → From live xs bound p → c.1 ≡ 1 → live (p + 8) ≡ c.0
from_live live xs bound p c e f s = from_here live xs bound p c e f ∙ cond-true (eqb c.1 1) c.0 0 (eq-eqb c.1 1 s)

-- no block before the next header covers a, if none before p does and this one does not
pub past_step : (live : ℕ → ℕ) (xs : List ℕ) (bound p a : ℕ) (c : Header) → header_at xs bound p ≡ Some c → From live xs bound p → (In (p + 8) (cond (eqb c.1 1) c.0 0) a → ⊥)
    → ((x : ℕ) → x < p → In x (live x) a → ⊥) → (x : ℕ) → x < p + 8 + c.0 → In x (live x) a → ⊥
past_step live xs bound p a c e f out old x l i =
    ⊎_elim
    (λ (q : x < p). old x q i)
    (λ (q : p ≤ x). ⊎_elim
    (λ (r : x ≡ p + 8).
    let k : live x ≡ cond (eqb c.1 1) c.0 0 = ap live r ∙ from_here live xs bound p c e f in
    let lo = i.from in
    let hi = i.below in
    out (record { from = omega arith; below = omega arith }))
    (λ (r : x ≡ p + 8 → ⊥). let z = from_between live xs bound p c e f x q l r in let lo = i.from in let hi = i.below in omega arith)
    (cases_eq x (p + 8)))
    (cases_lt x p)

pub out_past : (s l p a : ℕ) → p + 8 + l ≤ a → In (p + 8) (cond (eqb s 1) l 0) a → ⊥
out_past s l p a h i = let b = i.below in let m = at_most s l in omega arith

pub out_before : (s l p a : ℕ) → a < p + 8 → In (p + 8) (cond (eqb s 1) l 0) a → ⊥
out_before s l p a h i = let b = i.from in omega arith

pub out_ended : (s l p a : ℕ) → (s ≡ 1 → ⊥) → In (p + 8) (cond (eqb s 1) l 0) a → ⊥
out_ended s l p a h i = let f = i.from in let b = i.below in let z = cond-false (eqb s 1) l 0 (ne_eqb s 1 h) in omega arith

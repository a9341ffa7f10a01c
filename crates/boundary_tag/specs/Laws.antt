-- The laws of a boundary tag heap's meaning: what it offers, and where its live blocks lie.
use Rattle.std.proofs.Common.{◌≡◌, ℕ, ◌+◌, ◌-◌, ◌%◌, ◌<◌, ◌≤◌, cond, leb, ◌⊎◌, List, ◌∷◌, ◌++◌, length, Some, None, Ok, Err, Option, sym, refl, ap, ◌∙◌, subst, inl, inr, ⊎_elim, arith, lit≤}
use Rattle.heap.specs.declared.fault.Fault.{Fault}
use Rattle.heap.specs.declared.fault.Kind.TheVariants.{BoundaryTag as TagK}
use Rattle.heap.specs.declared.fault.Cause.TheVariants.{Full}
use Rattle.heap.specs.Faults.{raised}
use Rattle.heap.specs.Meaning.{Block, Lawful, HeapFault, HeapKind, Covered}
use Rattle.heap.specs.Roundings.{up8}
use Rattle.heap.proofs.Offers.{admits, admits_large, admits_refused, raised_fault}
use Rattle.region.specs.Bytes.{span_of}
use Rattle.boundary_tag.specs.Chunks.{Chunk, Shape, tag_span, walk, chunks, live_in, end_in, lowest_fit, part_of, offer_from, tag_offer, tag_means}
use Rattle.boundary_tag.specs.Walks.{Found, Laid, laid_walk, laid_found, laid_apart}
use Rattle.boundary_tag.specs.Lists.{FitCut, fit_cut, laid_behind, laid_before, end_eighth, live_around}
use Rattle.std.proofs.lemmas.Bool.{cases_cond}

-- the span
at_least_24 : (s : ℕ) → cond (leb 24 s) s 0 ≤ s
at_least_24 s = grind arith

at_least_eighth : (s : ℕ) → s % 8 ≡ 0 → cond (leb 24 s) s 0 % 8 ≡ 0
at_least_eighth s h = grind arith

pub span_within : (n : ℕ) → tag_span n ≤ n
unfolding tag_span
span_within n = let z = at_least_24 (span_of n) in omega arith

pub span_most : (n : ℕ) → tag_span n ≤ 65536
unfolding tag_span
span_most n = let z = at_least_24 (span_of n) in omega arith

pub span_eighth : (n : ℕ) → tag_span n % 8 ≡ 0
unfolding tag_span
span_eighth n = at_least_eighth (span_of n) (omega arith)

pub tag_found : (xs : List ℕ) (a : ℕ) → 0 < live_in (chunks xs) 0 a → Found (tag_span (length xs)) 0 a (live_in (chunks xs) 0 a)
tag_found xs a h = laid_found (tag_span (length xs)) (chunks xs) 0 a refl (laid_walk xs (tag_span (length xs)) 0) h

-- what a block is granted of a free chunk
pub part_most : (l u : ℕ) → u + 16 ≤ l → part_of l u + 16 ≤ l
part_most l u h = grind arith

pub part_enough : (l u : ℕ) → u + 16 ≤ l → u ≤ part_of l u
part_enough l u h = grind arith

pub part_whole : (l u : ℕ) → part_of l u + 16 < l → part_of l u + 40 ≤ l
part_whole l u h = grind arith

pub part_eighth : (l u : ℕ) → u % 8 ≡ 0 → l % 8 ≡ 0 → 16 ≤ l → part_of l u % 8 ≡ 0
part_eighth l u h k o =
    ⊎_elim (λ (q : part_of l u ≡ u). ap (λ (z : ℕ). z % 8) q ∙ h) (λ (q : part_of l u ≡ l - 16). ap (λ (z : ℕ). z % 8) q ∙ (let z : (l - 16) % 8 ≡ 0 = omega arith in z)) (either l u)
  where
    either : (l u : ℕ) → (part_of l u ≡ u) ⊎ (part_of l u ≡ l - 16)
    either l u = cases_cond (leb (u + 40) l) u (l - 16) (part_of l u) refl

from_ok : (o : Option (ℕ × ℕ)) (n : ℕ) (b : Block) → offer_from o n ≡ Ok b → (k : ℕ × ℕ) × (o ≡ Some k) × (k.0 + 8 ≡ b.0) × (part_of k.1 (up8 n) ≡ b.1)
from_ok None n b e = absurd (let z : ◌≡◌ {A = ℕ} 0 1 = cc in let w : ⊥ = omega arith in w)
from_ok (Some k) n b e =
    let i : ◌≡◌ {A = Block} (k.0 + 8, part_of k.1 (up8 n)) b = cc in
    (k, refl, ap (λ (z : Block). z.0) i, ap (λ (z : Block). z.1) i)

from_err : (o : Option (ℕ × ℕ)) (n : ℕ) (f : Fault) → offer_from o n ≡ Err f → raised Full TagK n ≡ f
from_err None n f e = cc
from_err (Some k) n f e = absurd (let z : ◌≡◌ {A = ℕ} 0 1 = cc in let w : ⊥ = omega arith in w)

-- what an accepted allocate is offered: the place and length of a free chunk, and where that stands in the list
pub record Offered (xs : List ℕ) (n : ℕ) (b : Block) : Type 0 where
  pub chunk : ℕ × ℕ
  pub picked : lowest_fit (chunks xs) 0 (up8 n + 16) ≡ Some chunk
  pub fit : FitCut (chunks xs) 0 (up8 n + 16) chunk
  pub at : b.0 ≡ chunk.0 + 8
  pub size : b.1 ≡ part_of chunk.1 (up8 n)
  pub fits : chunk.0 + chunk.1 ≤ tag_span (length xs)
  pub most : b.1 + 16 ≤ chunk.1
  pub rest : b.1 + 16 < chunk.1 → b.1 + 40 ≤ chunk.1
  pub some : 8 ≤ b.1
  pub enough : n ≤ b.1
  pub eighth : b.1 % 8 ≡ 0
  pub long : chunk.1 % 8 ≡ 0
  pub low : chunk.0 % 8 ≡ 0

pub fresh : (xs : List ℕ) (n : ℕ) (b : Block) → (tag_means xs).offer n ≡ Ok b → Offered xs n b
fresh xs n b e =
    let span = tag_span (length xs) in
    let a = admits 32768 TagK (tag_offer (chunks xs)) n b e in
    let one = a.some in
    let o = from_ok (lowest_fit (chunks xs) 0 (up8 n + 16)) n b a.answer in
    let k = o.0 in
    let f = fit_cut (chunks xs) 0 (up8 n + 16) k o.1 in
    let u = f.cut in
    let laid : Laid span 0 (u.before ++ (u.here ∷ u.behind)) = subst (Laid span 0) u.whole (laid_walk xs span 0) in
    let here : Shape span (end_in u.before 0) u.here = (laid_behind span u.before (u.here ∷ u.behind) 0 laid).0 in
    let low : end_in u.before 0 % 8 ≡ 0 = end_eighth span u.before 0 (laid_before span u.before (u.here ∷ u.behind) 0 laid) refl in
    let at = u.at in
    let size = f.size in
    let fits = here.fits in
    let eighth = here.eighth in
    let enough = f.enough in
    let k8 : k.1 % 8 ≡ 0 = omega arith in
    let b0 = o.2 in
    let b1 = o.3 in
    let m = part_most k.1 (up8 n) enough in
    let en = part_enough k.1 (up8 n) enough in
    let wh = part_whole k.1 (up8 n) in
    let e8 : part_of k.1 (up8 n) % 8 ≡ 0 = part_eighth k.1 (up8 n) (omega arith) k8 (omega arith) in
    record {
      chunk = k;
      picked = o.1;
      fit = f;
      at = sym b0;
      size = sym b1;
      fits = omega arith;
      most = omega arith;
      rest = λ q. let z = wh (omega arith) in omega arith;
      some = omega arith;
      enough = omega arith;
      eighth = sym (ap (λ (z : ℕ). z % 8) b1) ∙ e8;
      long = k8;
      low = omega arith;
    }

tag_kind : HeapKind TagK
tag_kind = (lit≤ tt, lit≤ tt)

pub fresh_around : (xs : List ℕ) (n : ℕ) (b : Block) → Offered xs n b → (a : ℕ) → 0 < live_in (chunks xs) 0 a → (a + live_in (chunks xs) 0 a ≤ b.0 - 8) ⊎ (b.0 + b.1 + 8 ≤ a)
fresh_around xs n b f a h =
    let span = tag_span (length xs) in
    let u = f.fit.cut in
    let e : live_in (chunks xs) 0 a ≡ live_in (u.before ++ (u.here ∷ u.behind)) 0 a = ap (λ (cs : List Chunk). live_in cs 0 a) u.whole in
    let laid : Laid span 0 (u.before ++ (u.here ∷ u.behind)) = subst (Laid span 0) u.whole (laid_walk xs span 0) in
    let at = f.at in
    let k = u.at in
    let m = f.most in
    let s = f.fit.size in
    ⊎_elim
    (λ (q : a + live_in (u.before ++ (u.here ∷ u.behind)) 0 a ≤ end_in u.before 0). inl (omega arith))
    (λ (q : end_in u.before 0 + u.here.0 ≤ a). inr (omega arith))
    (live_around span u.before u.here u.behind 0 a laid f.fit.free (omega arith))

pub tag_lawful : (xs : List ℕ) → Lawful (tag_means xs)
tag_lawful xs =
    let s = tag_span (length xs) in
    let f = tag_offer (chunks xs) in
    record {
      kind = tag_kind;
      span_eighth = span_eighth (length xs);
      span_bound = let z = span_most (length xs) in omega arith;
      sits = λ a h. let f = tag_found xs a h in let w = f.within in record { address = f.address; length = f.eighth; some = f.some; within = omega arith };
      apart = λ a b h l k. let z = laid_apart s (chunks xs) 0 a b (laid_walk xs s 0) l h k in omega arith;
      offered = λ n b e.
          let f = fresh xs n b e in
          let at = f.at in
          let fits = f.fits in
          let most = f.most in
          let low = f.low in
          record { address = omega arith; length = f.eighth; some = f.some; within = omega arith };
      enough = λ n b e. (fresh xs n b e).enough;
      unused = λ n b e a h.
          ⊎_elim
          (λ (q : a + live_in (chunks xs) 0 a ≤ b.0 - 8). inr (omega arith))
          (λ (q : b.0 + b.1 + 8 ≤ a). inl (omega arith))
          (fresh_around xs n b (fresh xs n b e) a h);
      zero = refl;
      large = λ n h. admits_large 32768 TagK f n (lit≤ tt) h;
      refused = λ n g e. admits_refused 32768 TagK f n tag_kind (λ z q. subst HeapFault (from_err (lowest_fit (chunks xs) 0 (up8 n + 16)) n z q) (raised_fault Full TagK n tt tag_kind)) g e;
    }

pub covered_span : (xs : List ℕ) (a c : ℕ) → 0 < c → Covered (live_in (chunks xs) 0) a c → a + c ≤ tag_span (length xs)
covered_span xs a c z k =
    let f = k.from in
    let t = k.to in
    let r = (tag_found xs k.start (omega arith)).within in
    omega arith

pub covered_region : (xs : List ℕ) (a c : ℕ) → 0 < c → Covered (live_in (chunks xs) 0) a c → a + c ≤ length xs
covered_region xs a c z k = let s = covered_span xs a c z k in let w = span_within (length xs) in omega arith

-- where the lowest fit lies
pub fit_within : (xs : List ℕ) (span need : ℕ) (k : ℕ × ℕ) → lowest_fit (walk xs span 0) 0 need ≡ Some k → (need ≤ k.1) × (k.0 + k.1 ≤ span)
fit_within xs span need k e =
    let f = fit_cut (walk xs span 0) 0 need k e in
    let u = f.cut in
    let laid : Laid span 0 (u.before ++ (u.here ∷ u.behind)) = subst (Laid span 0) u.whole (laid_walk xs span 0) in
    let fits = (laid_behind span u.before (u.here ∷ u.behind) 0 laid).0.fits in
    let at = u.at in
    let size = f.size in
    (f.enough, omega arith)

-- Offers behind the tests of a size, and a layer that changes offers alone.
use Rattle.std.proofs.Common.{◌≡◌, ℕ, ◌<◌, ◌≤◌, Ok, Err, Result, refl, ap, ◌∙◌, subst, inl, inr, ⊎_elim, arith, lit≤}
use mathlib.Core.Logic.{∥∥₁_map}
use Rattle.heap.specs.declared.fault.Fault.{Fault}
use Rattle.heap.specs.declared.fault.Kind.{Kind}
use Rattle.heap.specs.declared.fault.Cause.{Cause}
use Rattle.heap.specs.declared.fault.Cause.TheVariants.{Zero, TooLarge, Outside}
use Rattle.heap.specs.Faults.{raised, handed_up, up, own, and_then}
use Rattle.heap.specs.Checks.{admitted}
use Rattle.heap.specs.Meaning.{Meaning, Block, Lawful, HeapKind, HeapFault, OfferCause, Covered, Stays, Same, SameOffers, Granted, Freed, Gets, MayFree, MayFill, Frees, Fills, with_offers}
use Rattle.heap.specs.Histories.{History, after_free, after_fill}
use Rattle.std.proofs.lemmas.Bool.{cases_eq, cases_lt}

-- an accepted size is one from 1 to the largest, and is answered by what stands behind the tests
pub record Admits (largest n : ℕ) (r : Result Block Fault) (b : Block) : Type 0 where
  pub some : 1 ≤ n
  pub most : n ≤ largest
  pub answer : r ≡ Ok b

-- a fault that a heap raises, or hands up
pub raised_fault : (c : Cause) (k : Kind) (p : ℕ) → OfferCause c → HeapKind k → HeapFault (raised c k p)
raised_fault c k p o q = record { cause = o; kind = q; down = lit≤ tt }

pub handed_fault : (f : Fault) → HeapFault f → HeapFault (handed_up f)
handed_fault f h = record { cause = h.cause; kind = h.kind; down = omega arith }

-- a size that passed the tests is the one that was asked
module _ (largest : ℕ) (k : Kind) (n q : ℕ) (e : admitted largest k n ≡ Ok q) where
  pub admitted_same : q ≡ n
  admitted_same = grind arith

  pub admitted_some : 1 ≤ n
  admitted_some = grind arith

  pub admitted_most : n ≤ largest
  admitted_most = grind arith

module _ (largest : ℕ) (k : Kind) (f : ℕ → Result Block Fault) (n : ℕ) where
  pub admits : (b : Block) → and_then (admitted largest k n) f ≡ Ok b → Admits largest n (f n) b
  admits b e = record { some = grind arith; most = grind arith; answer = grind arith }

  pub admits_large : largest ≤ 32768 → 32768 < n → and_then (admitted largest k n) f ≡ Err (raised TooLarge k n)
  admits_large most h = grind arith

  pub admits_refused : HeapKind k → ((g : Fault) → f n ≡ Err g → HeapFault g) → (g : Fault) → and_then (admitted largest k n) f ≡ Err g → HeapFault g
  admits_refused q below g e =
      ⊎_elim
      (λ (z : n ≡ 0). subst HeapFault (let y : raised Zero k 0 ≡ g = grind arith in y) (raised_fault Zero k 0 tt q))
      (λ (z : n ≡ 0 → ⊥).
      ⊎_elim
      (λ (l : largest < n). subst HeapFault (let y : raised TooLarge k n ≡ g = grind arith in y) (raised_fault TooLarge k n tt q))
      (λ (l : n ≤ largest). below g (grind arith))
      (cases_lt largest n))
      (cases_eq n 0)

pub and_then_same : {A B : Type 0} (r : Result A Fault) (f g : A → Result B Fault) → ((a : A) → f a ≡ g a) → and_then r f ≡ and_then r g
and_then_same (Ok a) f g e = e a
and_then_same (Err x) f g e = refl

-- an answer that a layer lets through, or refuses for itself
pub up_ok : (r : Result Block Fault) (b : Block) → up r ≡ Ok b → r ≡ Ok b
up_ok (Ok a) b e = e
up_ok (Err f) b e = absurd (let z : ◌≡◌ {A = ℕ} 0 1 = cc in let w : ⊥ = omega arith in w)

pub up_fault : (r : Result Block Fault) (g : Fault) → ((f : Fault) → r ≡ Err f → HeapFault f) → up r ≡ Err g → HeapFault g
up_fault (Ok a) g h e = absurd (let z : ◌≡◌ {A = ℕ} 0 1 = cc in let w : ⊥ = omega arith in w)
up_fault (Err f) g h e = subst HeapFault (let y : handed_up f ≡ g = cc in y) (handed_fault f (h f refl))

module _ (k k' : Kind) (live live' : ℕ → ℕ) (a a' : ℕ) where
  pub own_free : (r : Result (Unit {0}) Fault) → live a ≡ live' a' → MayFree k' live' a' r → MayFree k live a (own k a r)
  own_free (Ok t) e q = omega arith
  own_free (Err f) e q = (e ∙ q.0, ap (λ (z : Fault). raised z.cause k a) q.1)

  module _ (c : ℕ) (into : Covered live a c → Covered live' a' c) (back : Covered live' a' c → Covered live a c) where
    pub own_fill : (r : Result (Unit {0}) Fault) → MayFill k' live' a' c r → MayFill k live a c (own k a r)
    own_fill (Ok t) q = (q.0, ∥∥₁_map q.1 back)
    own_fill (Err f) q =
        ⊎_elim
        (λ (z : (c ≡ 0) × (f ≡ raised Zero k' a')). inl (z.0, ap (λ (y : Fault). raised y.cause k a) z.1))
        (λ (z : (0 < c) × (Covered live' a' c → ⊥) × (f ≡ raised Outside k' a')). inr (z.0, (λ i. z.1 (into i)), ap (λ (y : Fault). raised y.cause k a) z.2))
        q

  pub own_get : (byte byte' : ℕ → ℕ) (r : Result ℕ Fault) → (Covered live a 1 → Covered live' a' 1) → (Covered live' a' 1 → Covered live a 1) → byte' a' ≡ byte a
      → Gets k' live' byte' a' r → Gets k live byte a (own k a r)
  own_get byte byte' (Ok v) into back e q = (∥∥₁_map q.0 back, q.1 ∙ e)
  own_get byte byte' (Err f) into back e q = ((λ i. q.0 (into i)), ap (λ (y : Fault). raised y.cause k a) q.1)

pub own_after_free : (k : Kind) (p a : ℕ) (r : Result (Unit {0}) Fault) (h : History) → after_free a (own k p r) h ≡ after_free a r h
own_after_free k p a (Ok t) h = refl
own_after_free k p a (Err f) h = refl

pub own_after_fill : (k : Kind) (p a c v : ℕ) (r : Result (Unit {0}) Fault) (h : History) → after_fill a c v (own k p r) h ≡ after_fill a c v r h
own_after_fill k p a c v (Ok t) h = refl
own_after_fill k p a c v (Err f) h = refl

-- The calls of a layer that changes offers alone, from those below.
module _ (k : Kind) (o o' : ℕ → Result Block Fault) (m m' : Meaning) where
  pub stays_with : Stays m m' → Stays (with_offers k o m) (with_offers k o' m')
  stays_with s = record { kind = refl; span = s.span; live = s.live; byte = s.byte }

  pub granted_with : (a c : ℕ) → Granted a c m m' → Granted a c (with_offers k o m) (with_offers k o' m')
  granted_with a c s = record { kind = refl; span = s.span; live = s.live; clear = s.clear; byte = s.byte }

  pub freed_with : (a : ℕ) → Freed a m m' → Freed a (with_offers k o m) (with_offers k o' m')
  freed_with a s = record { kind = refl; span = s.span; live = s.live; byte = s.byte }

  module _ (same : SameOffers m m' → (n : ℕ) → o' n ≡ o n) where
    pub same_with : Same m m' → Same (with_offers k o m) (with_offers k o' m')
    same_with s = (stays_with s.0, same s.1)

    pub frees_with : (a : ℕ) (r : Result (Unit {0}) Fault) → Frees a m m' r → Frees a (with_offers k o m) (with_offers k o' m') (own k a r)
    frees_with a (Ok t) s = freed_with a s
    frees_with a (Err f) s = same_with s

    pub fills_with : (a c v : ℕ) (r : Result (Unit {0}) Fault) → Fills a c v m m' r → Fills a c v (with_offers k o m) (with_offers k o' m') (own k a r)
    fills_with a c v (Ok t) s = record { kind = refl; span = s.span; live = s.live; set = s.set; byte = s.byte; offers = same s.offers }
    fills_with a c v (Err f) s = same_with s

-- its law: each of its offers is one of below, for a size at least as large
pub record From (m : Meaning) (n : ℕ) (b : Block) : Type 0 where
  pub size : ℕ
  pub least : n ≤ size
  pub offer : m.offer size ≡ Ok b

pub lawful_with : (k : Kind) (largest : ℕ) (f : ℕ → Result Block Fault) (m : Meaning) → HeapKind k → largest ≤ 32768 → Lawful m
    → ((n : ℕ) (b : Block) → Admits largest n (f n) b → From m n b)
    → ((n : ℕ) (g : Fault) → f n ≡ Err g → HeapFault g)
    → Lawful (with_offers k (λ n. and_then (admitted largest k n) f) m)
lawful_with k largest f m q most w from fault =
    let offer : (n : ℕ) (b : Block) → and_then (admitted largest k n) f ≡ Ok b → From m n b = λ n b e. from n b (admits largest k f n b e) in
    record {
      kind = q;
      span_eighth = w.span_eighth;
      span_bound = w.span_bound;
      sits = w.sits;
      apart = w.apart;
      offered = λ n b e. let g = offer n b e in w.offered g.size b g.offer;
      enough = λ n b e. let g = offer n b e in let l = w.enough g.size b g.offer in let s = g.least in omega arith;
      unused = λ n b e. let g = offer n b e in w.unused g.size b g.offer;
      zero = refl;
      large = λ n h. admits_large largest k f n most h;
      refused = λ n g e. admits_refused largest k f n q (fault n) g e;
    }

-- A free list's law, and its calls from those below.
use Rattle.std.specs.Prelude.{◌≡◌, ℕ, ◌<◌, ◌≤◌, true, cond, ◌⊎◌, List, Some, None, Ok, Err, Option, Result, ◌==◌, ◌≢◌, nat_le, refl}
use Rattle.std.proofs.Common.{sym, ◌∙◌, ap, subst, inl, inr, ⊎_elim, lit≤, arith}
use Rattle.heap.specs.declared.fault.Fault.{Fault}
use Rattle.heap.specs.declared.fault.Kind.TheVariants.{FreeList as FreeListK}
use Rattle.heap.specs.Faults.{up, own, and_then}
use Rattle.heap.specs.Checks.{admitted}
use Rattle.heap.specs.Meaning.{Meaning, Block, Lawful, HeapFault, In, Sits, Apart, Same, SameOffers, Granted, Freed, Filled, Allocates, Frees, Fills}
use Rattle.heap.specs.Roundings.{LawfulRounding}
use Rattle.heap.proofs.Lawful.{same_start}
use Rattle.heap.proofs.Offers.{admits, admits_large, admits_refused, and_then_same, up_ok, up_fault}
use Rattle.free_list.specs.Holdings.{among, without, with_newest}
use Rattle.free_list.specs.FreeLists.{asked, newest, served_or, unheld, free_list_offer, free_listed, TakesOut, ServesNext}
use Rattle.free_list.specs.Newest.{Serves, serves, newest_same, newest_push}
use Rattle.free_list.specs.Unheld.{some_unheld, some_same, in_below, in_some}
use Rattle.free_list.specs.Addresses.{among_taken_out, among_others, among_push}
use Rattle.std.proofs.lemmas.Bool.{cond-true, cond-false, eq-eqb, ne_eqb, cases_eq, cases_lt, both_ways, le-leb}

-- Where an offer comes from.

served_from : (o : Option Block) (r : Result Block Fault) (b : Block) → served_or o r ≡ Ok b → (o ≡ Some b) ⊎ (r ≡ Ok b)
served_from (Some d) r b e = inl (cc)
served_from None r b e = inr (up_ok r b e)

served_refused : (o : Option Block) (r : Result Block Fault) (g : Fault) → ((f : Fault) → r ≡ Err f → HeapFault f) → served_or o r ≡ Err g → HeapFault g
served_refused (Some b) r g h e = absurd (let z : ◌≡◌ {A = ℕ} 0 1 = cc in let w : ⊥ = omega arith in w)
served_refused None r g h e = up_fault r g h e

-- a held block, or one offered below, for a rounded size of at least the size asked
record Source (R : ℕ → ℕ) (held : List ℕ) (m : Meaning) (n : ℕ) (b : Block) : Type 0 where
  some : 1 ≤ R n
  least : n ≤ R n
  from : Serves m.live (R n) held b ⊎ (m.offer (R n) ≡ Ok b)

module _ (L : ℕ) (R : ℕ → ℕ) (laws : LawfulRounding L R) where
  source : (held : List ℕ) (m : Meaning) (n : ℕ) (b : Block) → free_list_offer L R held m n ≡ Ok b → Source R held m n b
  source held m n b e =
      let p = admits L FreeListK (λ q. served_or (newest m.live (R q) held) (m.offer (R q))) n b e in
      let i = p.some in
      let x = laws.extensive n p.some p.most in
      record {
        some = omega arith;
        least = x;
        from =
            ⊎_elim
            (λ (o : newest m.live (R n) held ≡ Some b). inl (serves m.live (R n) held b o))
            (λ (o : m.offer (R n) ≡ Ok b). inr o)
            (served_from (newest m.live (R n) held) (m.offer (R n)) b p.answer);
      }

served_sits : (m : Meaning) (k : ℕ) (held : List ℕ) (b : Block) → Lawful m → 1 ≤ k → Serves m.live k held b → Sits m.span b
served_sits m k held b w p s =
    let l = s.long in
    subst (λ (c : ℕ). Sits m.span (b.0, c)) (sym s.entire) (w.sits b.0 (omega arith))

served_apart : (m : Meaning) (k : ℕ) (held : List ℕ) (b : Block) → Lawful m → 1 ≤ k → Serves m.live k held b → (a : ℕ) → 0 < unheld held m.live a → Apart b (a, unheld held m.live a)
served_apart m k held b w p s a q =
    let l = s.long in
    let e = s.entire in
    let same = some_same held m.live a q in
    let fresh = some_unheld held m.live a q in
    let ne : b.0 ≡ a → ⊥ = λ z. both_ways (among a held) fresh (ap (λ (x : ℕ). among x held) (sym z) ∙ s.among_them) in
    ⊎_elim
    (λ (lt : b.0 < a). let z = w.apart b.0 a (omega arith) lt (omega arith) in inl (omega arith))
    (λ (le : a ≤ b.0). let z = w.apart a b.0 (omega arith) (omega arith) (omega arith) in inr (omega arith))
    (cases_lt b.0 a)

pub free_listed_lawful : (L : ℕ) (R : ℕ → ℕ) (held : List ℕ) (m : Meaning) → LawfulRounding L R → Lawful m → Lawful (free_listed L R held m)
free_listed_lawful L R held m laws w = record {
  kind = (lit≤ tt, lit≤ tt);
  span_eighth = w.span_eighth;
  span_bound = w.span_bound;
  sits = λ a p. let e = some_same held m.live a p in subst (λ (c : ℕ). Sits m.span (a, c)) (sym e) (w.sits a (omega arith));
  apart = λ a b p l q.
      let ea = some_same held m.live a p in
      let eb = some_same held m.live b q in
      let z = w.apart a b (omega arith) l (omega arith) in
      omega arith;
  offered = λ n b e.
      let s = source L R laws held m n b e in
      ⊎_elim
      (λ (o : Serves m.live (R n) held b). served_sits m (R n) held b w s.some o)
      (λ (o : m.offer (R n) ≡ Ok b). w.offered (R n) b o)
      s.from;
  enough = λ n b e.
      let s = source L R laws held m n b e in
      let x = s.least in
      ⊎_elim
      (λ (o : Serves m.live (R n) held b). let l = o.long in let z = o.entire in omega arith)
      (λ (o : m.offer (R n) ≡ Ok b). let z = w.enough (R n) b o in omega arith)
      s.from;
  unused = λ n b e a p.
      let s = source L R laws held m n b e in
      ⊎_elim
      (λ (o : Serves m.live (R n) held b). served_apart m (R n) held b w s.some o a p)
      (λ (o : m.offer (R n) ≡ Ok b). let z = some_same held m.live a p in subst (λ (c : ℕ). Apart b (a, c)) (sym z) (w.unused (R n) b o a (omega arith)))
      s.from;
  zero = refl;
  large = λ n h. admits_large L FreeListK (λ q. served_or (newest m.live (R q) held) (m.offer (R q))) n laws.most h;
  refused = λ n g e. admits_refused L FreeListK (λ q. served_or (newest m.live (R q) held) (m.offer (R q))) n (lit≤ tt, lit≤ tt) (λ f o. served_refused (newest m.live (R n) held) (m.offer (R n)) f (w.refused (R n)) o) g e;
}

-- a block that was taken out of the held ones, or came from below, is live
pub granted_live : (held held' : List ℕ) (live live' : ℕ → ℕ) (a c : ℕ) → held' ≡ without a held → live' a ≡ c → ((x : ℕ) → (x ≢ a) → live' x ≡ live x) → (x : ℕ) → unheld held' live' x ≡ cond (x == a) c (unheld held live x)
granted_live held held' live live' a c eh ea eo x =
    ⊎_elim
    (λ (q : x ≡ a). let t = among_taken_out a held in grind arith)
    (λ (q : x ≡ a → ⊥). let t = among_others a x held q in let o = eo x q in grind arith)
    (cases_eq x a)

-- What the calls do, from what they do below.
module _ (L : ℕ) (R : ℕ → ℕ) (held held' : List ℕ) (m m' : Meaning) where
  -- where the heap below offers as before, so does the free list
  pub offers_kept : held' ≡ held → ((a : ℕ) → m'.live a ≡ m.live a) → SameOffers m m' → SameOffers (free_listed L R held m) (free_listed L R held' m')
  offers_kept eh el eo n =
      and_then_same (admitted L FreeListK n) (λ q. served_or (newest m'.live (R q) held') (m'.offer (R q))) (λ q. served_or (newest m.live (R q) held) (m.offer (R q)))
      (λ q. let o = eo (R q) in let s = newest_same m.live m'.live (R q) held el in cc)

  pub refused_same : held' ≡ held → Same m m' → Same (free_listed L R held m) (free_listed L R held' m')
  refused_same eh s = (
    record {
      kind = refl;
      span = s.0.span;
      live = λ a. let l = s.0.live a in cc;
      byte = λ a x i. s.0.byte a x (in_below held m.live a x i);
    },
    offers_kept eh s.0.live s.1,
  )

  -- a grant: a held block that was cleared
  pub served_granted : (a c : ℕ) → m.live a ≡ c → held' ≡ without a held → Filled a c 0 m m' → among a held ≡ true → Lawful m → Granted a c (free_listed L R held m) (free_listed L R held' m')
  served_granted a c ea eh s t w = record {
    kind = refl;
    span = s.span;
    live = granted_live held held' m.live m'.live a c eh (s.live a ∙ ea) (λ x _. s.live x);
    clear = s.set;
    byte = λ b x i. s.byte b x (in_below held m.live b x i) (λ j.
        let same : a ≡ b = same_start m w a b x (subst (λ (d : ℕ). In a d x) (sym ea) j) (in_below held m.live b x i) in
        both_ways (among a held) (ap (λ (z : ℕ). among z held) same ∙ some_unheld held m.live b (in_some b (unheld held m.live b) x i)) t);
  }

  -- or a block from below
  pub fetched_allocates : (r : Result Block Fault) → TakesOut held held' r → Allocates m m' r → Allocates (free_listed L R held m) (free_listed L R held' m') r
  fetched_allocates (Ok b) eh s = record {
    kind = refl;
    span = s.span;
    live = granted_live held held' m.live m'.live b.0 b.1 eh (s.live b.0 ∙ cond-true (b.0 == b.0) b.1 (m.live b.0) (eq-eqb b.0 b.0 refl)) (λ x ne. s.live x ∙ cond-false (x == b.0) b.1 (m.live x) (ne_eqb x b.0 ne));
    clear = s.clear;
    byte = λ d x i. s.byte d x (in_below held m.live d x i);
  }
  fetched_allocates (Err f) eh s = refused_same eh s

-- a free that holds the block
pub held_freed : (L : ℕ) (R : ℕ → ℕ) (held held' : List ℕ) (m : Meaning) (a : ℕ) → held' ≡ with_newest held a → Freed a (free_listed L R held m) (free_listed L R held' m)
held_freed L R held held' m a eh = record {
  kind = refl;
  span = refl;
  live = λ x. let e = among_push x a held in grind arith;
  byte = λ b x i. refl;
}

module _ (L : ℕ) (R : ℕ → ℕ) (held : List ℕ) (m m' : Meaning) (a : ℕ) where
  -- a free that goes below
  pub below_frees : (r : Result (Unit {0}) Fault) → Frees a m m' r → Frees a (free_listed L R held m) (free_listed L R held m') (own FreeListK a r)
  below_frees (Ok t) s = record {
    kind = refl;
    span = s.span;
    live = λ x. let e = s.live x in grind arith;
    byte = λ b x i. s.byte b x (in_below held m'.live b x i);
  }
  below_frees (Err f) s = refused_same L R held held m m' refl s

  pub below_fills : (c v : ℕ) (r : Result (Unit {0}) Fault) → Fills a c v m m' r → Fills a c v (free_listed L R held m) (free_listed L R held m') (own FreeListK a r)
  below_fills c v (Ok t) s = record {
    kind = refl;
    span = s.span;
    live = λ x. ap (λ (z : ℕ). cond (among x held) 0 z) (s.live x);
    set = s.set;
    byte = λ d x i o. s.byte d x (in_below held m.live d x i) o;
    offers = offers_kept L R held held m m' refl s.live s.offers;
  }
  below_fills c v (Err f) s = refused_same L R held held m m' refl s

-- The size asked below.

asked_ok : (L : ℕ) (R : ℕ → ℕ) (n j : ℕ) → asked L R n ≡ Ok j → (1 ≤ n) × (n ≤ L) × (j ≡ R n)
asked_ok L R n j e = (grind arith, grind arith, grind arith)

-- what stands behind the tests is answered for the size that they let through
behind : (R : ℕ → ℕ) (f : ℕ → Result Block Fault) (q : Result ℕ Fault) (k : ℕ) → and_then q (λ z. Ok (R z)) ≡ Ok k → and_then q (λ z. f (R z)) ≡ f k
behind R f (Ok z) k e = let y : R z ≡ k = cc in ap f y
behind R f (Err g) k e = absurd (let z : ◌≡◌ {A = ℕ} 0 1 = cc in let w : ⊥ = omega arith in w)

module _ (L : ℕ) (R : ℕ → ℕ) (n k : ℕ) (e : asked L R n ≡ Ok k) where
  -- it is the size rounded, and not 0
  pub asked_rounded : k ≡ R n
  asked_rounded = (asked_ok L R n k e).2

  pub asked_some : LawfulRounding L R → 1 ≤ k
  asked_some laws =
      let a = asked_ok L R n k e in
      let p = a.0 in
      let q = a.2 in
      let x = laws.extensive n a.0 a.1 in
      omega arith

  -- the answer, once the tests are passed
  pub answer_served : (held : List ℕ) (m : Meaning) (b : Block) → newest m.live k held ≡ Some b → Ok b ≡ free_list_offer L R held m n
  answer_served held m b s = sym (behind R (λ z. served_or (newest m.live z held) (m.offer z)) (admitted L FreeListK n) k e ∙ ap (λ (o : Option Block). served_or o (m.offer k)) s)

  pub answer_fetched : (held : List ℕ) (m : Meaning) → newest m.live k held ≡ None → up (m.offer k) ≡ free_list_offer L R held m n
  answer_fetched held m s = sym (behind R (λ z. served_or (newest m.live z held) (m.offer z)) (admitted L FreeListK n) k e ∙ ap (λ (o : Option Block). served_or o (m.offer k)) s)

-- The promise of the laws of a rounding.

asked_within : (L : ℕ) (R : ℕ → ℕ) (n : ℕ) → 1 ≤ n → n ≤ L → asked L R n ≡ Ok (R n)
asked_within L R n p q = grind arith

-- a size that is rounded to something is one that the rounding takes
rounded_within : (L : ℕ) (R : ℕ → ℕ) (s : ℕ) → LawfulRounding L R → 1 ≤ R s → (1 ≤ s) × (s ≤ L)
rounded_within L R s laws p = (
  ⊎_elim (λ (q : 0 < s). q) (λ (q : s ≤ 0). absurd (let e : s ≡ 0 = omega arith in let z = ap R e in let n = laws.nought in let w : ⊥ = omega arith in w)) (cases_lt 0 s),
  ⊎_elim (λ (q : L < s). absurd (let z = laws.beyond s q in let w : ⊥ = omega arith in w)) (λ (q : s ≤ L). q) (cases_lt L s),
)

-- a block just held is the newest, and long enough for every size up to what its own is rounded to
pub serves_next : (L : ℕ) (R : ℕ → ℕ) (held held' : List ℕ) (m : Meaning) (a s : ℕ) → LawfulRounding L R → held' ≡ with_newest held a → (0 < s → R s ≤ unheld held m.live a) → ServesNext R a s (free_listed L R held m) (free_listed L R held' m)
serves_next L R held held' m a s laws eh long n p q =
    let some : 1 ≤ R s = omega arith in
    let ws = rounded_within L R s laws some in
    let fit = long ws.0 in
    let top = laws.within s ws.0 ws.1 in
    let mono = laws.monotone n (R s) p q top in
    let idem = laws.idempotent s ws.0 ws.1 in
    let same = some_same held m.live a (omega arith) in
    let fits : R n ≤ m.live a = omega arith in
    let found : newest m.live (R n) held' ≡ Some (a, m.live a) = ap (newest m.live (R n)) eh ∙ newest_push m.live (R n) held a ∙ cond-true (nat_le (R n) (m.live a)) _ _ (le-leb (R n) (m.live a) fits) in
    sym (answer_served L R n (R n) (asked_within L R n p (omega arith)) held' m (a, m.live a) found) ∙ ap (λ (c : ℕ). Ok (a, c)) (sym same)

-- and where no live block begins, none was granted
pub serves_none : (L : ℕ) (R : ℕ → ℕ) (a s : ℕ) (m m' : Meaning) → LawfulRounding L R → m.live a ≡ 0 → (0 < s → R s ≤ m.live a) → ServesNext R a s m m'
serves_none L R a s m m' laws z long n p q = absurd (let ws = rounded_within L R s laws (omega arith) in let fit = long ws.0 in let w : ⊥ = omega arith in w)

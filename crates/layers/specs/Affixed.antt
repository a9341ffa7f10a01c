-- An affix's law, and its calls from those below.
use Rattle.std.specs.Prelude.{◌≡◌, ℕ, ◌+◌, ◌-◌, ◌<◌, ◌≤◌, Bool, true, false, cond, ◌⊎◌, ◌∷◌, Ok, Err, Result, ◌==◌, nat_le, refl}
use Rattle.std.proofs.Common.{sym, ◌∙◌, ap, subst, inl, inr, ⊎_elim, lit≤, arith}
use Rattle.heap.specs.declared.fault.Fault.{Fault}
use Rattle.heap.specs.declared.fault.Kind.{Kind}
use Rattle.heap.specs.declared.fault.Kind.TheVariants.{Affix as AffixK}
use Rattle.heap.specs.Faults.{up, own, and_then}
use Rattle.heap.specs.Checks.{admitted}
use Rattle.heap.specs.Meaning.{Meaning, Block, Lawful, HeapFault, Sits, In, Covered, Apart, Stays, Same, SameOffers, Granted, Freed, Filled, MayFree, MayFill, Allocates, Frees, Fills, NothingLive}
use Rattle.heap.specs.Histories.{History, granted, filled, after_allocate, after_free, after_fill}
use Rattle.heap.proofs.Lawful.{same_start, surely_filled, surely_entered}
use Rattle.heap.proofs.Offers.{admits, admits_large, admits_refused, admitted_same, admitted_some, admitted_most, up_ok, up_fault, and_then_same}
use Rattle.layers.specs.Affixes.{affix_live, inner_block, affix_offer, affixed, AllWhole, sent_affixed}
use Rattle.std.proofs.lemmas.Bool.{cond-true, cond-false, lt-leb, eq-eqb, ne_eqb, cases_eq, cases_lt}

-- the block below a block above
pub record Outer (live : ℕ → ℕ) (a : ℕ) : Type 0 where
  pub low : 8 ≤ a
  pub long : 24 ≤ live (a - 8)
  pub is : affix_live live a ≡ live (a - 8) - 16

module _ (a l : ℕ) (h : 0 < cond (nat_le 8 a) (cond (nat_le 24 l) (l - 16) 0) 0) where
  from_low : 8 ≤ a
  from_low = grind arith

  from_long : 24 ≤ l
  from_long = grind arith

  from_is : cond (nat_le 8 a) (cond (nat_le 24 l) (l - 16) 0) 0 ≡ l - 16
  from_is = grind arith

pub outer : (live : ℕ → ℕ) (a : ℕ) → 0 < affix_live live a → Outer live a
outer live a h = record { low = from_low a (live (a - 8)) h; long = from_long a (live (a - 8)) h; is = from_is a (live (a - 8)) h }

-- the block above a block below
inner_is : (a l : ℕ) → 8 ≤ a → 24 ≤ l → cond (nat_le 8 a) (cond (nat_le 24 l) (l - 16) 0) 0 ≡ l - 16
inner_is a l p q = grind arith

pub inner_at : (live : ℕ → ℕ) (a p : ℕ) → a ≡ p + 8 → 24 ≤ live p → affix_live live a ≡ live p - 16
inner_at live a p e h =
    let q : a - 8 ≡ p = omega arith in
    let l : live (a - 8) ≡ live p = ap live q in
    inner_is a (live (a - 8)) (omega arith) (omega arith) ∙ ap (λ (z : ℕ). z - 16) l

pub affix_same : (live live' : ℕ → ℕ) → ((x : ℕ) → live' x ≡ live x) → (a : ℕ) → affix_live live' a ≡ affix_live live a
affix_same live live' e a = ap (λ (l : ℕ). cond (nat_le 8 a) (cond (nat_le 24 l) (l - 16) 0) 0) (e (a - 8))

-- an address in a block above is in the one below
pub in_outer : (live : ℕ → ℕ) (a x : ℕ) → In a (affix_live live a) x → In (a - 8) (live (a - 8)) x
in_outer live a x i =
    let f = i.from in
    let b = i.below in
    let o = outer live a (omega arith) in
    let l = o.low in
    let s = o.is in
    record { from = omega arith; below = omega arith }

-- and so are its marks
pub in_head : (live : ℕ → ℕ) (a x : ℕ) → 0 < affix_live live a → In (a - 8) 8 x → In (a - 8) (live (a - 8)) x
in_head live a x h i = let o = outer live a h in let l = o.long in let b = i.below in record { from = i.from; below = omega arith }

pub in_tail : (live : ℕ → ℕ) (a x : ℕ) → 0 < affix_live live a → In (a + affix_live live a) 8 x → In (a - 8) (live (a - 8)) x
in_tail live a x h i =
    let o = outer live a h in
    let low = o.low in
    let l = o.long in
    let s = o.is in
    let f = i.from in
    let b = i.below in
    record { from = omega arith; below = omega arith }

pub covered_outer : (live : ℕ → ℕ) (a c : ℕ) → 0 < c → Covered (affix_live live) a c → Covered live a c
covered_outer live a c z k =
    let f = k.from in
    let t = k.to in
    let o = outer live k.start (omega arith) in
    let low = o.low in
    let s = o.is in
    record { start = k.start - 8; from = omega arith; to = omega arith }

-- where a block below covers an address, a block above does only between its marks
pub record Between (start length a b : ℕ) : Type 0 where
  pub at : b ≡ start + 8
  pub long : 24 ≤ length
  pub from : start + 8 ≤ a
  pub to : a < start + length - 8

pub between : (m : Meaning) → Lawful m → (a start length b : ℕ) → m.live start ≡ length → In start length a → In b (affix_live m.live b) a → Between start length a b
between m w a start length b e i j =
    let f = j.from in
    let t = j.below in
    let o = outer m.live b (omega arith) in
    let low = o.low in
    let long = o.long in
    let is = o.is in
    let s : b - 8 ≡ start = same_start m w (b - 8) start a (in_outer m.live b a j) (record { from = i.from; below = let z = i.below in omega arith }) in
    let l : m.live (b - 8) ≡ length = ap m.live s ∙ e in
    record { at = omega arith; long = omega arith; from = omega arith; to = omega arith }

-- the block below an offered one
pub record Framed (m : Meaning) (n : ℕ) (b : Block) : Type 0 where
  pub outer : Block
  pub offer : m.offer (n + 16) ≡ Ok outer
  pub at : b.0 ≡ outer.0 + 8
  pub long : b.1 ≡ outer.1 - 16
  pub enough : 24 ≤ outer.1
  pub size : n + 16 ≤ outer.1

-- a block offered below has room for both marks, and its end is a small number
pub outer_fits : (m : Meaning) → Lawful m → (n : ℕ) (b : Block) → 1 ≤ n → m.offer (n + 16) ≡ Ok b → (24 ≤ b.1) × (b.0 + b.1 ≤ 1048576)
outer_fits m w n b some o =
    let s = w.offered (n + 16) b o in
    let l = w.enough (n + 16) b o in
    let e = s.length in
    let t = s.within in
    let p = w.span_bound in
    (omega arith, omega arith)

-- what is known of a block below, from the steps that led to it: the test of the size, the answer below, and that it went up as a block
pub record Asked (n q : ℕ) (r : Result Block Fault) (b : Block) : Type 0 where
  pub same : q ≡ n
  pub some : 1 ≤ q
  pub most : q ≤ 32768
  pub is : r ≡ Ok b
  pub long : 24 ≤ b.1
  pub ends : b.0 + b.1 ≤ 1048576

pub asked : (m : Meaning) → Lawful m → (n q : ℕ) (t : Result ℕ Fault) (r r' : Result Block Fault) (b : Block) → t ≡ admitted 32768 AffixK n → t ≡ Ok q → r ≡ m.offer (q + 16) → r' ≡ up r → r' ≡ Ok b → Asked n q r b
asked m w n q t r r' b et eq er eu eb =
    let ok = sym et ∙ eq in
    let same = admitted_same 32768 AffixK n q ok in
    let some = admitted_some 32768 AffixK n q ok in
    let most = admitted_most 32768 AffixK n q ok in
    let is = up_ok r b (sym eu ∙ eb) in
    let f = outer_fits m w q b (omega arith) (sym er ∙ is) in
    record { same = same; some = omega arith; most = omega arith; is = is; long = f.0; ends = f.1 }

inner_of : (r : Result Block Fault) (b : Block) → and_then (up r) inner_block ≡ Ok b → (c : Block) × ((r ≡ Ok c) × (◌≡◌ {A = Block} (c.0 + 8, c.1 - 16) b))
inner_of (Ok c) b e = (c, (refl, cc))
inner_of (Err f) b e = absurd (let z : ◌≡◌ {A = ℕ} 0 1 = cc in let w : ⊥ = omega arith in w)

inner_refused : (r : Result Block Fault) (g : Fault) → ((f : Fault) → r ≡ Err f → HeapFault f) → and_then (up r) inner_block ≡ Err g → HeapFault g
inner_refused (Ok c) g h e = absurd (let z : ◌≡◌ {A = ℕ} 0 1 = cc in let w : ⊥ = omega arith in w)
inner_refused (Err f) g h e = up_fault (Err f) g h e

pub framed : (m : Meaning) → Lawful m → (n : ℕ) (b : Block) → affix_offer m n ≡ Ok b → Framed m n b
framed m w n b e =
    let p = admits 32768 AffixK (λ q. and_then (up (m.offer (q + 16))) inner_block) n b e in
    let some = p.some in
    let i = inner_of (m.offer (n + 16)) b p.answer in
    let c = i.0 in
    let o = i.1.0 in
    record {
      outer = c;
      offer = o;
      at = sym (ap (λ (z : Block). z.0) i.1.1);
      long = sym (ap (λ (z : Block). z.1) i.1.1);
      enough = (outer_fits m w n c some o).0;
      size = w.enough (n + 16) c o;
    }

frames_apart : (c p : Block) → 24 ≤ c.1 → 24 ≤ p.1 → Apart c p → Apart (c.0 + 8, c.1 - 16) (p.0 + 8, p.1 - 16)
frames_apart c p k l (inl h) = inl (omega arith)
frames_apart c p k l (inr h) = inr (omega arith)

pub affixed_lawful : (m : Meaning) → Lawful m → Lawful (affixed m)
affixed_lawful m w = record {
  kind = (lit≤ tt, lit≤ tt);
  span_eighth = w.span_eighth;
  span_bound = w.span_bound;
  sits = λ a h.
      let o = outer m.live a h in
      let low = o.low in
      let long = o.long in
      let is = o.is in
      let s = w.sits (a - 8) (omega arith) in
      let sa = s.address in
      let sl = s.length in
      let sw = s.within in
      record { address = omega arith; length = omega arith; some = omega arith; within = omega arith };
  apart = λ a b h l k.
      let oa = outer m.live a h in
      let ob = outer m.live b k in
      let la = oa.low in
      let lb = ob.low in
      let na = oa.long in
      let nb = ob.long in
      let ia = oa.is in
      let z = w.apart (a - 8) (b - 8) (omega arith) (omega arith) (omega arith) in
      omega arith;
  offered = λ n b e.
      let f = framed m w n b e in
      let at = f.at in
      let long = f.long in
      let enough = f.enough in
      let s = w.offered (n + 16) f.outer f.offer in
      let sa = s.address in
      let sl = s.length in
      let sw = s.within in
      record { address = omega arith; length = omega arith; some = omega arith; within = omega arith };
  enough = λ n b e. let f = framed m w n b e in let long = f.long in let size = f.size in omega arith;
  unused = λ n b e a h.
      let f = framed m w n b e in
      let o = outer m.live a h in
      let low = o.low in
      let long = o.long in
      let is = o.is in
      let u = w.unused (n + 16) f.outer f.offer (a - 8) (omega arith) in
      let q = frames_apart f.outer (a - 8, m.live (a - 8)) f.enough long u in
      let fa = f.at in
      let fl = f.long in
      ⊎_elim (λ (z : f.outer.0 + 8 + (f.outer.1 - 16) ≤ a - 8 + 8). inl (omega arith)) (λ (z : a - 8 + 8 + (m.live (a - 8) - 16) ≤ f.outer.0 + 8). inr (omega arith)) q;
  zero = refl;
  large = λ n h. admits_large 32768 AffixK (λ q. and_then (up (m.offer (q + 16))) inner_block) n (lit≤ tt) h;
  refused = λ n g e. admits_refused 32768 AffixK (λ q. and_then (up (m.offer (q + 16))) inner_block) n (lit≤ tt, lit≤ tt) (λ f q. inner_refused (m.offer (n + 16)) f (w.refused (n + 16)) q) g e;
}

affix_offers : (m m' : Meaning) → SameOffers m m' → SameOffers (affixed m) (affixed m')
affix_offers m m' s n =
    and_then_same (admitted 32768 AffixK n) (λ q. and_then (up (m'.offer (q + 16))) inner_block) (λ q. and_then (up (m.offer (q + 16))) inner_block)
    (λ q. let o = s (q + 16) in cc)

pub affixed_stays : (m m' : Meaning) → Stays m m' → Stays (affixed m) (affixed m')
affixed_stays m m' s = record {
  kind = refl;
  span = s.span;
  live = affix_same m.live m'.live s.live;
  byte = λ a x i. s.byte (a - 8) x (in_outer m.live a x i);
}

pub affixed_same : (m m' : Meaning) → Same m m' → Same (affixed m) (affixed m')
affixed_same m m' s = (affixed_stays m m' s.0, affix_offers m m' s.1)

-- a heap that stays keeps its marks
pub whole_stays : (m m' : Meaning) → Stays m m' → AllWhole m → AllWhole m'
whole_stays m m' s k a h =
    let e = affix_same m.live m'.live s.live a in
    let h' : 0 < affix_live m.live a = omega arith in
    let w = k a h' in
    record {
      head = λ x i. s.byte (a - 8) x (in_head m.live a x h' i) ∙ w.head x i;
      tail = λ x i. let i' : In (a + affix_live m.live a) 8 x = subst (λ (z : ℕ). In (a + z) 8 x) e i in s.byte (a - 8) x (in_tail m.live a x h' i') ∙ w.tail x i';
    }

pub none_whole : (m : Meaning) → NothingLive m → AllWhole m
none_whole m z a h = absurd (let o = outer m.live a h in let l = o.long in let e = z (a - 8) in let q : ⊥ = omega arith in q)

-- A fill between the marks.
module _ (m m' : Meaning) (w : Lawful m) (a c v : ℕ) (some : 0 < c) (i : Covered (affix_live m.live) a c) where
  -- it reaches no mark
  off_marks : (b x : ℕ) → 0 < affix_live m.live b → In (b - 8) (m.live (b - 8)) x → ((x < b) ⊎ (b + affix_live m.live b ≤ x)) → In a c x → ⊥
  off_marks b x h j out k =
      let s = i.start in
      let f = i.from in
      let t = i.to in
      let o = outer m.live s (omega arith) in
      let low = o.low in
      let long = o.long in
      let is = o.is in
      let kf = k.from in
      let kb = k.below in
      let p = outer m.live b h in
      let plow = p.low in
      let e : b - 8 ≡ s - 8 = same_start m w (b - 8) (s - 8) x j (record { from = omega arith; below = omega arith }) in
      let q : b ≡ s = omega arith in
      let l : affix_live m.live b ≡ affix_live m.live s = ap (affix_live m.live) q in
      ⊎_elim (λ (z : x < b). let y : ⊥ = omega arith in y) (λ (z : b + affix_live m.live b ≤ x). let y : ⊥ = omega arith in y) out

  pub affixed_filled : Filled a c v m m' → Filled a c v (affixed m) (affixed m')
  affixed_filled s = record {
    kind = refl;
    span = s.span;
    live = affix_same m.live m'.live s.live;
    set = s.set;
    byte = λ b x j out. s.byte (b - 8) x (in_outer m.live b x j) out;
    offers = affix_offers m m' s.offers;
  }

  pub whole_filled : Filled a c v m m' → AllWhole m → AllWhole m'
  whole_filled s k b h =
      let e = affix_same m.live m'.live s.live b in
      let h' : 0 < affix_live m.live b = omega arith in
      let o = outer m.live b h' in
      let low = o.low in
      let q = k b h' in
      record {
        head = λ x j.
            let u = in_head m.live b x h' j in
            let hi = j.below in
            s.byte (b - 8) x u (off_marks b x h' u (inl (omega arith))) ∙ q.head x j;
        tail = λ x j.
            let j' : In (b + affix_live m.live b) 8 x = subst (λ (z : ℕ). In (b + z) 8 x) e j in
            let u = in_tail m.live b x h' j' in
            let lo = j'.from in
            s.byte (b - 8) x u (off_marks b x h' u (inr lo)) ∙ q.tail x j';
      }

pub affixed_fills : (m m' : Meaning) → Lawful m → (a c v : ℕ) (r : Result (Unit {0}) Fault) → 0 < c → Covered (affix_live m.live) a c → Fills a c v m m' r → Fills a c v (affixed m) (affixed m') (own AffixK a r)
affixed_fills m m' w a c v (Ok t) z i s = affixed_filled m m' w a c v z i s
affixed_fills m m' w a c v (Err f) z i s = affixed_same m m' s

pub whole_fills : (m m' : Meaning) → Lawful m → (a c v : ℕ) (r : Result (Unit {0}) Fault) → 0 < c → Covered (affix_live m.live) a c → Fills a c v m m' r → AllWhole m → AllWhole m'
whole_fills m m' w a c v (Ok t) z i s = whole_filled m m' w a c v z i s
whole_fills m m' w a c v (Err f) z i s = whole_stays m m' s.0

cond_none : (t : Bool) → cond t (cond (nat_le 24 0) (0 - 16) 0) 0 ≡ 0
cond_none true = refl
cond_none false = refl

below_8 : (live : ℕ → ℕ) (x : ℕ) → x < 8 → affix_live live x ≡ 0
below_8 live x l = cond-false (nat_le 8 x) (cond (nat_le 24 (live (x - 8))) (live (x - 8) - 16) 0) 0 (lt-leb 8 x l)

-- A free of the whole block.
module _ (m m' : Meaning) (a : ℕ) (h : 0 < affix_live m.live a) (s : Freed (a - 8) m m') where
  free_live : (x : ℕ) → affix_live m'.live x ≡ cond (x == a) 0 (affix_live m.live x)
  free_live x =
      let low = (outer m.live a h).low in
      let e = s.live (x - 8) in
      ⊎_elim
      (λ (q : x ≡ a).
      let z : m'.live (x - 8) ≡ 0 = e ∙ cond-true (x - 8 == a - 8) 0 (m.live (x - 8)) (eq-eqb (x - 8) (a - 8) (omega arith)) in
      ap (λ (l : ℕ). cond (nat_le 8 x) (cond (nat_le 24 l) (l - 16) 0) 0) z ∙ cond_none (nat_le 8 x) ∙ sym (cond-true (x == a) 0 (affix_live m.live x) (eq-eqb x a q)))
      (λ (q : x ≡ a → ⊥).
      sym (cond-false (x == a) 0 (affix_live m.live x) (ne_eqb x a q) ∙
      ⊎_elim
      (λ (l : x < 8). below_8 m.live x l ∙ sym (below_8 m'.live x l))
      (λ (l : 8 ≤ x). ap (λ (n : ℕ). cond (nat_le 8 x) (cond (nat_le 24 n) (n - 16) 0) 0) (sym (e ∙ cond-false (x - 8 == a - 8) 0 (m.live (x - 8)) (ne_eqb (x - 8) (a - 8) (λ y. q (omega arith))))))
      (cases_lt x 8)))
      (cases_eq x a)

  pub affixed_freed : Freed a (affixed m) (affixed m')
  affixed_freed = record { kind = refl; span = s.span; live = free_live; byte = λ b x i. s.byte (b - 8) x (in_outer m'.live b x i) }

  -- what is live afterwards was so before, and as long
  still : (b : ℕ) → 0 < affix_live m'.live b → affix_live m'.live b ≡ affix_live m.live b
  still b q =
      let e = free_live b in
      ⊎_elim
      (λ (z : b ≡ a). absurd (let y = cond-true (b == a) 0 (affix_live m.live b) (eq-eqb b a z) in let n : ⊥ = omega arith in n))
      (λ (z : b ≡ a → ⊥). e ∙ cond-false (b == a) 0 (affix_live m.live b) (ne_eqb b a z))
      (cases_eq b a)

  pub whole_freed : AllWhole m → AllWhole m'
  whole_freed k b q =
      let e = still b q in
      let w = k b (omega arith) in
      record {
        head = λ x i. s.byte (b - 8) x (in_head m'.live b x q i) ∙ w.head x i;
        tail = λ x i. s.byte (b - 8) x (in_tail m'.live b x q i) ∙ w.tail x (subst (λ (z : ℕ). In (b + z) 8 x) e i);
      }

-- A free of a block that is there is accepted.
pub affixed_frees : (k : Kind) (m m' : Meaning) (a : ℕ) (r : Result (Unit {0}) Fault) → 0 < affix_live m.live a → MayFree k m.live (a - 8) r → Frees (a - 8) m m' r
    → MayFree AffixK (affix_live m.live) a (own AffixK a r) × Frees a (affixed m) (affixed m') (own AffixK a r)
affixed_frees k m m' a (Ok t) h q s = (h, affixed_freed m m' a h s)
affixed_frees k m m' a (Err f) h q s = absurd (let o = outer m.live a h in let l = o.long in let e = q.0 in let z : ⊥ = omega arith in z)

pub whole_frees : (k : Kind) (m m' : Meaning) (a : ℕ) (r : Result (Unit {0}) Fault) → 0 < affix_live m.live a → Frees (a - 8) m m' r → AllWhole m → AllWhole m'
whole_frees k m m' a (Ok t) h s = whole_freed m m' a h s
whole_frees k m m' a (Err f) h s = whole_stays m m' s.0

pub sent_free : (a : ℕ) (r : Result (Unit {0}) Fault) (h : History) → sent_affixed (after_free a r h) ≡ after_free (a - 8) r (sent_affixed h)
sent_free a (Ok t) h = refl
sent_free a (Err f) h = refl

pub sent_fill : (a c v : ℕ) (r : Result (Unit {0}) Fault) (h : History) → sent_affixed (after_fill a c v r h) ≡ after_fill a c v r (sent_affixed h)
sent_fill a c v (Ok t) h = refl
sent_fill a c v (Err f) h = refl

-- A grant of the longer block, and its two marks.
module _ (m m₁ m₂ m₃ : Meaning) (b : Block) (w : Lawful m) (sits : Sits m.span b) (long : 24 ≤ b.1) (unused : (a : ℕ) → 0 < m.live a → Apart b (a, m.live a)) (g : Granted b.0 b.1 m m₁)
    (f₁ : Filled b.0 8 90 m₁ m₂) (f₂ : Filled (b.0 + b.1 - 8) 8 90 m₂ m₃) where
  grant_below : (x : ℕ) → m₃.live x ≡ cond (x == b.0) b.1 (m.live x)
  grant_below x = f₂.live x ∙ f₁.live x ∙ g.live x

  -- a byte of a block that was live before is in neither mark
  pub old_byte : (p x : ℕ) → In p (m.live p) x → m₃.byte x ≡ m.byte x
  old_byte p x i =
      let lo = i.from in
      let hi = i.below in
      let pos : 0 < m.live p = omega arith in
      let ne : p ≡ b.0 → ⊥ = λ q. ⊎_elim (λ (z : b.0 + b.1 ≤ p). let y : ⊥ = omega arith in y) (λ (z : p + m.live p ≤ b.0). let y : ⊥ = omega arith in y) (unused p pos) in
      let here : m₁.live p ≡ m.live p = g.live p ∙ cond-false (p == b.0) b.1 (m.live p) (ne_eqb p b.0 ne) in
      let i₁ : In p (m₁.live p) x = subst (λ (z : ℕ). In p z x) (sym here) i in
      let i₂ : In p (m₂.live p) x = subst (λ (z : ℕ). In p z x) (sym (f₁.live p)) i₁ in
      let out : (y : ℕ) → b.0 ≤ y → y + 8 ≤ b.0 + b.1 → In y 8 x → ⊥ = λ y yl yh j.
      let jf = j.from in
      let jb = j.below in
      ⊎_elim (λ (z : b.0 + b.1 ≤ p). let q : ⊥ = omega arith in q) (λ (z : p + m.live p ≤ b.0). let q : ⊥ = omega arith in q) (unused p pos) in
      f₂.byte p x i₂ (out (b.0 + b.1 - 8) (omega arith) (omega arith)) ∙ f₁.byte p x i₁ (out b.0 (omega arith) (omega arith)) ∙ g.byte p x i

  new_live : m₂.live b.0 ≡ b.1
  new_live = f₁.live b.0 ∙ g.live b.0 ∙ cond-true (b.0 == b.0) b.1 (m.live b.0) (eq-eqb b.0 b.0 refl)

  -- a byte between the marks, and the first mark, under the second
  under_tail : (x : ℕ) → In b.0 (b.1 - 8) x → m₃.byte x ≡ m₂.byte x
  under_tail x i =
      let lo = i.from in
      let hi = i.below in
      f₂.byte b.0 x (subst (λ (z : ℕ). In b.0 z x) (sym new_live) (record { from = lo; below = omega arith })) (λ j. let jf = j.from in let z : ⊥ = omega arith in z)

  grant_live : (x : ℕ) → affix_live m₃.live x ≡ cond (x == b.0 + 8) (b.1 - 16) (affix_live m.live x)
  grant_live x =
      ⊎_elim
      (λ (q : x ≡ b.0 + 8).
      let e : m₃.live b.0 ≡ b.1 = f₂.live b.0 ∙ new_live in
      inner_at m₃.live x b.0 q (omega arith) ∙ ap (λ (z : ℕ). z - 16) e ∙ sym (cond-true (x == b.0 + 8) (b.1 - 16) (affix_live m.live x) (eq-eqb x (b.0 + 8) q)))
      (λ (q : x ≡ b.0 + 8 → ⊥).
      sym (cond-false (x == b.0 + 8) (b.1 - 16) (affix_live m.live x) (ne_eqb x (b.0 + 8) q) ∙
      ⊎_elim
      (λ (l : x < 8). below_8 m.live x l ∙ sym (below_8 m₃.live x l))
      (λ (l : 8 ≤ x). ap (λ (n : ℕ). cond (nat_le 8 x) (cond (nat_le 24 n) (n - 16) 0) 0) (sym (grant_below (x - 8) ∙ cond-false (x - 8 == b.0) b.1 (m.live (x - 8)) (ne_eqb (x - 8) b.0 (λ y. q (omega arith))))))
      (cases_lt x 8)))
      (cases_eq x (b.0 + 8))

  pub affixed_granted : Granted (b.0 + 8) (b.1 - 16) (affixed m) (affixed m₃)
  affixed_granted = record {
    kind = refl;
    span = f₂.span ∙ f₁.span ∙ g.span;
    live = grant_live;
    clear = λ x i.
        let lo = i.from in
        let hi = i.below in
        let i₁ : In b.0 (m₁.live b.0) x = subst (λ (z : ℕ). In b.0 z x) (sym (g.live b.0 ∙ cond-true (b.0 == b.0) b.1 (m.live b.0) (eq-eqb b.0 b.0 refl))) (record { from = omega arith; below = omega arith }) in
        under_tail x (record { from = omega arith; below = omega arith })
        ∙ f₁.byte b.0 x i₁ (λ j. let jb = j.below in let z : ⊥ = omega arith in z)
        ∙ g.clear x (record { from = omega arith; below = omega arith });
    byte = λ p x i. old_byte (p - 8) x (in_outer m.live p x i);
  }

  pub whole_granted : AllWhole m → AllWhole m₃
  whole_granted k p h =
      let e = grant_live p in
      ⊎_elim
      (λ (q : p ≡ b.0 + 8).
      let l : affix_live m₃.live p ≡ b.1 - 16 = e ∙ cond-true (p == b.0 + 8) (b.1 - 16) (affix_live m.live p) (eq-eqb p (b.0 + 8) q) in
      record {
        head = λ x i.
            let lo = i.from in
            let hi = i.below in
            under_tail x (record { from = omega arith; below = omega arith }) ∙ f₁.set x (record { from = omega arith; below = omega arith });
        tail = λ x i. let lo = i.from in let hi = i.below in f₂.set x (record { from = omega arith; below = omega arith });
      })
      (λ (q : p ≡ b.0 + 8 → ⊥).
      let l : affix_live m₃.live p ≡ affix_live m.live p = e ∙ cond-false (p == b.0 + 8) (b.1 - 16) (affix_live m.live p) (ne_eqb p (b.0 + 8) q) in
      let h' : 0 < affix_live m.live p = omega arith in
      let o = k p h' in
      record {
        head = λ x i. old_byte (p - 8) x (in_head m.live p x h' i) ∙ o.head x i;
        tail = λ x i. let i' : In (p + affix_live m.live p) 8 x = subst (λ (z : ℕ). In (p + z) 8 x) l i in old_byte (p - 8) x (in_tail m.live p x h' i') ∙ o.tail x i';
      })
      (cases_eq p (b.0 + 8))

-- the same from what the three calls below answered
module _ (m m₁ m₂ m₃ : Meaning) (n : ℕ) (b : Block) (r : Result Block Fault) (r₁ r₂ : Result (Unit {0}) Fault) (w : Lawful m) (some : 1 ≤ n) (e : r ≡ m.offer (n + 16)) (is : r ≡ Ok b) (a : Allocates m m₁ r)
    (q₁ : MayFill m₁.kind m₁.live b.0 8 r₁) (s₁ : Fills b.0 8 90 m₁ m₂ r₁) (q₂ : MayFill m₂.kind m₂.live (b.0 + b.1 - 8) 8 r₂) (s₂ : Fills (b.0 + b.1 - 8) 8 90 m₂ m₃ r₂) where
  grant_sits : Sits m.span b
  grant_sits = w.offered (n + 16) b (sym e ∙ is)

  pub grant_long : 24 ≤ b.1
  grant_long = (outer_fits m w n b some (sym e ∙ is)).0

  grant_is : Granted b.0 b.1 m m₁
  grant_is = subst (λ (z : Result Block Fault). Allocates m m₁ z) is a

  head_live : m₁.live b.0 ≡ b.1
  head_live = grant_is.live b.0 ∙ cond-true (b.0 == b.0) b.1 (m.live b.0) (eq-eqb b.0 b.0 refl)

  head_covered : Covered m₁.live b.0 8
  head_covered = let l = head_live in let g = grant_long in record { start = b.0; from = omega arith; to = omega arith }

  head_filled : Filled b.0 8 90 m₁ m₂
  head_filled = surely_filled m₁.kind m₁.live b.0 8 90 m₁ m₂ r₁ (lit≤ tt) head_covered q₁ s₁

  tail_covered : Covered m₂.live (b.0 + b.1 - 8) 8
  tail_covered = let l = head_filled.live b.0 ∙ head_live in let g = grant_long in record { start = b.0; from = omega arith; to = omega arith }

  tail_filled : Filled (b.0 + b.1 - 8) 8 90 m₂ m₃
  tail_filled = surely_filled m₂.kind m₂.live (b.0 + b.1 - 8) 8 90 m₂ m₃ r₂ (lit≤ tt) tail_covered q₂ s₂

  pub marked_granted : Granted (b.0 + 8) (b.1 - 16) (affixed m) (affixed m₃)
  marked_granted = affixed_granted m m₁ m₂ m₃ b w grant_sits grant_long (w.unused (n + 16) b (sym e ∙ is)) grant_is head_filled tail_filled

  pub marked_whole : AllWhole m → AllWhole m₃
  marked_whole = whole_granted m m₁ m₂ m₃ b w grant_sits grant_long (w.unused (n + 16) b (sym e ∙ is)) grant_is head_filled tail_filled

  pub marked_offer : n ≤ 32768 → affix_offer m n ≡ Ok (b.0 + 8, b.1 - 16)
  marked_offer most = in_range most ∙ ap (λ (z : Result Block Fault). and_then (up z) inner_block) (sym e ∙ is)
    where
      in_range : n ≤ 32768 → affix_offer m n ≡ and_then (up (m.offer (n + 16))) inner_block
      in_range most = ap (λ (z : Result ℕ Fault). and_then z (λ q. and_then (up (m.offer (q + 16))) inner_block)) (let y : admitted 32768 AffixK n ≡ Ok n = grind arith in y)

  pub marked_sent : (h : History) → after_fill (b.0 + b.1 - 8) 8 90 r₂ (after_fill b.0 8 90 r₁ (after_allocate (n + 16) r (sent_affixed h))) ≡ sent_affixed (granted n (b.0 + 8) (b.1 - 16) ∷ h)
  marked_sent h =
      let l = grant_long in
      let z₂ = surely_entered m₂.kind m₂.live (b.0 + b.1 - 8) 8 90 r₂ (after_fill b.0 8 90 r₁ (after_allocate (n + 16) r (sent_affixed h))) (lit≤ tt) tail_covered q₂ in
      let z₁ = surely_entered m₁.kind m₁.live b.0 8 90 r₁ (after_allocate (n + 16) r (sent_affixed h)) (lit≤ tt) head_covered q₁ in
      let z₀ : after_allocate (n + 16) r (sent_affixed h) ≡ granted (n + 16) b.0 b.1 ∷ sent_affixed h = ap (λ (z : Result Block Fault). after_allocate (n + 16) z (sent_affixed h)) is in
      let e₁ : b.0 + b.1 - 8 ≡ b.0 + 8 + (b.1 - 16) = omega arith in
      let e₂ : b.0 ≡ b.0 + 8 - 8 = omega arith in
      let e₃ : b.1 ≡ b.1 - 16 + 16 = omega arith in
      z₂ ∙ ap (λ (q : History). filled (b.0 + b.1 - 8) 8 90 ∷ q) (z₁ ∙ ap (λ (q : History). filled b.0 8 90 ∷ q) z₀)
      ∙ ap (λ (x : ℕ). filled x 8 90 ∷ (filled b.0 8 90 ∷ (granted (n + 16) b.0 b.1 ∷ sent_affixed h))) e₁
      ∙ ap (λ (x : ℕ). filled (b.0 + 8 + (b.1 - 16)) 8 90 ∷ (filled x 8 90 ∷ (granted (n + 16) x b.1 ∷ sent_affixed h))) e₂
      ∙ ap (λ (x : ℕ). filled (b.0 + 8 + (b.1 - 16)) 8 90 ∷ (filled (b.0 + 8 - 8) 8 90 ∷ (granted (n + 16) (b.0 + 8 - 8) x ∷ sent_affixed h))) e₃

-- both marks of a block lie in the block below, well within the largest span
pub head_inside : (m : Meaning) (a : ℕ) → 0 < affix_live m.live a → Covered m.live (a - 8) 8
head_inside m a h = let o = outer m.live a h in let l = o.long in record { start = a - 8; from = omega arith; to = omega arith }

pub tail_inside : (m : Meaning) (a : ℕ) → 0 < affix_live m.live a → Covered m.live (a + affix_live m.live a) 8
tail_inside m a h = let o = outer m.live a h in let low = o.low in let l = o.long in let is = o.is in record { start = a - 8; from = omega arith; to = omega arith }

pub tail_ends : (m : Meaning) → Lawful m → (a : ℕ) → 0 < affix_live m.live a → a + affix_live m.live a + 8 ≤ 1048576
tail_ends m w a h =
    let o = outer m.live a h in
    let low = o.low in
    let l = o.long in
    let is = o.is in
    let s = (w.sits (a - 8) (omega arith)).within in
    let p = w.span_bound in
    omega arith

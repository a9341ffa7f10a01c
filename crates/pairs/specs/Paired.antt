-- A pair's law.
use Rattle.std.specs.Prelude.{◌≡◌, ℕ, ◌+◌, ◌-◌, ◌%◌, ◌<◌, ◌≤◌, Bool, true, false, cond, leb, ◌⊎◌, Ok, Err, Result, nat_le, refl}
use Rattle.std.proofs.Common.{sym, ◌∙◌, ap, subst, inl, inr, ⊎_elim, lit≤, arith}
use Rattle.heap.specs.declared.fault.Fault.{Fault}
use Rattle.heap.specs.declared.fault.Kind.{Kind}
use Rattle.heap.specs.declared.fault.Kind.TheVariants.{Segregator as SegregatorK, Fallback as FallbackK}
use Rattle.heap.specs.declared.fault.Cause.TheVariants.{Shut}
use Rattle.heap.specs.Faults.{raised, up, and_then}
use Rattle.heap.specs.Meaning.{Meaning, Block, Lawful, HeapKind, HeapFault, Sits, Apart}
use Rattle.heap.proofs.Offers.{admits, admits_large, admits_refused, raised_fault, up_ok, up_fault}
use Rattle.pairs.specs.Pairs.{both_fit, pair_span, pair_live, moved_up, first_offer, second_offer, Choice, by_size, by_refusal, pair_offer, paired, segregated, fallen_back}
use Rattle.pairs.specs.Shares.{by_share}
use Rattle.std.proofs.lemmas.Bool.{cond-true, cond-false, leb-true, cases_Bool}

-- a choice that always takes one of the two answers
abbrev pub Picks : Choice → Type 0
Picks choose = (n : ℕ) (f g : Result Block Fault) → (choose n f g ≡ f) ⊎ (choose n f g ≡ g)

by_size_picks : (t : ℕ) → Picks (by_size t)
by_size_picks t n f g = ⊎_elim (λ (e : leb n t ≡ true). inl (cond-true (nat_le n t) f g e)) (λ (e : leb n t ≡ false). inr (cond-false (nat_le n t) f g e)) (cases_Bool (nat_le n t))

by_refusal_picks : Picks by_refusal
by_refusal_picks n (Ok b) g = inl refl
by_refusal_picks n (Err f) g = inr refl

-- a block of the second as it was offered there
pub record Moved (o : Bool) (s : ℕ) (r : Result Block Fault) (b : Block) : Type 0 where
  pub block : Block
  pub opened : o ≡ true
  pub offer : r ≡ Ok block
  pub at : b.0 ≡ s + block.0
  pub long : b.1 ≡ block.1

moved : (o : Bool) (s : ℕ) (k : Kind) (n : ℕ) (r : Result Block Fault) (b : Block) → cond o (and_then (up r) (moved_up s)) (Err (raised Shut k n)) ≡ Ok b → Moved o s r b
moved true s k n (Ok c) b e = let q : ◌≡◌ {A = Block} (s + c.0, c.1) b = cc in record { block = c; opened = refl; offer = refl; at = sym (ap (λ (z : Block). z.0) q); long = sym (ap (λ (z : Block). z.1) q) }
moved true s k n (Err f) b e = absurd (let z : ◌≡◌ {A = ℕ} 0 1 = cc in let w : ⊥ = omega arith in w)
moved false s k n r b e = absurd (let z : ◌≡◌ {A = ℕ} 0 1 = cc in let w : ⊥ = omega arith in w)

second_fault : (o : Bool) (s : ℕ) (k : Kind) (n : ℕ) (r : Result Block Fault) (g : Fault) → HeapKind k → ((f : Fault) → r ≡ Err f → HeapFault f) → cond o (and_then (up r) (moved_up s)) (Err (raised Shut k n)) ≡ Err g → HeapFault g
second_fault true s k n (Ok c) g q h e = absurd (let z : ◌≡◌ {A = ℕ} 0 1 = cc in let w : ⊥ = omega arith in w)
second_fault true s k n (Err f) g q h e = up_fault (Err f) g h e
second_fault false s k n r g q h e = subst HeapFault (let y : raised Shut k n ≡ g = cc in y) (raised_fault Shut k n tt q)

span_eighths : (o : Bool) (s t : ℕ) → s % 8 ≡ 0 → t % 8 ≡ 0 → (s + cond o t 0) % 8 ≡ 0
span_eighths true s t p q = omega arith
span_eighths false s t p q = omega arith

span_fits : (o : Bool) (s t : ℕ) → o ≡ nat_le (s + t) 1048576 → s ≤ 1048576 → s + cond o t 0 ≤ 1048576
span_fits true s t e p = leb-true (s + t) 1048576 (sym e)
span_fits false s t e p = omega arith

pub span_open : (m₁ m₂ : Meaning) → both_fit m₁.span m₂.span ≡ true → pair_span m₁ m₂ ≡ m₁.span + m₂.span
span_open m₁ m₂ e = ap (λ (z : ℕ). m₁.span + z) (cond-true (both_fit m₁.span m₂.span) m₂.span 0 e)

-- the first's blocks lie below its span
pub bounded : (m : Meaning) → Lawful m → (b : ℕ) → 0 < m.live b → b + m.live b ≤ m.span
bounded m w b h = (w.sits b h).within

module _ (k : Kind) (choose : Choice) (picks : Picks choose) (m₁ m₂ : Meaning) where
  -- an offered block is one that the first or the second offers
  by_offer : (C : Type 0) (n : ℕ) (b : Block) → pair_offer k choose m₁ m₂ n ≡ Ok b → (m₁.offer n ≡ Ok b → C) → (Moved (both_fit m₁.span m₂.span) m₁.span (m₂.offer n) b → C) → C
  by_offer C n b e first second =
      let p = (admits 32768 k (λ q. choose q (first_offer m₁ q) (second_offer k m₁ m₂ q)) n b e).answer in
      ⊎_elim
      (λ (z : choose n (first_offer m₁ n) (second_offer k m₁ m₂ n) ≡ first_offer m₁ n). first (up_ok (m₁.offer n) b (sym z ∙ p)))
      (λ (z : choose n (first_offer m₁ n) (second_offer k m₁ m₂ n) ≡ second_offer k m₁ m₂ n). second (moved (both_fit m₁.span m₂.span) m₁.span k n (m₂.offer n) b (sym z ∙ p)))
      (picks n (first_offer m₁ n) (second_offer k m₁ m₂ n))

  module _ (q : HeapKind k) (w₁ : Lawful m₁) (w₂ : Lawful m₂) where
    refusal : (n : ℕ) (f : Fault) → choose n (first_offer m₁ n) (second_offer k m₁ m₂ n) ≡ Err f → HeapFault f
    refusal n f e =
        ⊎_elim
        (λ (z : choose n (first_offer m₁ n) (second_offer k m₁ m₂ n) ≡ first_offer m₁ n). up_fault (m₁.offer n) f (w₁.refused n) (sym z ∙ e))
        (λ (z : choose n (first_offer m₁ n) (second_offer k m₁ m₂ n) ≡ second_offer k m₁ m₂ n). second_fault (both_fit m₁.span m₂.span) m₁.span k n (m₂.offer n) f q (w₂.refused n) (sym z ∙ e))
        (picks n (first_offer m₁ n) (second_offer k m₁ m₂ n))

    -- a block of a heap's shape has the pair's
    first_sits : (b : Block) → Sits m₁.span b → Sits (pair_span m₁ m₂) b
    first_sits b i = let t = i.within in record { address = i.address; length = i.length; some = i.some; within = omega arith }

    second_sits : (b c : Block) → both_fit m₁.span m₂.span ≡ true → b.0 ≡ m₁.span + c.0 → b.1 ≡ c.1 → Sits m₂.span c → Sits (pair_span m₁ m₂) b
    second_sits b c e at long i =
        let t = i.within in
        let u = span_open m₁ m₂ e in
        let p = i.address in
        let l = i.length in
        let z = i.some in
        let v = w₁.span_eighth in
        record { address = omega arith; length = omega arith; some = omega arith; within = omega arith }

    live_sits : (a : ℕ) → 0 < pair_live m₁ m₂ a → Sits (pair_span m₁ m₂) (a, pair_live m₁ m₂ a)
    live_sits a h =
        by_share m₁.span (both_fit m₁.span m₂.span) m₁.live m₂.live (Sits (pair_span m₁ m₂) (a, pair_live m₁ m₂ a)) a h
        (λ l e. subst (λ (z : ℕ). Sits (pair_span m₁ m₂) (a, z)) (sym e) (first_sits (a, m₁.live a) (w₁.sits a (omega arith))))
        (λ l p e. second_sits (a, pair_live m₁ m₂ a) (a - m₁.span, m₂.live (a - m₁.span)) p (omega arith) e (w₂.sits (a - m₁.span) (omega arith)))

    live_apart : (a b : ℕ) → 0 < pair_live m₁ m₂ a → a < b → 0 < pair_live m₁ m₂ b → a + pair_live m₁ m₂ a ≤ b
    live_apart a b h l k' =
        let side = by_share m₁.span (both_fit m₁.span m₂.span) m₁.live m₂.live (a + pair_live m₁ m₂ a ≤ b) in
        side a h
        (λ la ea. side b k'
        (λ lb eb. let z = w₁.apart a b (omega arith) l (omega arith) in omega arith)
        (λ lb _ eb. let z = bounded m₁ w₁ a (omega arith) in omega arith))
        (λ la _ ea. side b k'
        (λ lb eb. omega arith)
        (λ lb _ eb. let z = w₂.apart (a - m₁.span) (b - m₁.span) (omega arith) (omega arith) (omega arith) in omega arith))

    -- an offered block lies apart from a live one: both are the first's, or both the second's, or they lie in two shares
    live_unused : (n : ℕ) (b : Block) → pair_offer k choose m₁ m₂ n ≡ Ok b → (a : ℕ) → 0 < pair_live m₁ m₂ a → Apart b (a, pair_live m₁ m₂ a)
    live_unused n b e a h =
        let side = by_share m₁.span (both_fit m₁.span m₂.span) m₁.live m₂.live (Apart b (a, pair_live m₁ m₂ a)) a h in
        by_offer (Apart b (a, pair_live m₁ m₂ a)) n b e
        (λ f. side
        (λ l ea. subst (λ (z : ℕ). Apart b (a, z)) (sym ea) (w₁.unused n b f a (omega arith)))
        (λ l _ ea. let z = (w₁.offered n b f).within in inl (omega arith)))
        (λ f.
        let at = f.at in
        let long = f.long in
        side
        (λ l ea. let z = bounded m₁ w₁ a (omega arith) in inr (omega arith))
        (λ l _ ea.
        ⊎_elim
        (λ (z : f.block.0 + f.block.1 ≤ a - m₁.span). inl (omega arith))
        (λ (z : a - m₁.span + m₂.live (a - m₁.span) ≤ f.block.0). inr (omega arith))
        (w₂.unused n f.block f.offer (a - m₁.span) (omega arith))))

    pub paired_lawful : Lawful (paired k choose m₁ m₂)
    paired_lawful = record {
      kind = q;
      span_eighth = span_eighths (both_fit m₁.span m₂.span) m₁.span m₂.span w₁.span_eighth w₂.span_eighth;
      span_bound = span_fits (both_fit m₁.span m₂.span) m₁.span m₂.span refl w₁.span_bound;
      sits = live_sits;
      apart = live_apart;
      offered = λ n b e. by_offer (Sits (pair_span m₁ m₂) b) n b e (λ f. first_sits b (w₁.offered n b f)) (λ f. second_sits b f.block f.opened f.at f.long (w₂.offered n f.block f.offer));
      enough = λ n b e. by_offer (n ≤ b.1) n b e (λ f. w₁.enough n b f) (λ f. let l = f.long in let z = w₂.enough n f.block f.offer in omega arith);
      unused = live_unused;
      zero = refl;
      large = λ n h. admits_large 32768 k (λ z. choose z (first_offer m₁ z) (second_offer k m₁ m₂ z)) n (lit≤ tt) h;
      refused = λ n g e. admits_refused 32768 k (λ z. choose z (first_offer m₁ z) (second_offer k m₁ m₂ z)) n q (refusal n) g e;
    }

pub segregated_lawful : (t : ℕ) (m₁ m₂ : Meaning) → Lawful m₁ → Lawful m₂ → Lawful (segregated t m₁ m₂)
segregated_lawful t m₁ m₂ = paired_lawful SegregatorK (by_size t) (by_size_picks t) m₁ m₂ (lit≤ tt, lit≤ tt)

pub fallen_back_lawful : (m₁ m₂ : Meaning) → Lawful m₁ → Lawful m₂ → Lawful (fallen_back m₁ m₂)
fallen_back_lawful m₁ m₂ = paired_lawful FallbackK by_refusal by_refusal_picks m₁ m₂ (lit≤ tt, lit≤ tt)

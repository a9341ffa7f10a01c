-- A pair's calls from those of its heaps.
use Rattle.std.proofs.Common.{◌≡◌, ℕ, ◌+◌, ◌<◌, ◌≤◌, Bool, true, false, cond, eqb, Ok, Err, Result, sym, refl, ap, ◌∙◌, subst, arith}
use mathlib.Core.Logic.{∥∥₁_elim}
use Rattle.heap.specs.declared.fault.Fault.{Fault}
use Rattle.heap.specs.declared.fault.Kind.{Kind}
use Rattle.heap.specs.declared.fault.Cause.TheVariants.{Shut}
use Rattle.heap.specs.Faults.{raised, up, own, and_then}
use Rattle.heap.specs.Checks.{admitted}
use Rattle.heap.specs.Meaning.{Meaning, Block, Lawful, In, Same, SameOffers, MayFill, Allocates, Fills}
use Rattle.heap.proofs.Lawful.{offered_below}
use Rattle.heap.proofs.Offers.{and_then_same, admitted_same, up_ok}
use Rattle.pairs.specs.Pairs.{both_fit, pair_span, pair_byte, checked_open, first_offer, second_offer, Choice, by_refusal, pair_offer, paired}
use Rattle.pairs.specs.Shares.{low, side_same, set_low, frame}
use Rattle.pairs.specs.Paired.{bounded}
use Rattle.std.proofs.lemmas.Bool.{leb-true}
use native.Mathlib.Nat.{ℕ_set}

-- a size that passes the tests is answered by the choice
pub chosen : (k : Kind) (choose : Choice) (m₁ m₂ : Meaning) (n q : ℕ) → admitted 32768 k n ≡ Ok q → pair_offer k choose m₁ m₂ n ≡ choose n (first_offer m₁ n) (second_offer k m₁ m₂ n)
chosen k choose m₁ m₂ n q e =
    ap (λ (z : Result ℕ Fault). and_then z (λ p. choose p (first_offer m₁ p) (second_offer k m₁ m₂ p))) e
    ∙ ap (λ (p : ℕ). choose p (first_offer m₁ p) (second_offer k m₁ m₂ p)) (admitted_same 32768 k n q e)

-- where the test passes, the second is open
opened : (o : Bool) (k : Kind) (n : ℕ) → ◌≡◌ {A = Result (Unit {0}) Fault} (cond o (Ok tt) (Err (raised Shut k n))) (Ok tt) → o ≡ true
opened true k n e = refl
opened false k n e = absurd (let z : ◌≡◌ {A = ℕ} 0 1 = cc in let w : ⊥ = omega arith in w)

-- a block of the second, where the pair shows it, is at a small number
pub shown_fits : (k : Kind) (m₁ m₂ : Meaning) → Lawful m₂ → (n : ℕ) (t : Result (Unit {0}) Fault) (r r' : Result Block Fault) (b : Block) → t ≡ checked_open k m₁ m₂ n → t ≡ Ok tt → r ≡ m₂.offer n → r' ≡ up r → r' ≡ Ok b → m₁.span + b.0 ≤ 1048576
shown_fits k m₁ m₂ w n t r r' b et eo er eu eb =
    let l = leb-true (m₁.span + m₂.span) 1048576 (opened (both_fit m₁.span m₂.span) k n (sym et ∙ eo)) in
    let z = offered_below m₂ n b w (sym er ∙ up_ok r b (sym eu ∙ eb)) in
    omega arith

module _ (k : Kind) (choose : Choice) (m₁ m₁' m₂ m₂' : Meaning) (es : m₁'.span ≡ m₁.span) (et : m₂'.span ≡ m₂.span) where
  same_fit : both_fit m₁'.span m₂'.span ≡ both_fit m₁.span m₂.span
  same_fit = cc

  same_span : pair_span m₁' m₂' ≡ pair_span m₁ m₂
  same_span = cc

  same_offers : SameOffers m₁ m₁' → SameOffers m₂ m₂' → SameOffers (paired k choose m₁ m₂) (paired k choose m₁' m₂')
  same_offers p q n =
      and_then_same (admitted 32768 k n) (λ z. choose z (first_offer m₁' z) (second_offer k m₁' m₂' z)) (λ z. choose z (first_offer m₁ z) (second_offer k m₁ m₂ z))
      (λ z. let u = p z in let v = q z in cc)

module _ (k : Kind) (choose : Choice) (m₁ m₁' m₂ : Meaning) (w : Lawful m₁) where
  same_first : Same m₁ m₁' → Same (paired k choose m₁ m₂) (paired k choose m₁' m₂)
  same_first s =
      let es = s.0.span in
      let eo = same_fit k choose m₁ m₁' m₂ m₂ es refl in (
        record {
          kind = refl;
          span = same_span k choose m₁ m₁' m₂ m₂ es refl;
          live = side_same m₁.span m₁'.span _ _ es eo m₁.live m₁'.live m₂.live m₂.live s.0.live (λ x. refl);
          byte = λ a x i. frame m₁.span m₁'.span _ _ (λ _. Unit {0}) m₁.live m₂.live m₁.byte m₁'.byte m₂.byte m₂.byte es eo (bounded m₁ w) (λ b y j _. s.0.byte b y j) (λ b y j _. refl) a x i tt;
        },
        same_offers k choose m₁ m₁' m₂ m₂ es refl s.1 (λ n. refl),
      )

  pub granted_first : (r : Result Block Fault) → ((b : Block) → r ≡ Ok b → b.0 + b.1 ≤ m₁.span) → ((b : Block) → r ≡ Ok b → b.0 < m₁.span) → Allocates m₁ m₁' r → Allocates (paired k choose m₁ m₂) (paired k choose m₁' m₂) (up r)
  granted_first (Ok b) ends below s =
      let es = s.span in
      let eo = same_fit k choose m₁ m₁' m₂ m₂ es refl in
      record {
        kind = refl;
        span = same_span k choose m₁ m₁' m₂ m₂ es refl;
        live = set_low m₁.span m₁'.span _ _ es eo m₁.live m₁'.live m₂.live m₂.live b.0 b.1 (below b refl) s.live (λ x. refl);
        clear = λ x i. let t = ends b refl in let hi = i.below in low m₁'.span _ m₁'.byte m₂.byte x (omega arith) ∙ s.clear x i;
        byte = λ a x i. frame m₁.span m₁'.span _ _ (λ _. Unit {0}) m₁.live m₂.live m₁.byte m₁'.byte m₂.byte m₂.byte es eo (bounded m₁ w) (λ p y j _. s.byte p y j) (λ p y j _. refl) a x i tt;
      }
  granted_first (Err f) ends below s = same_first s

  pub filled_first : (k' : Kind) (a c v : ℕ) (r : Result (Unit {0}) Fault) → MayFill k' m₁.live a c r → Fills a c v m₁ m₁' r → Fills a c v (paired k choose m₁ m₂) (paired k choose m₁' m₂) (own k a r)
  filled_first k' a c v (Ok t) q s =
      let es = s.span in
      let eo = same_fit k choose m₁ m₁' m₂ m₂ es refl in
      record {
        kind = refl;
        span = same_span k choose m₁ m₁' m₂ m₂ es refl;
        live = side_same m₁.span m₁'.span _ _ es eo m₁.live m₁'.live m₂.live m₂.live s.live (λ x. refl);
        set = λ x i. ∥∥₁_elim q.1 (ℕ_set (pair_byte m₁' m₂ x) v) (λ d.
            let df = d.from in
            let dt = d.to in
            let z = q.0 in
            let e = bounded m₁ w d.start (omega arith) in
            let hi = i.below in
            low m₁'.span _ m₁'.byte m₂.byte x (omega arith) ∙ s.set x i);
        byte = frame m₁.span m₁'.span _ _ (λ x. In a c x → ⊥) m₁.live m₂.live m₁.byte m₁'.byte m₂.byte m₂.byte es eo (bounded m₁ w) s.byte (λ p y j _. refl);
        offers = same_offers k choose m₁ m₁' m₂ m₂ es refl s.offers (λ n. refl);
      }
  filled_first k' a c v (Err f) q s = same_first s

-- an allocate after a call that changed nothing
pub then_allocates : (m m' m'' : Meaning) (r : Result Block Fault) → Same m m' → Allocates m' m'' r → Allocates m m'' r
then_allocates m m' m'' (Ok b) q s = record {
  kind = s.kind ∙ q.0.kind;
  span = s.span ∙ q.0.span;
  live = λ x. s.live x ∙ ap (cond (eqb x b.0) b.1) (q.0.live x);
  clear = s.clear;
  byte = λ a x i. s.byte a x (subst (λ (z : ℕ). In a z x) (sym (q.0.live a)) i) ∙ q.0.byte a x i;
}
then_allocates m m' m'' (Err f) q s = (
  record {
    kind = s.0.kind ∙ q.0.kind;
    span = s.0.span ∙ q.0.span;
    live = λ x. s.0.live x ∙ q.0.live x;
    byte = λ a x i. s.0.byte a x (subst (λ (z : ℕ). In a z x) (sym (q.0.live a)) i) ∙ q.0.byte a x i;
  },
  λ n. s.1 n ∙ q.1 n,
)

-- a fallback's answer where the first refuses and so changes nothing: what the second then answers is what it would have answered before
pub second_answer : (k : Kind) (m₁ m₂ m₁' m₂' : Meaning) (n q : ℕ) (f : Fault) (r : Result Block Fault) → admitted 32768 k n ≡ Ok q → Err f ≡ first_offer m₁ n
    → ((choose : Choice) → Same (paired k choose m₁ m₂) (paired k choose m₁' m₂')) → r ≡ second_offer k m₁' m₂' n → r ≡ pair_offer k by_refusal m₁ m₂ n
second_answer k m₁ m₂ m₁' m₂' n q f r ok e same er =
    let second : Choice = λ _ _ z. z in
    er ∙ sym (chosen k second m₁' m₂' n q ok) ∙ (same second).1 n ∙ chosen k second m₁ m₂ n q ok ∙ ap (λ (z : Result Block Fault). by_refusal n z (second_offer k m₁ m₂ n)) e
    ∙ sym (chosen k by_refusal m₁ m₂ n q ok)

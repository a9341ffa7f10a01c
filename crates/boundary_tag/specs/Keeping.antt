-- What a boundary tag heap keeps at first, from one free chunk.
use Rattle.std.proofs.Common.{◌≡◌, ℕ, ◌+◌, eqb, List, [], ◌∷◌, length, sym, refl, ap, ◌∙◌, subst, ⊎_elim, arith}
use Rattle.boundary_tag.specs.Chunks.{Chunk, tag_span, live_in, end_in, one_free, Settled, TagKeeps}
use Rattle.std.proofs.lemmas.Bool.{cond-false, ne_eqb, cases_eq}

pub one_free_some : (n : ℕ) → (n ≡ 0 → ⊥) → one_free n ≡ (n, 0) ∷ []
one_free_some n h = cond-false (eqb n 0) [] ((n, 0) ∷ []) (ne_eqb n 0 h)

pub one_live : (n a : ℕ) → live_in (one_free n) 0 a ≡ 0
one_live n a =
    ⊎_elim (λ (q : n ≡ 0). ap (λ (cs : List Chunk). live_in cs 0 a) (ap one_free q)) (λ (q : n ≡ 0 → ⊥). ap (λ (cs : List Chunk). live_in cs 0 a) (one_free_some n q) ∙ none) (cases_eq n 0)
  where
    none : live_in ((n, 0) ∷ []) 0 a ≡ 0
    none = grind arith

one_end : (n : ℕ) → end_in (one_free n) 0 ≡ n
one_end n = ⊎_elim (λ (q : n ≡ 0). ap (λ (z : ℕ). end_in (one_free z) 0) q ∙ sym q) (λ (q : n ≡ 0 → ⊥). ap (λ (cs : List Chunk). end_in cs 0) (one_free_some n q) ∙ (let z : 0 + n ≡ n = omega arith in z)) (cases_eq n 0)

one_settled : (n : ℕ) → Settled (one_free n)
one_settled n = ⊎_elim (λ (q : n ≡ 0). subst Settled (sym (ap one_free q)) tt) (λ (q : n ≡ 0 → ⊥). subst Settled (sym (one_free_some n q)) (tt, tt)) (cases_eq n 0)

pub tag_begins : (xs : List ℕ) → TagKeeps xs [] xs
tag_begins xs = record {
  long = refl;
  rest = λ x l. refl;
  kept = λ e. record {
    live = λ a. ap (λ (cs : List Chunk). live_in cs 0 a) e ∙ one_live (tag_span (length xs)) a;
    list = e;
    tiled = ap (λ (cs : List Chunk). end_in cs 0) e ∙ one_end (tag_span (length xs));
    settled = subst Settled (sym e) (one_settled (tag_span (length xs)));
  };
}

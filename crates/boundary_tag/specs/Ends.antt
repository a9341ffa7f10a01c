-- Tags as they are read and written.
use Rattle.std.proofs.Common.{◌≡◌, ℕ, ◌+◌, ◌-◌, ◌<◌, ◌≤◌, List, length, get_or, sym, ap, ◌∙◌, subst, inl, inr, arith}
use Rattle.region.specs.Bytes.{word_at, put_word}
use Rattle.region.proofs.Words.{word_same, length_put_word, put_word_other, word_put}
use Rattle.boundary_tag.specs.Chunks.{Chunk, tag_at, Tagged, Written}

abbrev pub pair : ℕ → ℕ → Chunk
pair l s = (l, s)

-- a tag depends on its eight bytes alone
pub tag_same : (xs ys : List ℕ) (p : ℕ) → ((x : ℕ) → p ≤ x → x < p + 8 → get_or ys x 0 ≡ get_or xs x 0) → tag_at ys p ≡ tag_at xs p
unfolding tag_at
tag_same xs ys p e =
    ap (λ (l : ℕ). pair l (word_at ys (p + 4))) (word_same xs ys p (λ x h l. e x h (omega arith)))
    ∙ ap (λ (s : ℕ). pair (word_at xs p) s) (word_same xs ys (p + 4) (λ x h l. e x (omega arith) (omega arith)))

-- a tag as two words leave it
pub tagged : (p l s : ℕ) (xs ys : List ℕ) → p + 8 ≤ length xs → l < 4294967296 → s < 4294967296 → ys ≡ put_word (put_word xs p l) (p + 4) s → Tagged p l s xs ys
unfolding tag_at
tagged p l s xs ys h f g e =
    let one = put_word xs p l in
    let two = put_word one (p + 4) s in
    let n1 : length one ≡ length xs = length_put_word xs p l in
    let n2 : length two ≡ length one = length_put_word one (p + 4) s in
    let w0 : word_at two p ≡ l = word_same one two p (λ x q r. put_word_other one (p + 4) s x (inl r)) ∙ word_put xs p l (omega arith) f in
    let w1 : word_at two (p + 4) ≡ s = word_put one (p + 4) s (omega arith) g in
    subst (Tagged p l s xs) (sym e) (record {
      long = n2 ∙ n1;
      tag = ap (λ (z : ℕ). pair z (word_at two (p + 4))) w0 ∙ ap (λ (z : ℕ). pair l z) w1;
      before = λ x q. put_word_other one (p + 4) s x (inl (omega arith)) ∙ put_word_other xs p l x (inl q);
      behind = λ x q. put_word_other one (p + 4) s x (inr (omega arith)) ∙ put_word_other xs p l x (inr (omega arith));
    })

-- both tags of a chunk
pub written : (p l s : ℕ) (xs ys zs : List ℕ) → 24 ≤ l → Tagged p l s xs ys → Tagged (p + (l - 8)) l s ys zs → Written p l s xs zs
written p l s xs ys zs h a b = record {
  long = b.long ∙ a.long;
  head = tag_same ys zs p (λ x q r. b.before x (omega arith)) ∙ a.tag;
  tail = b.tag;
  before = λ x q. b.before x (omega arith) ∙ a.before x q;
  between = λ x i. let lo = i.from in let hi = i.below in b.before x (omega arith) ∙ a.behind x lo;
  behind = λ x q. b.behind x (omega arith) ∙ a.behind x (omega arith);
}

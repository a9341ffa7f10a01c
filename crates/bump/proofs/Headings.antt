-- A header and its block as they are written.
use Rattle.std.proofs.Common.{◌≡◌, ℕ, ◌+◌, ◌-◌, ◌<◌, ◌≤◌, List, length, get_or, sym, ◌∙◌, subst, inl, inr, arith}
use Rattle.region.specs.Bytes.{put_word, Painted}
use Rattle.region.proofs.Words.{word_same, length_put_word, put_word_other, word_put}
use Rattle.bump.specs.Table.{Headed, Struck}

-- a header and a cleared block behind it
pub headed : (p l : ℕ) (xs ys : List ℕ) → p + 8 + l ≤ length xs → l < 4294967296 → Painted (p + 8) l 0 (put_word (put_word xs p l) (p + 4) 1) ys → Headed p l xs ys
headed p l xs ys h f k =
    let one = put_word xs p l in
    let two = put_word one (p + 4) 1 in
    let n1 : length one ≡ length xs = length_put_word xs p l in
    let n2 : length two ≡ length one = length_put_word one (p + 4) 1 in
    let low : (x : ℕ) → x < p + 8 → get_or ys x 0 ≡ get_or two x 0 = λ x q. k.rest x (λ i. let z = i.from in omega arith) in
    record {
      long = k.long ∙ n2 ∙ n1;
      size = word_same two ys p (λ x q r. low x (omega arith)) ∙ word_same one two p (λ x q r. put_word_other one (p + 4) 1 x (inl r)) ∙ word_put xs p l (omega arith) f;
      state = word_same two ys (p + 4) (λ x q r. low x (omega arith)) ∙ word_put one (p + 4) 1 (omega arith) (omega arith);
      clear = k.set;
      before = λ x q. low x (omega arith) ∙ put_word_other one (p + 4) 1 x (inl (omega arith)) ∙ put_word_other xs p l x (inl q);
      behind = λ x q. k.rest x (λ i. let z = i.below in omega arith) ∙ put_word_other one (p + 4) 1 x (inr (omega arith)) ∙ put_word_other xs p l x (inr (omega arith));
    }

-- the state before the block at a, as a write of 2 leaves it
pub struck : (a : ℕ) (xs ys : List ℕ) → 8 ≤ a → a ≤ length xs → (a - 4 + 4 ≤ length xs → ys ≡ put_word xs (a - 4) 2) → Struck a xs ys
struck a xs ys g h e = subst (Struck a xs) (sym (e (omega arith))) (record {
  long = length_put_word xs (a - 4) 2;
  state = word_put xs (a - 4) 2 (omega arith) (omega arith);
  before = λ x q. put_word_other xs (a - 4) 2 x (inl q);
  behind = λ x q. put_word_other xs (a - 4) 2 x (inr (omega arith));
})

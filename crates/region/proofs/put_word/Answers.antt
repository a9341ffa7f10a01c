use Rattle.std.proofs.Common.{◌≡◌, ℕ, ◌+◌, ◌-◌, List, ap, ◌∙◌, arith}
use borrow.Rule.Slice.PartMut.{put_mid}
use Rattle.region.specs.Bytes.{put_word}
use Rattle.region.proofs.Words.{put_four}
use Rattle.region.proofs.put_word.Goals as goal

pub returns-clause-inside : goal.returns-clause-inside
unfolding put_word
returns-clause-inside c h =
    let p = c.args.p in
    let xs = c.args.region.now in
    let four : p + 4 - p ≡ 4 = omega arith in
    ap (λ (k : ℕ). put_mid p k xs c.copy_from_slice.new.self) four
    ∙ ap (λ (bs : List ℕ). put_mid p 4 xs bs) (c.copy_from_slice.ensures.after ∙ c.to_le_bytes.ensures)
    ∙ put_four p xs _ _ _ _ h

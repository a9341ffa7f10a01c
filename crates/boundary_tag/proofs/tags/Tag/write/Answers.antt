use Rattle.std.proofs.Common.{◌≡◌, ℕ, ◌+◌, List, length, ap, ◌∙◌, arith}
use Rattle.region.specs.Bytes.{put_word}
use Rattle.region.proofs.Words.{length_put_word}
use Rattle.boundary_tag.specs.Ends.{tagged}
use Rattle.boundary_tag.proofs.tags.Tag.write.Goals as goal

pub returns : goal.returns
returns c =
    let p = c.args.p in
    let l = c.args.self.length in
    let s = c.args.self.state in
    let xs = c.args.region.now in
    let room = c.requires.0 in
    let one : c.put_word.new.region ≡ put_word xs p l = c.put_word.ensures.inside (omega arith) in
    let n1 : length c.put_word.new.region ≡ length xs = ap length one ∙ length_put_word xs p l in
    let two : c.put_word-2.new.region ≡ put_word c.put_word.new.region (p + 4) s = c.put_word-2.ensures.inside (omega arith) in
    tagged p l s xs c.put_word-2.new.region room (omega arith) (omega arith) (two ∙ ap (λ (ys : List ℕ). put_word ys (p + 4) s) one)

use Rattle.std.proofs.Common.{◌≡◌, ℕ, ◌+◌, List, length, ap, ◌∙◌, subst, arith}
use Rattle.region.specs.Bytes.{Painted, put_word}
use Rattle.region.proofs.Words.{length_put_word}
use Rattle.bump.proofs.Headings.{headed}
use Rattle.bump.proofs.Bump.grant.Goals as goal

pub returns-clause-headed : goal.returns-clause-headed
returns-clause-headed c =
    let p = c.args.self.now.cursor in
    let l = c.args.size in
    let xs = c.args.self.now.region.now in
    let room = c.requires.0 in
    let one : c.put_word.new.region ≡ put_word xs p l = c.put_word.ensures.inside (omega arith) in
    let n1 : length c.put_word.new.region ≡ length xs = ap length one ∙ length_put_word xs p l in
    let two : c.put_word-2.new.region ≡ put_word c.put_word.new.region (p + 4) 1 = c.put_word-2.ensures.inside (omega arith) in
    let n2 : length c.put_word-2.new.region ≡ length c.put_word.new.region = ap length two ∙ length_put_word c.put_word.new.region (p + 4) 1 in
    let e : c.put_word-2.new.region ≡ put_word (put_word xs p l) (p + 4) 1 = two ∙ ap (λ (ys : List ℕ). put_word ys (p + 4) 1) one in
    headed p l xs c.paint.new.region room (omega arith)
    (subst (λ (ys : List ℕ). Painted (p + 8) l 0 ys c.paint.new.region) e (c.paint.ensures.inside (omega arith)))

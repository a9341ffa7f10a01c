use Rattle.std.proofs.Common.{◌≡◌, ◌+◌, ◌<◌, ℕ, get_or, subst, arith}
use Rattle.std.specs.List.{between}
use Rattle.std.proofs.lemmas.List.Edits.{get_or-between}
use Rattle.region.specs.Bytes.{word_at}
use Rattle.region.proofs.word.Goals as goal

pub returns-in-Some-len4-clause-inside : goal.returns-in-Some-len4-clause-inside
unfolding word_at
returns-in-Some-len4-clause-inside c h =
    let p = c.args.p in
    let xs = c.args.region.now in
    let ys = c.in-Some-len4.field-0.now in
    let part : ys ≡ between p (p + 4) xs = c.in-Some-len4.ensures.lookup.0.2 in
    let same : (i : ℕ) → p + i < p + 4 → get_or ys i 0 ≡ get_or xs (p + i) 0 = λ i l. rw part (get_or-between xs p (p + 4) i 0 l) in
    let value = c.from_le_bytes.ensures in
    let start : p + 0 ≡ p = omega arith in
    let a : get_or ys 0 0 ≡ get_or xs p 0 = subst (λ (k : ℕ). get_or ys 0 0 ≡ get_or xs k 0) start (same 0 (omega arith)) in
    let b = same 1 (omega arith) in
    let d = same 2 (omega arith) in
    let e = same 3 (omega arith) in
    omega arith

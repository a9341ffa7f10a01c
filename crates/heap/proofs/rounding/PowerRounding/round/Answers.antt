use Rattle.std.proofs.Common.{◌≡◌, ℕ, ◌/◌, ◌^◌, ◌<◌, ◌≤◌, max, ap, ◌∙◌, arith}
use Rattle.heap.specs.Classes.{next_power}
use Rattle.heap.proofs.rounding.PowerRounding.round.Goals as goal

pub returns : goal.returns
returns c =
    let e = c.next_power_of_two.ensures in
    let n = c.args.n in
    let k = e.power.0 in
    let is : c.next_power_of_two.result ≡ 2 ^ k = e.power.1 in
    let some : 1 ≤ n = omega (arith, c.if-n-eq0.false) in
    let small : n ≤ 32768 = c.if-n-gt-LARGEST.false in
    let low : n ≤ 2 ^ k = omega (arith, e.lower_bound) in
    let high : 2 ^ k / 2 < n = omega (arith, e.upper_bound) in
    c.max.ensures ∙ ap (λ (q : ℕ). max q 8) is ∙ next_power n k some small low high

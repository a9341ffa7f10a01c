use Rattle.std.proofs.Common.{sym, ◌∙◌, rules}
use Rattle.std.proofs.lemmas.Bool.{both_ways}
use Rattle.std.proofs.lemmas.Grind.{common_steps}
use Rattle.bitmap.specs.Words.{bit_in}
use Rattle.bitmap.specs.Rows.{scanned_more}
use Rattle.bitmap.proofs.maps.Maps.lowest_run.Goals as goal
use Rattle.bitmap.proofs.maps.Maps.lowest_run.Goals.{then-has, else-has, else-run-wanted-via-then-run-wanted+else-not-continues, then-end-cells, else-end-cells, else-run-wanted-via-else-run-wanted}

pub loop-i-preserved : goal.loop-i-preserved
loop-i-preserved c =
    let u = bit_in c.args.self.now.used.words in
    let f = bit_in c.args.self.now.first.words in
    let l = c.loop-i in
    scanned_more u f c.args.cells c.args.wanted l.i l.run c.if-has.run l.invariant
    (λ e. elim c.if-has.branch [
      | then-has w ↦ w.run-is
      | else-has w ↦ absurd (both_ways (u l.i) (sym c.has.ensures ∙ w.if-has.false) e)
    ])
    (λ e. elim c.if-has.branch [
      | then-has w ↦ absurd (both_ways (u l.i) e (sym c.has.ensures ∙ w.if-has.true))
      | else-has w ↦ w.run-is
    ])
    (λ m. search (rules, common_steps))

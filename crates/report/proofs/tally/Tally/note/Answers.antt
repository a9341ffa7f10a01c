use Rattle.std.proofs.Common.{◌≡◌, ◌+◌, ◌<◌, [], ◌∷◌, ◌++◌, length, sym, ap, ◌∙◌, subst, max, arith}
use Rattle.std.proofs.lemmas.List.{length_push}
use Rattle.report.specs.declared.tally.Load.{Load}
use Rattle.report.specs.declared.tally.Outcome.{Outcome}
use Rattle.report.specs.declared.tally.Outcome.TheVariants.{Granted, Freed, Done, Refused}
use Rattle.report.specs.Tallies.{load_after, load_of, Loadable}
use Rattle.report.proofs.Tallying.{Counted, counted_as, counted_granted, counted_freed, counted_done, counted_refused, noted, load_push, peaks_push}
use Rattle.report.proofs.tally.Tally.note.Goals as goal
use Rattle.report.proofs.tally.Tally.note.Goals.{in-Granted, in-Freed, in-Done, in-Refused}

pub returns : goal.returns
returns c = λ os h e.
    let o = c.args.outcome in
    let t = c.args.self.now in
    let f = c.saturating_add-self.result in
    let few : length os + 1 < 4294967296 = let l = length_push os o in let n = h.frames in omega arith in
    let counted : Counted c.match-outcome.self os o × (c.match-outcome.outcome ≡ o) = elim c.match-outcome.branch [
      | in-Granted w ↦
          let n = w.saturating_add-self-in-Granted in
          (counted_as c.match-outcome.self _ os o (Granted w.in-Granted.field-0) w.self-is w.in-Granted.is (counted_granted t os f n.result few e c.saturating_add-self.ensures w.in-Granted.field-0 n.ensures), w.outcome-is)
      | in-Freed w ↦
          let n = w.saturating_add-self-in-Freed in
          (counted_as c.match-outcome.self _ os o (Freed w.in-Freed.field-0) w.self-is w.in-Freed.is (counted_freed t os f n.result few e c.saturating_add-self.ensures w.in-Freed.field-0 n.ensures), w.outcome-is)
      | in-Done w ↦ (counted_as c.match-outcome.self _ os o Done w.self-is w.in-Done.is (counted_done t os f 0 few e c.saturating_add-self.ensures), w.outcome-is)
      | in-Refused w ↦
          let n = w.saturating_add-self-in-Refused in
          let g = w.in-Refused.fault in
          (counted_as c.match-outcome.self _ os o (Refused g) w.self-is w.in-Refused.is (counted_refused t os f n.result few e c.saturating_add-self.ensures g w.count_kind.new.kinds w.or-self.result n.ensures (w.count_kind.ensures os few) w.or-self.ensures), w.outcome-is ∙ sym w.in-Refused.is)
    ] in
    let k = counted.0 in
    let lp = load_push os o in
    let la : load_after c.match-outcome.self.load c.match-outcome.outcome ≡ load_of (os ++ (o ∷ [])) = ap (λ (l : Load). load_after l c.match-outcome.outcome) k.load ∙ ap (λ (p : Outcome). load_after (load_of os) p) counted.1 ∙ sym lp in
    let load : c.after-self.result ≡ load_of (os ++ (o ∷ [])) = c.after-self.ensures (subst Loadable (sym la) h.load) ∙ la in
    noted c.match-outcome.self os o c.after-self.result c.most-self.result k load
    (c.most-self.ensures ∙ (let higher : Load → Load = λ z. record { blocks = max z.blocks c.after-self.result.blocks; bytes = max z.bytes c.after-self.result.bytes } in ap higher k.peak ∙ sym (peaks_push os o c.after-self.result load)))

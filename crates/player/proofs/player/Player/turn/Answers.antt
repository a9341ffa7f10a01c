use Rattle.std.proofs.Common.{◌≡◌, ℕ, ◌<◌, List, [], ◌∷◌, ◌++◌, get_or, set, sym, ap, ◌∙◌, subst, arith}
use Rattle.trace.specs.Frames.{id_of}
use Rattle.report.specs.declared.tally.Outcome.{Outcome}
use Rattle.player.specs.declared.slots.Slot.{Slot}
use Rattle.player.specs.declared.slots.Slot.TheVariants.{Empty}
use Rattle.player.specs.Replays.{Acted, Going}
use Rattle.player.proofs.Underway.{going_more}
use Rattle.player.proofs.player.Player.turn.Goals as goal

pub returns : goal.returns
returns g c = λ start xs os few k.
    let ss = c.args.self.now.slots.table in
    let x = c.args.action in
    let r : Outcome × Slot = (c.act-outcome.result, c.act-outcome.new.slot) in
    let i : c.id-id.result ≡ id_of x = c.id-id.ensures in
    let slot : c.at-slot.result ≡ get_or ss (id_of x) Empty = c.at-slot.ensures ∙ ap (λ (z : ℕ). get_or ss z Empty) i in
    let acted : Acted g.H.Meant.means g.H.Meant.keeps x (get_or ss (id_of x) Empty) c.args.heap.now c.act-outcome.new.heap r = subst (λ (z : Slot). Acted g.H.Meant.means g.H.Meant.keeps x z c.args.heap.now c.act-outcome.new.heap r) slot c.act-outcome.ensures in
    let small : id_of x < 256 = let b = c.id-id.type_inv in omega arith in
    let put : c.put.new.self.table ≡ set ss (id_of x) r.1 = c.put.ensures ∙ ap (λ (z : ℕ). set ss z r.1) i in (
      r.0,
      subst (λ (z : List Slot). Going g.H.Meant.means g.H.Meant.keeps (xs ++ (x ∷ [])) (os ++ (r.0 ∷ [])) z c.note.new.self start c.act-outcome.new.heap) (sym put)
          (going_more g.H.Meant.means g.H.Meant.keeps g.H.Meant.lawful xs os ss c.args.self.now.tally c.note.new.self start c.args.heap.now c.act-outcome.new.heap x r small few k acted c.note.ensures),
    )

use Rattle.std.proofs.Common.{◌≡◌, ℕ, ◌+◌, ◌-◌, ◌%◌, sym, ap, ◌∙◌, inl, inr, ⊎_elim, arith}
use Rattle.boundary_tag.specs.Chunks.{Chunk, Shape, tag_at}
use Rattle.boundary_tag.specs.States.{state_number, tag_pair}
use Rattle.boundary_tag.specs.Placed.{found_at}
use Rattle.boundary_tag.specs.Walks.{Ends, chunk_good}
use Rattle.boundary_tag.specs.Ends.{pair}
use Rattle.boundary_tag.proofs.Reading.{no_chunk, no_state, number_of, number_state, tags_same, tags_differ}
use Rattle.boundary_tag.proofs.chunks.Chunks.first.Goals as goal
use Rattle.boundary_tag.proofs.chunks.Chunks.first.Goals.{then-tag-lt24-via-then-tag-lt24, then-tag-lt24-via-else-tag-lt24+then-room-tag, then-tag-lt24-via-else-tag-lt24+else-room-tag+then-tag-ne0}

pub returns-then-room-lt24 : goal.returns-then-room-lt24
returns-then-room-lt24 c =
    let w = c.args.self.now in
    let e = c.saturating_sub-room.ensures in
    let h = c.if-room-lt24.true in
    sym (ap (found_at w.at) (no_chunk w.region.now w.span w.at (λ d _ s. let f = s.fits in let o = s.some in omega arith)))

pub returns-in_err-state : goal.returns-in_err-state
returns-in_err-state c =
    let w = c.args.self.now in
    let n = no_state c.read-tag.result.state c.in_err-state.ensures in
    let none = no_chunk w.region.now w.span w.at (λ d i s. let t = ap (λ (z : Chunk). z.1) (c.read-tag.ensures ∙ i.head) in n (⊎_elim (λ (q : d.1 ≡ 0). inl (t ∙ q)) (λ (q : d.1 ≡ 1). inr (t ∙ q)) s.state)) in
    rw c.from_residual.ensures (sym (ap (found_at w.at) none))

pub returns-then-tag-lt24 : goal.returns-then-tag-lt24
returns-then-tag-lt24 c =
    let w = c.args.self.now in
    let misfit : (d : Chunk) → Ends w.region.now w.at d → Shape w.span w.at d → ⊥ = λ d i s.
    let t : c.read-tag.result.length ≡ d.0 = ap (λ (z : Chunk). z.0) (c.read-tag.ensures ∙ i.head) in
    let f = s.fits in
    let o = s.some in
    let g = s.eighth in
    elim c.then-tag-lt24.branch [
      | then-tag-lt24-via-then-tag-lt24 v ↦ let x = v.if-tag-lt24.true in omega arith
      | then-tag-lt24-via-else-tag-lt24+then-room-tag v ↦ let x = v.if-room-tag.true in omega arith
      | then-tag-lt24-via-else-tag-lt24+else-room-tag+then-tag-ne0 v ↦ v.if-tag-ne0.true (ap (λ (z : ℕ). z % 8) t ∙ g)
    ] in
    sym (ap (found_at w.at) (no_chunk w.region.now w.span w.at misfit))

pub returns-then-ne : goal.returns-then-ne
returns-then-ne c =
    let w = c.args.self.now in
    let t = c.read-tag.result in
    let u = c.read-last.result in
    let differ = tags_differ u.length u.state t.length t.state (sym c.if-ne.ensures) in
    sym (ap (found_at w.at) (no_chunk w.region.now w.span w.at (λ d i s.
    let head : tag_pair t ≡ d = c.read-tag.ensures ∙ i.head in
    let at : c.args.self.now.at + (t.length - 8) ≡ w.at + (d.0 - 8) = ap (λ (z : Chunk). w.at + (z.0 - 8)) head in
    differ (c.read-last.ensures ∙ ap (tag_at w.region.now) at ∙ i.tail ∙ sym head))))

pub returns : goal.returns
returns c =
    let w = c.args.self.now in
    let t = c.read-tag.result in
    let u = c.read-last.result in
    let s = c.in_ok-state.state in
    let e : tag_pair t ≡ (t.length, state_number s) = ap (pair t.length) (number_of t.state s c.in_ok-state.ensures) in
    let same : tag_pair u ≡ tag_pair t = tags_same u.length u.state t.length t.state (sym c.if-ne.ensures) in
    let good = chunk_good w.region.now w.span w.at (t.length, state_number s)
    (record { head = sym c.read-tag.ensures ∙ e; tail = sym c.read-last.ensures ∙ same ∙ e })
    (record { fits = omega arith; some = c.if-tag-lt24.false; eighth = c.if-tag-ne0.false; state = number_state s }) in
    sym (ap (found_at w.at) good)

use Rattle.std.proofs.Common.{ℕ, sym, ap, ◌∙◌, refl, arith}
use Rattle.bump.specs.Table.{shaped}
use Rattle.bump.specs.Walks.{header_none}
use Rattle.bump.proofs.Readings.{header_of, shaped_else, shaped_unfit, shaped_fit}
use Rattle.bump.proofs.headers.Headers.header.Goals as goal
use Rattle.bump.proofs.headers.Headers.header.Goals.{then-length-lt8-via-then-length-lt8, then-length-lt8-via-else-length-lt8+then-length-ne0, then-length-lt8-via-else-length-lt8+else-length-ne0+then-length-self}

pub returns-then-saturating_sub-lt16 : goal.returns-then-saturating_sub-lt16
returns-then-saturating_sub-lt16 c = let e = c.saturating_sub.ensures in header_none c.args.self.now.region.now c.args.self.now.bound c.args.self.now.at (omega arith)

pub returns-in_err-state : goal.returns-in_err-state
returns-in_err-state c =
    let s = c.args.self.now in
    let read = header_of s.region.now s.bound s.at c.saturating_sub.result c.word-length.result c.word.result s.within.0 c.saturating_sub.ensures c.if-saturating_sub-lt16.false c.word-length.ensures.inside c.word.ensures.inside in
    let h = c.in_err-state.ensures in
    rw c.from_residual.ensures (read ∙ shaped_else s.bound s.at c.word-length.result c.word.result h.0 h.1)

pub returns-then-length-lt8 : goal.returns-then-length-lt8
returns-then-length-lt8 c =
    let s = c.args.self.now in
    let read = header_of s.region.now s.bound s.at c.saturating_sub.result c.word-length.result c.word.result s.within.0 c.saturating_sub.ensures c.if-saturating_sub-lt16.false c.word-length.ensures.inside c.word.ensures.inside in
    read ∙ shaped_unfit s.bound s.at c.word-length.result c.word.result
    (λ o e. elim c.then-length-lt8.branch [
      | then-length-lt8-via-then-length-lt8 w ↦ omega arith
      | then-length-lt8-via-else-length-lt8+then-length-ne0 w ↦ absurd (w.if-length-ne0.true e)
      | then-length-lt8-via-else-length-lt8+else-length-ne0+then-length-self w ↦ omega arith
    ])

pub returns : goal.returns
returns c =
    let s = c.args.self.now in
    let read = header_of s.region.now s.bound s.at c.saturating_sub.result c.word-length.result c.word.result s.within.0 c.saturating_sub.ensures c.if-saturating_sub-lt16.false c.word-length.ensures.inside c.word.ensures.inside in
    let n = c.in_ok-state.ensures in
    (refl, read ∙ ap (λ (z : ℕ). shaped s.bound s.at c.word-length.result z) (sym n) ∙ shaped_fit s.bound s.at c.word-length.result c.in_ok-state.state (omega arith) (omega arith) c.if-length-ne0.false)

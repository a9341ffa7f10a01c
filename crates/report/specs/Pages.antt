-- A text written on a page, behind what stands there.
use Rattle.std.specs.Prelude.{◌≡◌, ℕ, ◌+◌, ◌≤◌, List, length}
use Rattle.report.specs.Lines.{laid}
use Rattle.report.specs.declared.lines.Page.{Page}

-- there is room for a text
abbrev pub HasRoom : Page → List ℕ → Type 0
HasRoom p text = p.written + length text ≤ length p.out.now

pub record Wrote (p : Page) (text : List ℕ) (q : Page) : Type 0 where
  -- there was room for it
  pub room : p.written + length text ≤ length p.out.now
  pub end : q.written ≡ p.written + length text
  pub out : q.out.now ≡ laid p.out.now p.written text
  -- in the same buffer
  pub buffer : q.out.ghost_name ≡ p.out.ghost_name

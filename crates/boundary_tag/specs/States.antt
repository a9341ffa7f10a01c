-- States and tags as the code has them, and the numbers that stand for them in a region.
use Rattle.std.specs.Prelude.{ℕ, cond, Some, None, Option, ◌==◌}
use Rattle.boundary_tag.specs.declared.tags.State.{State}
use Rattle.boundary_tag.specs.declared.tags.State.TheVariants.{Free, Live}
use Rattle.boundary_tag.specs.declared.tags.Tag.{Tag}
use Rattle.boundary_tag.specs.Chunks.{Chunk}

abbrev pub state_number : State → ℕ
state_number Free = 0
state_number Live = 1

-- the state of a number, if there is one
abbrev pub state_of : ℕ → Option State
state_of n = cond (n == 0) (Some Free) (cond (n == 1) (Some Live) None)

-- a tag's two numbers
abbrev pub tag_pair : Tag → Chunk
tag_pair t = (t.length, t.state)

-- Headers as they are read: their states by number, and what an iterator over them has left.
use Rattle.std.specs.Prelude.{◌≡◌, ℕ, ◌+◌, Some, None, Option, List}
use Rattle.bump.specs.declared.headers.State.{State}
use Rattle.bump.specs.declared.headers.State.TheVariants.{Live, Ended}
use Rattle.bump.specs.declared.headers.Header.{Header}
use Rattle.bump.specs.declared.headers.Headers.{Headers}
use Rattle.bump.specs.Table.{header_at, walk, Placed, placed}

-- the number that a header has for a state
abbrev pub number : State → ℕ
number Live = 1
number Ended = 2

-- the state that a number stands for, none where it stands for neither
abbrev pub Numbers : ℕ → Option State → Type 0
Numbers n (Some s) = number s ≡ n
Numbers n None = (n ≡ 1 → ⊥) × (n ≡ 2 → ⊥)

-- what was read, as the table has it
abbrev pub seen : Header → Placed
seen h = (h.start, (h.length, number h.state))

-- the header at p was read, or there is none
abbrev pub Reads : List ℕ → ℕ → ℕ → Option Header → Type 0
Reads xs bound p (Some h) = (h.start ≡ p + 8) × (header_at xs bound p ≡ Some (h.length, number h.state))
Reads xs bound p None = header_at xs bound p ≡ None

-- the headers that are still to come
unfoldable pub left : Headers → List Placed
left s = placed (walk s.region.now s.bound s.at) s.at

-- Chunks with their places, as a walk gives them, and what is looked for among them.
use Rattle.std.specs.Prelude.{◌≡◌, Bool, cond, ℕ, ◌+◌, ◌-◌, List, [], ◌∷◌, length, ◌==◌, ◌&&◌, nat_le, nat_lt, Some, None, Option, Ok, Err, Result}
use Rattle.boundary_tag.specs.declared.chunks.Chunk.{Chunk as Found}
use Rattle.boundary_tag.specs.declared.chunks.Chunks.{Chunks as Walk}
use Rattle.boundary_tag.specs.declared.chunks.Offer.{Offer}
use Rattle.heap.specs.declared.fault.Fault.{Fault}
use Rattle.heap.specs.Roundings.{up8}
use Rattle.boundary_tag.specs.Chunks.{Chunk, tag_at, tag_span, walk, chunks, lowest_fit, free_length, low_length, tag_means}
use Rattle.boundary_tag.specs.States.{state_number}

-- where a chunk begins, and the chunk
abbrev pub Placed : Type 0
Placed = ℕ × Chunk

abbrev pub placed : List Chunk → ℕ → List Placed
placed [] p = []
placed (c ∷ cs) p = (p, c) ∷ placed cs (p + c.0)

-- a chunk that was read at p
abbrev pub found_at : ℕ → Option Chunk → Option Placed
found_at p None = None
found_at p (Some c) = Some (p, c)

-- a chunk as it is found
abbrev pub seen : Found → Placed
seen c = (c.start, (c.length, state_number c.state))

-- the chunks that a walk has before it
unfoldable pub ahead : Walk → List Placed
ahead w = placed (walk w.region.now w.span w.at) w.at

-- whether a chunk is live and its block covers a
abbrev pub covers : ℕ → Placed → Bool
covers a c = c.1.1 == 1 && (nat_le (c.0 + 8) a && nat_lt a (c.0 + 8 + (c.1.0 - 16)))

-- whether a chunk is free and has room for a block of n bytes
abbrev pub has_room : ℕ → Placed → Bool
has_room n c = c.1.1 == 0 && nat_le (n + 16) c.1.0

-- the length of a chunk if it is free
abbrev pub free_part : Placed → ℕ
free_part c = cond (c.1.1 == 0) c.1.0 0

-- the offer for n bytes, of the lowest free chunk with room; or that no chunk has room
abbrev pub Picks : List ℕ → ℕ → Result Offer Fault → Type 0
Picks xs n (Ok o) = ((tag_means xs).offer n ≡ Ok (o.chunk.start + 8, o.size)) × (lowest_fit (chunks xs) 0 (up8 n + 16) ≡ Some (o.chunk.start, o.chunk.length))
Picks xs n (Err f) = (tag_means xs).offer n ≡ Err f

-- the free chunk that the live block at a leaves: its chunk, with a free one directly before and directly behind
abbrev pub joined_at : List ℕ → ℕ → Placed
joined_at xs a = (a - 8 - low_length xs (a - 8), (low_length xs (a - 8) + ((tag_at xs (a - 8)).0 + free_length (walk xs (tag_span (length xs)) (a - 8 + (tag_at xs (a - 8)).0))), 0))

-- A bump heap's table: the eight-byte headers before its blocks, as a list, and what each call does to it and to the region's bytes.
use Rattle.std.specs.Prelude.{◌≡◌, ℕ, zero, suc, ◌+◌, ◌-◌, ◌%◌, ◌<◌, ◌≤◌, min, Bool, true, false, cond, ◌⊎◌, List, [], ◌∷◌, ◌++◌, length, Some, None, Ok, Err, Option, Result, ◌==◌, nat_le, slice_index}
use Rattle.heap.specs.declared.fault.Fault.{Fault}
use Rattle.heap.specs.declared.fault.Kind.TheVariants.{Bump as BumpK}
use Rattle.heap.specs.declared.fault.Cause.TheVariants.{Full, NotLive}
use Rattle.heap.specs.Faults.{raised, and_then}
use Rattle.heap.specs.Checks.{admitted}
use Rattle.heap.specs.Meaning.{Meaning, Block, In, Covered}
use Rattle.heap.specs.Histories.{History, granted, freed, filled, relieved, length_at}
use Rattle.heap.specs.Roundings.{up8}
use Rattle.region.specs.Bytes.{word_at, span_of, Painted}

-- The headers in the bytes.

-- a block's length and its state: 1 live, 2 ended
abbrev pub Header : Type 0
Header = ℕ × ℕ

-- the header of length l and state s at p, if it is one of a block that ends by the bound
abbrev pub shaped : ℕ → ℕ → ℕ → ℕ → Option Header
shaped bound p l s = cond (nat_le (p + 8 + l) bound) (cond (nat_le 8 l) (cond (l % 8 == 0) (cond (s == 1) (Some (l, s)) (cond (s == 2) (Some (l, s)) None)) None) None) None

-- the header in the eight bytes from p on
unfoldable pub header_at : List ℕ → ℕ → ℕ → Option Header
header_at xs bound p = shaped bound p (word_at xs p) (word_at xs (p + 4))

-- what such a header says
pub record Shape (bound p : ℕ) (c : Header) : Type 0 where
  pub fits : p + 8 + c.0 ≤ bound
  pub some : 8 ≤ c.0
  pub eighth : c.0 % 8 ≡ 0
  pub state : (c.1 ≡ 1) ⊎ (c.1 ≡ 2)

-- a header that was read, or none
abbrev pub Inside : ℕ → ℕ → Option Header → Type 0
Inside bound p (Some c) = Shape bound p c
Inside bound p None = Unit {0}

-- a header and those behind it; the blocks end before what is no header
abbrev pub then_headers : Option Header → (Header → List Header) → List Header
then_headers (Some c) rest = c ∷ rest c
then_headers None rest = []

-- the headers from p on, at most so many
unfoldable pub headers : ℕ → List ℕ → ℕ → ℕ → List Header
headers zero xs bound p = []
headers (suc n) xs bound p = then_headers (header_at xs bound p) (λ c. headers n xs bound (p + 8 + c.0))

-- all headers from p on
unfoldable pub walk : List ℕ → ℕ → ℕ → List Header
walk xs bound p = headers (bound - p) xs bound p

-- blocks end by the cursor and by the span
abbrev pub bound_of : List ℕ → ℕ → ℕ
bound_of xs cursor = min cursor (span_of (length xs))

-- the region's headers
abbrev pub table : List ℕ → ℕ → List Header
table xs cursor = walk xs (bound_of xs cursor) 0

-- Tables.

-- the length of the live block that begins at a, 0 where none does, with the first header at p
abbrev pub live_in : List Header → ℕ → ℕ → ℕ
live_in [] p a = 0
live_in (c ∷ cs) p a = cond (a == p + 8) (cond (c.1 == 1) c.0 0) (live_in cs (p + 8 + c.0) a)

-- where the last block ends
abbrev pub end_in : List Header → ℕ → ℕ
end_in [] p = p
end_in (c ∷ cs) p = end_in cs (p + 8 + c.0)

-- the block at a marked as ended
abbrev pub ended : List Header → ℕ → ℕ → List Header
ended [] p a = []
ended (c ∷ cs) p a = (c.0, cond (a == p + 8) 2 c.1) ∷ ended cs (p + 8 + c.0) a

-- a header with the address of its block
abbrev pub Placed : Type 0
Placed = ℕ × Header

-- the headers with the addresses of their blocks, the first header at p
abbrev pub placed : List Header → ℕ → List Placed
placed [] p = []
placed (c ∷ cs) p = (p + 8, c) ∷ placed cs (p + 8 + c.0)

-- whether no block is live
abbrev pub none_live : List Header → Bool
none_live [] = true
none_live (c ∷ cs) = cond (c.1 == 1) false (none_live cs)

-- a live block of length l came behind the others
abbrev pub table_granted : List Header → ℕ → List Header
table_granted t l = t ++ ((l, 1) ∷ [])

-- the block at a ended; the table is emptied once nothing is live
abbrev pub table_freed : List Header → ℕ → List Header
table_freed t a = cond (none_live (ended t 0 a)) [] (ended t 0 a)

-- the table after a history of accepted calls on a heap that began with none
abbrev pub table_after : History → List Header
table_after [] = []
table_after (granted n a c ∷ h) = table_granted (table_after h) c
table_after (freed a ∷ h) = table_freed (table_after h) a
table_after (filled a c v ∷ h) = table_after h
table_after (relieved ∷ h) = table_after h

-- What a bump heap means, and what it keeps.

-- the block behind the cursor if the table ends there and the block ends by the span
abbrev pub bump_offer : ℕ → List Header → ℕ → ℕ → Result Block Fault
bump_offer span t cursor n = cond (end_in t 0 == cursor) (cond (nat_le (cursor + 8 + up8 n) span) (Ok (cursor + 8, up8 n)) (Err (raised Full BumpK n))) (Err (raised Full BumpK n))

-- a region and a cursor, as a client sees them: the offer comes behind the tests of the size
abbrev pub bump_means : List ℕ → ℕ → Meaning
bump_means xs cursor = record {
  kind = BumpK;
  span = span_of (length xs);
  live = live_in (table xs cursor) 0;
  byte = λ x. slice_index xs x;
  offer = λ n. and_then (admitted 32768 BumpK n) (bump_offer (span_of (length xs)) (table xs cursor) cursor);
}

-- the history says all: the live blocks, the table, and the cursor, which is the table's end
pub record BumpKept (h : History) (xs : List ℕ) (at : ℕ) : Type 0 where
  pub live : (a : ℕ) → live_in (table xs at) 0 a ≡ length_at h a
  pub table : table xs at ≡ table_after h
  pub cursor : at ≡ end_in (table_after h) 0

-- what a bump heap keeps, from a region and cursor over a history to later ones
pub record BumpKeeps (xs : List ℕ) (cursor : ℕ) (h : History) (ys : List ℕ) (next : ℕ) : Type 0 where
  -- the region's length
  pub long : length ys ≡ length xs
  -- the bytes past the span
  pub rest : (x : ℕ) → span_of (length xs) ≤ x → slice_index ys x ≡ slice_index xs x
  -- and, where the cursor was at 0, that the history says all
  pub kept : cursor ≡ 0 → BumpKept h ys next

-- What the calls do to the bytes.

-- a live block of length l stands behind its header at p, its bytes 0, and every byte before and behind stayed
pub record Headed (p l : ℕ) (xs ys : List ℕ) : Type 0 where
  pub long : length ys ≡ length xs
  pub size : word_at ys p ≡ l
  pub state : word_at ys (p + 4) ≡ 1
  pub clear : (x : ℕ) → In (p + 8) l x → slice_index ys x ≡ 0
  pub before : (x : ℕ) → x < p → slice_index ys x ≡ slice_index xs x
  pub behind : (x : ℕ) → p + 8 + l ≤ x → slice_index ys x ≡ slice_index xs x

-- the state in the header of the block at a says ended, and every byte before and behind that word stayed
pub record Struck (a : ℕ) (xs ys : List ℕ) : Type 0 where
  pub long : length ys ≡ length xs
  pub state : word_at ys (a - 4) ≡ 2
  pub before : (x : ℕ) → x < a - 4 → slice_index ys x ≡ slice_index xs x
  pub behind : (x : ℕ) → a ≤ x → slice_index ys x ≡ slice_index xs x

-- an accepted allocate: the block's header stands at the cursor, and the cursor goes to the block's end
pub record Grant (cursor : ℕ) (b : Block) (xs ys : List ℕ) : Type 0 where
  pub headed : Headed cursor b.1 xs ys
  pub table : table ys (b.0 + b.1) ≡ table_granted (table xs cursor) b.1

-- an accepted free: the cursor stays, or is 0 once nothing is live
pub record Strike (a cursor next : ℕ) (xs ys : List ℕ) : Type 0 where
  pub was : 0 < live_in (table xs cursor) 0 a
  pub struck : Struck a xs ys
  pub moved : next ≡ cond (none_live (ended (table xs cursor) 0 a)) 0 cursor
  pub table : table ys next ≡ table_freed (table xs cursor) a

-- an accepted fill: its bytes, at least one, lie in one live block, and no header changes
pub record Paint (a c v cursor : ℕ) (xs ys : List ℕ) : Type 0 where
  pub some : 0 < c
  pub covered : Covered (live_in (table xs cursor) 0) a c
  pub painted : Painted a c v xs ys
  pub table : table ys cursor ≡ table xs cursor

-- an allocate by its answer, which also tells the cursor's next place: a refused one changes no byte
abbrev pub Grants : ℕ → ℕ → List ℕ → List ℕ → Result Block Fault → Type 0
Grants cursor next xs ys (Ok b) = (next ≡ b.0 + b.1) × Grant cursor b xs ys
Grants cursor next xs ys (Err f) = (next ≡ cursor) × (ys ≡ xs)

-- a free by its answer
abbrev pub Strikes : ℕ → ℕ → ℕ → List ℕ → List ℕ → Result (Unit {0}) Fault → Type 0
Strikes a cursor next xs ys (Ok t) = Strike a cursor next xs ys
Strikes a cursor next xs ys (Err f) = (live_in (table xs cursor) 0 a ≡ 0) × (f ≡ raised NotLive BumpK a) × (next ≡ cursor) × (ys ≡ xs)

-- a fill by its answer
abbrev pub Paints : ℕ → ℕ → ℕ → ℕ → ℕ → List ℕ → List ℕ → Result (Unit {0}) Fault → Type 0
Paints a c v cursor next xs ys (Ok t) = (next ≡ cursor) × Paint a c v cursor xs ys
Paints a c v cursor next xs ys (Err f) = (next ≡ cursor) × (ys ≡ xs)

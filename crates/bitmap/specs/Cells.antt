-- Cells of 64 bytes: the blocks that two maps of them tell of, runs of free cells, what a bitmap heap means by these, and what it keeps.
use Rattle.std.specs.Prelude.{◌≡◌, ℕ, zero, suc, ◌+◌, ◌-◌, ◌*◌, ◌/◌, ◌%◌, ◌<◌, ◌≤◌, min, Bool, true, false, cond, not, ◌&&◌, List, [], ◌∷◌, length, Some, None, Ok, Err, Option, Result, ◌==◌, nat_le, nat_lt, slice_index}
use Rattle.heap.specs.declared.fault.Fault.{Fault}
use Rattle.heap.specs.declared.fault.Kind.TheVariants.{Bitmap as BitmapK}
use Rattle.heap.specs.declared.fault.Cause.TheVariants.{Full, NotLive}
use Rattle.heap.specs.Faults.{raised, and_then}
use Rattle.heap.specs.Checks.{admitted}
use Rattle.heap.specs.Meaning.{Meaning, Block, In, Covered}
use Rattle.heap.specs.Histories.{History, granted, freed, filled, relieved, length_at}
use Rattle.bitmap.specs.declared.maps.Maps.{Maps}
use Rattle.bitmap.specs.Words.{bit_in, inside}

-- The maps: which cells are used, and which begin a block.

abbrev pub Map : Type 0
Map = ℕ → Bool

-- which cells are used, and which begin a block
abbrev pub used_in : Maps → Map
used_in m = bit_in m.used.words

abbrev pub first_in : Maps → Map
first_in m = bit_in m.first.words

-- how many cells a region of n bytes has
abbrev pub cells_of : ℕ → ℕ
cells_of n = min n 65536 / 64

-- how many cells cover n bytes
abbrev pub cells_for : ℕ → ℕ
cells_for n = (n + 63) / 64

-- a block begins at cell x, of so many cells
abbrev pub starts : Map → Map → ℕ → ℕ → Bool
starts used first cells x = nat_lt x cells && (used x && first x)

-- cell x goes on with the block before it
abbrev pub goes_on : Map → Map → ℕ → ℕ → Bool
goes_on used first cells x = nat_lt x cells && (used x && not (first x))

-- how many cells from i on, at most n and without a gap, a map has
unfoldable pub follow : ℕ → Map → ℕ → ℕ
follow zero c i = 0
follow (suc n) c i = cond (c i) (1 + follow n c (i + 1)) 0

-- going on from i, a map has every cell before e, and not e
pub record Runs (c : Map) (i e : ℕ) : Type 0 where
  pub from : i ≤ e
  pub all : (x : ℕ) → i ≤ x → x < e → c x ≡ true
  pub stop : c e ≡ false

-- going back from i, a map has every cell behind e; e is 0, or not one of its cells
pub record Back (c : Map) (i e : ℕ) : Type 0 where
  pub from : e ≤ i
  pub all : (x : ℕ) → e < x → x ≤ i → c x ≡ true
  pub stop : 0 < e → c e ≡ false

-- how many cells the block that begins at cell i has, 0 where none does
abbrev pub cells_at : Map → Map → ℕ → ℕ → ℕ
cells_at used first cells i = cond (starts used first cells i) (1 + follow cells (goes_on used first cells) (i + 1)) 0

-- the length of the live block that begins at address a, 0 where none does
abbrev pub bitmap_live : Map → Map → ℕ → ℕ → ℕ
bitmap_live used first cells a = cond (a % 64 == 0) (64 * cells_at used first cells (a / 64)) 0

-- Runs of free cells.

-- the w cells from i on can make a block: they are free, and no cell behind them would go on with it. In sound maps none behind a free cell does.
pub record Fits (used first : Map) (cells w i : ℕ) : Type 0 where
  pub within : i + w ≤ cells
  pub free : (x : ℕ) → i ≤ x → x < i + w → used x ≡ false
  pub end : goes_on used first cells (i + w) ≡ false

-- the lowest cell from which w cells can make a block, or that there is none
abbrev pub LowestRun : Map → Map → ℕ → ℕ → Option ℕ → Type 0
LowestRun used first cells w (Some i) = Fits used first cells w i × ((j : ℕ) → j < i → Fits used first cells w j → ⊥)
LowestRun used first cells w None = (j : ℕ) → Fits used first cells w j → ⊥

-- how far a search has come: it found none before cell i, and the last so many cells are free
pub record Scanned (used first : Map) (cells w i run : ℕ) : Type 0 where
  pub most : run ≤ i
  pub free : (x : ℕ) → i ≤ x + run → x < i → used x ≡ false
  pub before : (x : ℕ) → x + run + 1 ≡ i → used x ≡ true
  pub none : (j : ℕ) → j + w ≤ i → Fits used first cells w j → ⊥

-- whether a map has none of the w cells from i on
unfoldable pub none_in : ℕ → Map → ℕ → Bool
none_in zero c i = true
none_in (suc w) c i = cond (c i) false (none_in w c (i + 1))

-- whether the w cells from i on can make a block, as a test
abbrev pub fits : Map → Map → ℕ → ℕ → ℕ → Bool
fits used first cells w i = nat_le (i + w) cells && (none_in w used i && not (goes_on used first cells (i + w)))

-- the first of the n cells from i on that passes a test
unfoldable pub seek : ℕ → Map → ℕ → Option ℕ
seek zero t i = None
seek (suc n) t i = cond (t i) (Some i) (seek n t (i + 1))

-- the lowest run of w cells, found by looking
abbrev pub lowest : Map → Map → ℕ → ℕ → Option ℕ
lowest used first cells w = seek (suc cells) (fits used first cells w) 0

-- What a bitmap heap means.

-- w cells from the one that was found on; cause 5 where none was
abbrev pub placed : ℕ → ℕ → Option ℕ → Result Block Fault
placed n w (Some i) = Ok (64 * i, 64 * w)
placed n w None = Err (raised Full BitmapK n)

abbrev pub bitmap_offer : Map → Map → ℕ → ℕ → Result Block Fault
bitmap_offer used first cells n = placed n (cells_for n) (lowest used first cells (cells_for n))

-- so many cells, their bytes and two maps, as a client sees them: the offer comes behind the tests of the size
abbrev pub cells_mean : ℕ → (ℕ → ℕ) → Map → Map → Meaning
cells_mean cells byte used first = record {
  kind = BitmapK;
  span = 64 * cells;
  live = bitmap_live used first cells;
  byte = byte;
  offer = λ n. and_then (admitted 32768 BitmapK n) (bitmap_offer used first cells);
}

-- a region and two maps
abbrev pub bitmap_means : List ℕ → Map → Map → Meaning
bitmap_means xs used first = cells_mean (cells_of (length xs)) (λ x. slice_index xs x) used first

-- What the calls do to the maps.

-- the w cells from i on are used now, and make one block
pub record Marked (i w : ℕ) (u f u' f' : Map) : Type 0 where
  pub used : (x : ℕ) → u' x ≡ cond (inside i w x) true (u x)
  pub first : (x : ℕ) → f' x ≡ cond (inside i 1 x) true (cond (inside i w x) false (f x))

-- the w cells from i on are free now
pub record Unmarked (i w : ℕ) (u f u' f' : Map) : Type 0 where
  pub used : (x : ℕ) → u' x ≡ cond (inside i w x) false (u x)
  pub first : (x : ℕ) → f' x ≡ cond (inside i w x) false (f x)

-- an allocate by its answer: the cells of the granted block make one, and a refused one changes nothing
abbrev pub Takes : Map → Map → Map → Map → Result Block Fault → Type 0
Takes u f u' f' (Ok b) = Marked (b.0 / 64) (b.1 / 64) u f u' f'
Takes u f u' f' (Err g) = (u' ≡ u) × (f' ≡ f)

-- an accepted free: the cells of the block at a, one of so many cells, are free
pub record Release (cells a : ℕ) (u f u' f' : Map) : Type 0 where
  pub was : 0 < bitmap_live u f cells a
  pub unmarked : Unmarked (a / 64) (bitmap_live u f cells a / 64) u f u' f'

-- a free by its answer
abbrev pub Releases : ℕ → ℕ → Map → Map → Map → Map → Result (Unit {0}) Fault → Type 0
Releases cells a u f u' f' (Ok t) = Release cells a u f u' f'
Releases cells a u f u' f' (Err g) = (bitmap_live u f cells a ≡ 0) × (g ≡ raised NotLive BitmapK a) × (u' ≡ u) × (f' ≡ f)

-- What a bitmap heap keeps.

-- the cells that are used after a history of accepted calls on a heap that began with none
abbrev pub used_after : History → Map
used_after [] x = false
used_after (granted n a c ∷ h) x = cond (inside (a / 64) (c / 64) x) true (used_after h x)
used_after (freed a ∷ h) x = cond (inside (a / 64) (length_at h a / 64) x) false (used_after h x)
used_after (filled a c v ∷ h) x = used_after h x
used_after (relieved ∷ h) x = used_after h x

-- and those that begin a block
abbrev pub first_after : History → Map
first_after [] x = false
first_after (granted n a c ∷ h) x = cond (inside (a / 64) 1 x) true (cond (inside (a / 64) (c / 64) x) false (first_after h x))
first_after (freed a ∷ h) x = cond (inside (a / 64) (length_at h a / 64) x) false (first_after h x)
first_after (filled a c v ∷ h) x = first_after h x
first_after (relieved ∷ h) x = first_after h x

-- sound maps: a first cell is used, a used cell that is not first comes behind a used one, and no cell past the last is used
pub record Sound (u f : Map) (cells : ℕ) : Type 0 where
  pub first : (x : ℕ) → f x ≡ true → u x ≡ true
  pub follows : (x : ℕ) → u x ≡ true → f x ≡ false → (0 < x) × (u (x - 1) ≡ true)
  pub past : (x : ℕ) → cells ≤ x → u x ≡ false

-- the w cells from i on are free
abbrev pub free_run : Map → ℕ → ℕ → ℕ → Bool
free_run used cells w i = nat_le (i + w) cells && none_in w used i

-- the lowest run of free cells that cover n bytes, by the history alone
abbrev pub offer_after : History → ℕ → ℕ → Result Block Fault
offer_after h cells n = placed n (cells_for n) (seek (suc cells) (free_run (used_after h) cells (cells_for n)) 0)

-- the history says all: the maps, the live blocks and every offer
pub record BitmapKept (h : History) (u f : Map) (cells : ℕ) : Type 0 where
  pub used : (x : ℕ) → u x ≡ used_after h x
  pub first : (x : ℕ) → f x ≡ first_after h x
  pub live : (a : ℕ) → bitmap_live u f cells a ≡ length_at h a
  -- a cell is used exactly if a block of the book covers it
  pub covered : (x : ℕ) → u x ≡ true → Covered (length_at h) (64 * x) 64
  pub covers : (a x : ℕ) → In a (length_at h a) (64 * x) → u x ≡ true
  -- and first exactly if one begins there
  pub begun : (x : ℕ) → f x ≡ true → 0 < length_at h (64 * x)
  pub begins : (x : ℕ) → 0 < length_at h (64 * x) → f x ≡ true
  pub sound : Sound u f cells
  pub offer : (n : ℕ) → 0 < n → bitmap_offer u f cells n ≡ offer_after h cells n

-- what a bitmap heap keeps, from a region and maps over a history to later ones
pub record BitmapKeeps (xs : List ℕ) (u f : Map) (h : History) (ys : List ℕ) (u' f' : Map) : Type 0 where
  -- the region's length
  pub long : length ys ≡ length xs
  -- the bytes past the span
  pub rest : (x : ℕ) → 64 * cells_of (length xs) ≤ x → slice_index ys x ≡ slice_index xs x
  -- and, where the maps were clear, that the history says all
  pub kept : ((x : ℕ) → u x ≡ false) → ((x : ℕ) → f x ≡ false) → BitmapKept h u' f' (cells_of (length xs))

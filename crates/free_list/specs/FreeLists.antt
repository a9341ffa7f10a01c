-- A free list over a heap: its offers, which blocks it shows and which it holds, and the calls that it makes below. Held addresses stand oldest first.
use Rattle.std.specs.Prelude.{◌≡◌, ℕ, ◌<◌, ◌≤◌, true, cond, List, [], ◌∷◌, length, Some, None, Ok, Err, Option, Result, nat_le}
use Rattle.heap.specs.declared.fault.Fault.{Fault}
use Rattle.heap.specs.declared.fault.Kind.TheVariants.{FreeList as FreeListK}
use Rattle.heap.specs.Faults.{up, and_then}
use Rattle.heap.specs.Checks.{admitted, rounded_size}
use Rattle.heap.specs.Meaning.{Meaning, Block, In, MayFree, Allocates, Frees}
use Rattle.heap.specs.Histories.{History, granted, freed, filled, relieved, size_at}
use Rattle.free_list.specs.Holdings.{among, without, with_newest}

-- the size to ask for below
abbrev pub asked : ℕ → (ℕ → ℕ) → ℕ → Result ℕ Fault
asked largest rounds n = rounded_size largest rounds FreeListK n

-- the first block where there is one, else the second
abbrev pub or_else : Option Block → Option Block → Option Block
or_else (Some b) o = Some b
or_else None o = o

-- the newest held block that is at least k long, entire. Where no block begins below the length is 0, so such an address never serves a size above 0: it counts as not held
abbrev pub newest : (ℕ → ℕ) → ℕ → List ℕ → Option Block
newest live k [] = None
newest live k (a ∷ xs) = or_else (newest live k xs) (cond (nat_le k (live a)) (Some (a, live a)) None)

-- the held block that serves; where there is none, what the heap below answers goes up
abbrev pub served_or : Option Block → Result Block Fault → Result Block Fault
served_or (Some b) r = Ok b
served_or None r = up r

-- the offer for n is the newest held block as long as n rounded, else the offer below for n rounded
abbrev pub free_list_offer : ℕ → (ℕ → ℕ) → List ℕ → Meaning → ℕ → Result Block Fault
free_list_offer largest rounds held m n = and_then (admitted largest FreeListK n) (λ q. served_or (newest m.live (rounds q) held) (m.offer (rounds q)))

-- the live blocks below without the held ones
abbrev pub unheld : List ℕ → (ℕ → ℕ) → ℕ → ℕ
unheld held live a = cond (among a held) 0 (live a)

-- what a free list with these held addresses means, over the meaning below
abbrev pub free_listed : ℕ → (ℕ → ℕ) → List ℕ → Meaning → Meaning
free_listed largest rounds held m = record {
  kind = FreeListK;
  span = m.span;
  live = unheld held m.live;
  byte = m.byte;
  offer = free_list_offer largest rounds held m;
}

-- the addresses held after a history, from those held at its start: a grant takes its address out, a free adds its address as the newest while fewer than 16 are held, and relief leaves none. An address in the table is counted whether or not a block begins there
abbrev pub held_after : List ℕ → History → List ℕ
held_after start [] = start
held_after start (granted n a c ∷ h) = without a (held_after start h)
held_after start (freed a ∷ h) = cond (nat_le 16 (length (held_after start h))) (held_after start h) (with_newest (held_after start h) a)
held_after start (filled a c v ∷ h) = held_after start h
held_after start (relieved ∷ h) = []

-- a history with the addresses of a list freed after it, the first of them first
abbrev pub freed_in_turn : List ℕ → History → History
freed_in_turn [] h = h
freed_in_turn (a ∷ xs) h = freed_in_turn xs (freed a ∷ h)

-- the calls that reach the heap below, from those held at the start: a block served again is filled with 0, any other is granted there for the rounded size; a block is freed there only where 16 are held already; and relief frees the held ones oldest first, then relieves
abbrev pub sent_below : (ℕ → ℕ) → List ℕ → History → History
sent_below rounds start [] = []
sent_below rounds start (granted n a c ∷ h) = cond (among a (held_after start h)) (filled a c 0) (granted (rounds n) a c) ∷ sent_below rounds start h
sent_below rounds start (freed a ∷ h) = cond (nat_le 16 (length (held_after start h))) (freed a ∷ sent_below rounds start h) (sent_below rounds start h)
sent_below rounds start (filled a c v ∷ h) = filled a c v ∷ sent_below rounds start h
sent_below rounds start (relieved ∷ h) = relieved ∷ freed_in_turn (held_after start h) (sent_below rounds start h)

-- each held address begins a live block below
abbrev pub AllLive : List ℕ → (ℕ → ℕ) → Type 0
AllLive held live = (a : ℕ) → among a held ≡ true → 0 < live a

-- what a free list keeps over a history, from a start at which it held the addresses `start` and the live lengths below were `began`, to a state at which these are `held` and `live`; `keeps` says of a history that the heap below keeps it
pub record FreeListKeeps (rounds : ℕ → ℕ) (start : List ℕ) (began : ℕ → ℕ) (held : List ℕ) (live : ℕ → ℕ) (keeps : History → Type 0) (h : History) : Type 0 where
  -- the held addresses are those that the history leaves of the ones at the start
  pub holds : held ≡ held_after start h
  -- if each held at the start began a live block below, so does each now
  pub all_live : AllLive start began → AllLive held live
  -- each block that the history granted is at least as long as its size rounded
  pub long : (a : ℕ) → 0 < size_at h a → rounds (size_at h a) ≤ unheld held live a
  -- and on the same condition the heap below keeps the calls that reached it
  pub below : AllLive start began → keeps (sent_below rounds start h)

-- a block that came from below is held no more; a refusal leaves the table
abbrev pub TakesOut : List ℕ → List ℕ → Result Block Fault → Type 0
TakesOut before after (Ok b) = after ≡ without b.0 before
TakesOut before after (Err f) = after ≡ before

-- the held blocks have ended below, and no other has changed
pub record Released (held : List ℕ) (m m' : Meaning) : Type 0 where
  pub span : m'.span ≡ m.span
  pub live : (a : ℕ) → m'.live a ≡ unheld held m.live a
  pub byte : (b x : ℕ) → In b (m'.live b) x → m'.byte x ≡ m.byte x

-- every offer of m' for a size from 1 to the given one rounded is the block that began at a in m, whole
abbrev pub ServesNext : (ℕ → ℕ) → ℕ → ℕ → Meaning → Meaning → Type 0
ServesNext rounds a size m m' = (n : ℕ) → 1 ≤ n → n ≤ rounds size → m'.offer n ≡ Ok (a, m.live a)

-- a free of the block at a, then an allocate of n bytes, with the two answers
pub record Exchanges (a n : ℕ) (m m' : Meaning) (first : Result (Unit {0}) Fault) (second : Result Block Fault) : Type 0 where
  -- what stood between the two
  pub between : Meaning
  pub may_free : MayFree m.kind m.live a first
  pub frees : Frees a m between first
  pub offered : second ≡ between.offer n
  pub allocates : Allocates between m' second

-- Histories of accepted calls, and the book that they make.
use Rattle.std.specs.Prelude.{◌≡◌, ℕ, ◌+◌, ◌≤◌, cond, List, [], ◌∷◌, Ok, Err, Result, ◌==◌, nat_le}
use Rattle.heap.specs.declared.fault.Fault.{Fault}
use Rattle.heap.specs.Meaning.{Meaning, Block, In}

-- an accepted call, with what it answered
pub data Event : Type 0 where
  -- a size, and the address and length of the block granted for it
  granted : ℕ → ℕ → ℕ → Event
  -- an address
  freed : ℕ → Event
  -- an address, a count and a byte
  filled : ℕ → ℕ → ℕ → Event
  relieved : Event

-- newest first; refused calls and questions leave no event
abbrev pub History : Type 0
History = List Event

abbrev pub after_allocate : ℕ → Result Block Fault → History → History
after_allocate n (Ok b) h = granted n b.0 b.1 ∷ h
after_allocate n (Err f) h = h

abbrev pub after_free : ℕ → Result (Unit {0}) Fault → History → History
after_free a (Ok _) h = freed a ∷ h
after_free a (Err f) h = h

abbrev pub after_fill : ℕ → ℕ → ℕ → Result (Unit {0}) Fault → History → History
after_fill a c v (Ok _) h = filled a c v ∷ h
after_fill a c v (Err f) h = h

-- what was kept from any state over any history is kept with more calls, on the way from one state to the next
abbrev pub Kept : {S : Type 0} → (S → History → S → Type 0) → (History → History) → S → S → Type 0
Kept {S} keeps more s s' = (from : S) (h : History) → keeps from h s → keeps from (more h) s'

-- The book: what a client that writes down its accepted calls knows of its blocks.

-- the length of the block entered at an address, 0 where there is none
abbrev pub length_at : History → ℕ → ℕ
length_at [] a = 0
length_at (granted n b c ∷ h) a = cond (a == b) c (length_at h a)
length_at (freed b ∷ h) a = cond (a == b) 0 (length_at h a)
length_at (filled b c v ∷ h) a = length_at h a
length_at (relieved ∷ h) a = length_at h a

-- the size that was asked for it
abbrev pub size_at : History → ℕ → ℕ
size_at [] a = 0
size_at (granted n b c ∷ h) a = cond (a == b) n (size_at h a)
size_at (freed b ∷ h) a = cond (a == b) 0 (size_at h a)
size_at (filled b c v ∷ h) a = size_at h a
size_at (relieved ∷ h) a = size_at h a

-- v at the c addresses from a on, w at any other
abbrev pub over : ℕ → ℕ → ℕ → ℕ → ℕ → ℕ
over a c x v w = cond (nat_le a x) (cond (nat_le (a + c) x) w v) w

-- the byte at an address: 0 from its block's grant on, then what was filled in last
abbrev pub byte_at : History → ℕ → ℕ
byte_at [] x = 0
byte_at (granted n b c ∷ h) x = over b c x 0 (byte_at h x)
byte_at (freed b ∷ h) x = byte_at h x
byte_at (filled b c v ∷ h) x = over b c x v (byte_at h x)
byte_at (relieved ∷ h) x = byte_at h x

-- the live blocks of m are the book's, each as long as was asked, with the book's bytes
pub record Booked (h : History) (m : Meaning) : Type 0 where
  pub live : (a : ℕ) → m.live a ≡ length_at h a
  pub long : (a : ℕ) → size_at h a ≤ length_at h a
  pub byte : (a x : ℕ) → In a (length_at h a) x → m.byte x ≡ byte_at h x

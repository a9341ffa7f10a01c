-- What a heap means to its client, the rules of that, and what each call answers and does.
use Rattle.std.specs.Prelude.{◌≡◌, ℕ, ◌+◌, ◌%◌, ◌<◌, ◌≤◌, cond, ◌⊎◌, Some, None, Ok, Err, Option, Result, ◌==◌}
use Rattle.heap.specs.declared.fault.Fault.{Fault}
use Rattle.heap.specs.declared.fault.Kind.{Kind}
use Rattle.heap.specs.declared.fault.Cause.{Cause}
use Rattle.heap.specs.declared.fault.Cause.TheVariants.{Zero, TooLarge, NotLive, Outside, Full, Shut, OverQuota, TraceLength, FrameKind, FrameField, PileNumber, ReportBuffer, SlotTaken, SlotEmpty}
use Rattle.heap.specs.Faults.{raised, kind_number}

-- a block: its address and its length
abbrev pub Block : Type 0
Block = ℕ × ℕ

pub record Meaning : Type 0 where
  -- who raises the heap's own refusals
  pub kind : Kind
  -- the addresses below it are the heap's; it never changes
  pub span : ℕ
  -- the length of the live block that begins at an address, 0 where none does
  pub live : ℕ → ℕ
  -- the byte at an address; of use where a live block covers it
  pub byte : ℕ → ℕ
  -- what an allocate of a size would be answered now
  pub offer : ℕ → Result Block Fault

-- the address x lies in the block at a of length c
pub record In (a c x : ℕ) : Type 0 where
  pub from : a ≤ x
  pub below : x < a + c

-- the c bytes from a on lie in one single live block
pub record Covered (live : ℕ → ℕ) (a c : ℕ) : Type 0 where
  pub start : ℕ
  pub from : start ≤ a
  pub to : a + c ≤ start + live start

-- two blocks share no address
abbrev pub Apart : Block → Block → Type 0
Apart p q = (p.0 + p.1 ≤ q.0) ⊎ (q.0 + q.1 ≤ p.0)

-- the shape of every block: address and length multiples of 8, at least 8 long, within the span
pub record Sits (span : ℕ) (b : Block) : Type 0 where
  pub address : b.0 % 8 ≡ 0
  pub length : b.1 % 8 ≡ 0
  pub some : 8 ≤ b.1
  pub within : b.0 + b.1 ≤ span

-- the causes by which an allocate or an offer may be refused
abbrev pub OfferCause : Cause → Type 0
OfferCause Zero = Unit {0}
OfferCause TooLarge = Unit {0}
OfferCause NotLive = ⊥
OfferCause Outside = ⊥
OfferCause Full = Unit {0}
OfferCause Shut = Unit {0}
OfferCause OverQuota = Unit {0}
OfferCause TraceLength = ⊥
OfferCause FrameKind = ⊥
OfferCause FrameField = ⊥
OfferCause PileNumber = ⊥
OfferCause ReportBuffer = ⊥
OfferCause SlotTaken = ⊥
OfferCause SlotEmpty = ⊥

-- the kinds of heaps: 0 is the replay's, and no heap has one above 11
abbrev pub HeapKind : Kind → Type 0
HeapKind k = (1 ≤ kind_number k) × (kind_number k ≤ 11)

-- a fault by which a heap refuses an allocate or an offer
pub record HeapFault (f : Fault) : Type 0 where
  pub cause : OfferCause f.cause
  pub kind : HeapKind f.kind
  pub down : f.down ≤ 255

-- the rules of a heap's meaning, at every moment
pub record Lawful (m : Meaning) : Type 0 where
  pub kind : HeapKind m.kind
  pub span_eighth : m.span % 8 ≡ 0
  pub span_bound : m.span ≤ 1048576
  -- live blocks have a block's shape, and no two share an address
  pub sits : (a : ℕ) → 0 < m.live a → Sits m.span (a, m.live a)
  pub apart : (a b : ℕ) → 0 < m.live a → a < b → 0 < m.live b → a + m.live a ≤ b
  -- an offered block has that shape, is as long as asked, and shares no address with a live one
  pub offered : (n : ℕ) (b : Block) → m.offer n ≡ Ok b → Sits m.span b
  pub enough : (n : ℕ) (b : Block) → m.offer n ≡ Ok b → n ≤ b.1
  pub unused : (n : ℕ) (b : Block) → m.offer n ≡ Ok b → (a : ℕ) → 0 < m.live a → Apart b (a, m.live a)
  -- the heap that is asked refuses size 0 and sizes above 32,768 itself
  pub zero : m.offer 0 ≡ Err (raised Zero m.kind 0)
  pub large : (n : ℕ) → 32768 < n → m.offer n ≡ Err (raised TooLarge m.kind n)
  pub refused : (n : ℕ) (f : Fault) → m.offer n ≡ Err f → HeapFault f

-- What the live blocks and their bytes answer. These take the functions that they use, so that a book of blocks answers by the same rules.

-- find: the live block that covers a, or that none does
abbrev pub Finds : (ℕ → ℕ) → ℕ → Option Block → Type 0
Finds live a (Some b) = (live b.0 ≡ b.1) × In b.0 b.1 a
Finds live a None = (b : ℕ) → In b (live b) a → ⊥

-- get: the byte at a if a live block covers it, else cause 4 for a
abbrev pub Gets : Kind → (ℕ → ℕ) → (ℕ → ℕ) → ℕ → Result ℕ Fault → Type 0
Gets k live byte a (Ok v) = ∥ Covered live a 1 ∥₁ × (v ≡ byte a)
Gets k live byte a (Err f) = (Covered live a 1 → ⊥) × (f ≡ raised Outside k a)

-- free: accepted where a live block begins at a, else cause 3 for a
abbrev pub MayFree : Kind → (ℕ → ℕ) → ℕ → Result (Unit {0}) Fault → Type 0
MayFree k live a (Ok _) = 0 < live a
MayFree k live a (Err f) = (live a ≡ 0) × (f ≡ raised NotLive k a)

-- fill: accepted where its bytes, at least one, lie in one live block; else cause 1 for no bytes, before cause 4, both for a
abbrev pub MayFill : Kind → (ℕ → ℕ) → ℕ → ℕ → Result (Unit {0}) Fault → Type 0
MayFill k live a c (Ok _) = (0 < c) × ∥ Covered live a c ∥₁
MayFill k live a c (Err f) = ((c ≡ 0) × (f ≡ raised Zero k a)) ⊎ ((0 < c) × (Covered live a c → ⊥) × (f ≡ raised Outside k a))

-- What a call does to the meaning.

-- the live blocks and their bytes are as they were
pub record Stays (m m' : Meaning) : Type 0 where
  pub kind : m'.kind ≡ m.kind
  pub span : m'.span ≡ m.span
  pub live : (a : ℕ) → m'.live a ≡ m.live a
  pub byte : (a x : ℕ) → In a (m.live a) x → m'.byte x ≡ m.byte x

abbrev pub SameOffers : Meaning → Meaning → Type 0
SameOffers m m' = (n : ℕ) → m'.offer n ≡ m.offer n

-- nothing that a client can ask has changed
abbrev pub Same : Meaning → Meaning → Type 0
Same m m' = Stays m m' × SameOffers m m'

-- the block (a, c) came to the live ones, its bytes 0
pub record Granted (a c : ℕ) (m m' : Meaning) : Type 0 where
  pub kind : m'.kind ≡ m.kind
  pub span : m'.span ≡ m.span
  pub live : (x : ℕ) → m'.live x ≡ cond (x == a) c (m.live x)
  pub clear : (x : ℕ) → In a c x → m'.byte x ≡ 0
  pub byte : (b x : ℕ) → In b (m.live b) x → m'.byte x ≡ m.byte x

-- the block at a is live no more
pub record Freed (a : ℕ) (m m' : Meaning) : Type 0 where
  pub kind : m'.kind ≡ m.kind
  pub span : m'.span ≡ m.span
  pub live : (x : ℕ) → m'.live x ≡ cond (x == a) 0 (m.live x)
  pub byte : (b x : ℕ) → In b (m'.live b) x → m'.byte x ≡ m.byte x

-- the c bytes from a on are v, and no offer has changed
pub record Filled (a c v : ℕ) (m m' : Meaning) : Type 0 where
  pub kind : m'.kind ≡ m.kind
  pub span : m'.span ≡ m.span
  pub live : (x : ℕ) → m'.live x ≡ m.live x
  pub set : (x : ℕ) → In a c x → m'.byte x ≡ v
  pub byte : (b x : ℕ) → In b (m.live b) x → (In a c x → ⊥) → m'.byte x ≡ m.byte x
  pub offers : SameOffers m m'

-- a call by its answer: a refused one changes nothing
abbrev pub Allocates : Meaning → Meaning → Result Block Fault → Type 0
Allocates m m' (Ok b) = Granted b.0 b.1 m m'
Allocates m m' (Err f) = Same m m'

abbrev pub Frees : ℕ → Meaning → Meaning → Result (Unit {0}) Fault → Type 0
Frees a m m' (Ok _) = Freed a m m'
Frees a m m' (Err f) = Same m m'

abbrev pub Fills : ℕ → ℕ → ℕ → Meaning → Meaning → Result (Unit {0}) Fault → Type 0
Fills a c v m m' (Ok _) = Filled a c v m m'
Fills a c v m m' (Err f) = Same m m'

abbrev pub NothingLive : Meaning → Type 0
NothingLive m = (a : ℕ) → m.live a ≡ 0

-- the meaning of a layer that shows the live blocks and bytes below as they are, under its own kind and with its own offers
abbrev pub with_offers : Kind → (ℕ → Result Block Fault) → Meaning → Meaning
with_offers k offers m = record { kind = k; span = m.span; live = m.live; byte = m.byte; offer = offers }

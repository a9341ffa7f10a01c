-- Runs of calls on a heap, and what they owe the client.
use Rattle.std.specs.Prelude.{◌≡◌, ℕ, ◌+◌, ◌%◌, ◌<◌, ◌≤◌, List, [], ◌∷◌, Ok, Err, Option, Result}
use Rattle.heap.specs.declared.fault.Fault.{Fault}
use Rattle.heap.specs.declared.fault.Kind.{Kind}
use Rattle.heap.specs.declared.fault.Cause.TheVariants.{Zero, TooLarge}
use Rattle.heap.specs.declared.calls.Call.{Call}
use Rattle.heap.specs.declared.calls.Call.TheVariants.{Allocate, Free, Fill, Relief, Span, Offer, Find, Get}
use Rattle.heap.specs.declared.calls.Answer.{Answer}
use Rattle.heap.specs.declared.calls.Answer.TheVariants.{Nothing, Number, Block as BlockA, Done, Found, Byte}
use Rattle.heap.specs.declared.calls.Step.{Step}
use Rattle.heap.specs.Faults.{raised}
use Rattle.heap.specs.Meaning.{Meaning, Block, Lawful, Sits, In, Apart, HeapFault, Stays, Finds, Gets, MayFree, MayFill, Allocates, Frees, Fills}
use Rattle.heap.specs.Histories.{History, relieved, length_at, size_at, byte_at, after_allocate, after_free, after_fill}

-- the answer that a heap's meaning gives to a call, and the meaning afterwards. An allocate answers the offer of its moment: it is granted where that is a block, and refused with that fault where it is one. A question leaves the meaning as it is
pub data Answered : Call → Meaning → Meaning → Answer → Type 0 where
  allocated : {n : ℕ} {m m' : Meaning} {r : Result Block Fault} → r ≡ m.offer n → Allocates m m' r → Answered (Allocate n) m m' (BlockA r)
  freed : {a : ℕ} {m m' : Meaning} {r : Result (Unit {0}) Fault} → MayFree m.kind m.live a r → Frees a m m' r → Answered (Free a) m m' (Done r)
  filled : {a c v : ℕ} {m m' : Meaning} {r : Result (Unit {0}) Fault} → MayFill m.kind m.live a c r → Fills a c v m m' r → Answered (Fill a c v) m m' (Done r)
  eased : {m m' : Meaning} → Stays m m' → Answered Relief m m' Nothing
  spanned : {m : Meaning} {r : ℕ} → r ≡ m.span → Answered Span m m (Number r)
  offered : {n : ℕ} {m : Meaning} {r : Result Block Fault} → r ≡ m.offer n → Answered (Offer n) m m (BlockA r)
  found : {a : ℕ} {m : Meaning} {r : Option Block} → Finds m.live a r → Answered (Find a) m m (Found r)
  got : {a : ℕ} {m : Meaning} {r : Result ℕ Fault} → Gets m.kind m.live m.byte a r → Answered (Get a) m m (Byte r)

-- each call of a run is answered by the meaning that the calls before it left, and the rules hold of each meaning on the way
pub data Ran : List Step → Meaning → Meaning → Type 0 where
  none : {m : Meaning} → Ran [] m m
  more : {s : Step} {ss : List Step} {m m' m'' : Meaning} → Answered s.call m m' s.answer → Lawful m' → Ran ss m' m'' → Ran (s ∷ ss) m m''

abbrev pub calls : List Step → List Call
calls [] = []
calls (s ∷ ss) = s.call ∷ calls ss

-- the history where an answer holds a block; any other answer leaves it
abbrev pub by_block : (Result Block Fault → History) → History → Answer → History
by_block f h (BlockA r) = f r
by_block f h Nothing = h
by_block f h (Number n) = h
by_block f h (Done r) = h
by_block f h (Found r) = h
by_block f h (Byte r) = h

-- the history where an answer says that it was done, or why not; any other answer leaves it
abbrev pub by_done : (Result (Unit {0}) Fault → History) → History → Answer → History
by_done f h (Done r) = f r
by_done f h Nothing = h
by_done f h (Number n) = h
by_done f h (BlockA r) = h
by_done f h (Found r) = h
by_done f h (Byte r) = h

-- the history after an answer: accepted calls enter it
abbrev pub after_answer : Call → Answer → History → History
after_answer (Allocate n) a h = by_block (λ r. after_allocate n r h) h a
after_answer (Free x) a h = by_done (λ r. after_free x r h) h a
after_answer (Fill x c v) a h = by_done (λ r. after_fill x c v r h) h a
after_answer Relief a h = relieved ∷ h
after_answer Span a h = h
after_answer (Offer n) a h = h
after_answer (Find x) a h = h
after_answer (Get x) a h = h

abbrev pub after_steps : List Step → History → History
after_steps [] h = h
after_steps (s ∷ ss) h = after_steps ss (after_answer s.call s.answer h)

-- an offer against the book: a block that is well shaped, as long as asked and apart from every block of the book; or a fault, of this kind for size 0 and for sizes above 32,768
abbrev pub OfferFits : Kind → ℕ → History → ℕ → Result Block Fault → Type 0
OfferFits k span h n (Ok b) = Sits span b × (1 ≤ n) × (n ≤ b.1) × ((a : ℕ) → 0 < length_at h a → Apart b (a, length_at h a))
OfferFits k span h n (Err f) = HeapFault f × (n ≡ 0 → f ≡ raised Zero k 0) × (32768 < n → f ≡ raised TooLarge k n)

-- an answer that agrees with the book: find, get, free and fill are answered as if its blocks were the live ones
pub data Agrees (k : Kind) (span : ℕ) (h : History) : Call → Answer → Type 0 where
  allocates : {n : ℕ} {r : Result Block Fault} → OfferFits k span h n r → Agrees k span h (Allocate n) (BlockA r)
  frees : {a : ℕ} {r : Result (Unit {0}) Fault} → MayFree k (length_at h) a r → Agrees k span h (Free a) (Done r)
  fills : {a c v : ℕ} {r : Result (Unit {0}) Fault} → MayFill k (length_at h) a c r → Agrees k span h (Fill a c v) (Done r)
  eases : Agrees k span h Relief Nothing
  spans : Agrees k span h Span (Number span)
  offers : {n : ℕ} {r : Result Block Fault} → OfferFits k span h n r → Agrees k span h (Offer n) (BlockA r)
  finds : {a : ℕ} {r : Option Block} → Finds (length_at h) a r → Agrees k span h (Find a) (Found r)
  gets : {a : ℕ} {r : Result ℕ Fault} → Gets k (length_at h) (byte_at h) a r → Agrees k span h (Get a) (Byte r)

-- each answer of a run agrees with the book as it was then
abbrev pub AllAgree : Kind → ℕ → History → List Step → Type 0
AllAgree k span h [] = Unit {0}
AllAgree k span h (s ∷ ss) = Agrees k span h s.call s.answer × AllAgree k span (after_answer s.call s.answer h) ss

-- the book's blocks in a heap: each belongs to its client alone
pub record Upheld (h : History) (m : Meaning) : Type 0 where
  -- the live blocks are exactly the book's
  pub live : (a : ℕ) → m.live a ≡ length_at h a
  -- each begins at a multiple of 8
  pub aligned : (a : ℕ) → 0 < length_at h a → a % 8 ≡ 0
  -- its length is a multiple of 8 too
  pub eighths : (a : ℕ) → 0 < length_at h a → length_at h a % 8 ≡ 0
  -- it lies within the span
  pub within : (a : ℕ) → 0 < length_at h a → a + length_at h a ≤ m.span
  -- it is at least as long as was asked
  pub long : (a : ℕ) → size_at h a ≤ length_at h a
  -- no two share an address
  pub apart : (a b : ℕ) → 0 < length_at h a → a < b → 0 < length_at h b → a + length_at h a ≤ b
  -- their bytes are the book's
  pub byte : (a x : ℕ) → In a (length_at h a) x → m.byte x ≡ byte_at h x

-- what a run owes a client whose book before it was that of h, from meaning m to m'
pub record Promise (h : History) (steps : List Step) (m m' : Meaning) : Type 0 where
  -- at the end each block of the book belongs to its client alone
  pub upheld : Upheld (after_steps steps h) m'
  -- every find and get was answered by the book as it was then, every free and fill refused exactly where the book says so, and every block granted apart from all that were in it
  pub agrees : AllAgree m.kind m.span h steps

-- A boundary tag heap's chunks: the two tags of each, the chunks as a list, and what each call does to that list and to the region's bytes.
use Rattle.std.specs.Prelude.{◌≡◌, ℕ, zero, suc, ◌+◌, ◌-◌, ◌%◌, ◌<◌, ◌≤◌, cond, ◌⊎◌, List, [], ◌∷◌, length, Some, None, Ok, Err, Option, Result, ◌==◌, ◌≢◌, nat_le, slice_index}
use Rattle.heap.specs.declared.fault.Fault.{Fault}
use Rattle.heap.specs.declared.fault.Kind.TheVariants.{BoundaryTag as TagK}
use Rattle.heap.specs.declared.fault.Cause.TheVariants.{Full}
use Rattle.heap.specs.Faults.{raised, and_then}
use Rattle.heap.specs.Checks.{admitted}
use Rattle.heap.specs.Meaning.{Meaning, Block, In, Covered}
use Rattle.heap.specs.Histories.{History, granted, freed, filled, relieved, length_at}
use Rattle.heap.specs.Roundings.{up8}
use Rattle.region.specs.Bytes.{word_at, span_of, Painted}

-- Tags and chunks in the bytes.

-- a chunk's length, its tags with it, and its state: 0 free, 1 live
abbrev pub Chunk : Type 0
Chunk = ℕ × ℕ

-- the tag in the eight bytes from p on
unfoldable pub tag_at : List ℕ → ℕ → Chunk
tag_at xs p = (word_at xs p, word_at xs (p + 4))

-- the chunk of length l and state s at p, if there can be one
abbrev pub shaped : ℕ → ℕ → ℕ → ℕ → Option Chunk
shaped span p l s = cond (nat_le (p + l) span) (cond (nat_le 24 l) (cond (l % 8 == 0) (cond (s == 0) (Some (l, s)) (cond (s == 1) (Some (l, s)) None)) None) None) None

-- a chunk whose last tag says the same
abbrev pub closed : Option Chunk → Chunk → Option Chunk
closed (Some c) t = cond (t.0 == c.0) (cond (t.1 == c.1) (Some c) None) None
closed None t = None

-- the chunk that begins at p, none if a tag is broken
unfoldable pub chunk_at : List ℕ → ℕ → ℕ → Option Chunk
chunk_at xs span p = closed (shaped span p (tag_at xs p).0 (tag_at xs p).1) (tag_at xs (p + ((tag_at xs p).0 - 8)))

-- what such a chunk is
pub record Shape (span p : ℕ) (c : Chunk) : Type 0 where
  pub fits : p + c.0 ≤ span
  pub some : 24 ≤ c.0
  pub eighth : c.0 % 8 ≡ 0
  pub state : (c.1 ≡ 0) ⊎ (c.1 ≡ 1)

-- a chunk that was read, or none
abbrev pub Inside : ℕ → ℕ → Option Chunk → Type 0
Inside span p (Some c) = Shape span p c
Inside span p None = Unit {0}

-- a chunk and those behind it; the chunks end before what is no chunk
abbrev pub then_chunks : Option Chunk → (Chunk → List Chunk) → List Chunk
then_chunks (Some c) rest = c ∷ rest c
then_chunks None rest = []

-- the chunks from p on, at most so many
unfoldable pub some_chunks : ℕ → List ℕ → ℕ → ℕ → List Chunk
some_chunks zero xs span p = []
some_chunks (suc n) xs span p = then_chunks (chunk_at xs span p) (λ c. some_chunks n xs span (p + c.0))

-- all chunks from p on
unfoldable pub walk : List ℕ → ℕ → ℕ → List Chunk
walk xs span p = some_chunks (span - p) xs span p

-- how much of a region of n bytes is used: as much as by any bottom, but nothing where no chunk fits
unfoldable pub tag_span : ℕ → ℕ
tag_span n = cond (nat_le 24 (span_of n)) (span_of n) 0

-- the region's chunks
abbrev pub chunks : List ℕ → List Chunk
chunks xs = walk xs (tag_span (length xs)) 0

-- Lists of chunks. In each function p is the place of the first chunk.

-- the length of the live block that begins at a, 0 where none does
abbrev pub live_in : List Chunk → ℕ → ℕ → ℕ
live_in [] p a = 0
live_in (c ∷ cs) p a = cond (a == p + 8) (cond (c.1 == 1) (c.0 - 16) 0) (live_in cs (p + c.0) a)

-- where the last chunk ends
abbrev pub end_in : List Chunk → ℕ → ℕ
end_in [] p = p
end_in (c ∷ cs) p = end_in cs (p + c.0)

-- the place and length of the lowest free chunk that is long enough
abbrev pub lowest_fit : List Chunk → ℕ → ℕ → Option (ℕ × ℕ)
lowest_fit [] p need = None
lowest_fit (c ∷ cs) p need = cond (c.1 == 0) (cond (nat_le need c.0) (Some (p, c.0)) (lowest_fit cs (p + c.0) need)) (lowest_fit cs (p + c.0) need)

-- the length of the block that a free chunk of length l is granted as, for a size of u whole eights: the rest stays a free chunk if it is 24 or more
abbrev pub part_of : ℕ → ℕ → ℕ
part_of l u = cond (nat_le (u + 40) l) u (l - 16)

-- a chunk of length l, live for a block of length c, and what remains of it
abbrev pub split : ℕ → ℕ → List Chunk → List Chunk
split l c cs = cond (nat_le (c + 40) l) ((c + 16, 1) ∷ (l - (c + 16), 0) ∷ cs) ((l, 1) ∷ cs)

-- the block at a of length c came
abbrev pub chunks_granted : List Chunk → ℕ → ℕ → ℕ → List Chunk
chunks_granted [] p a c = []
chunks_granted (d ∷ ds) p a c = cond (a == p + 8) (split d.0 c ds) (d ∷ chunks_granted ds (p + d.0) a c)

-- the length of the first chunk if that is free, and the chunks behind such a one
abbrev pub free_length : List Chunk → ℕ
free_length [] = 0
free_length (c ∷ cs) = cond (c.1 == 0) c.0 0

abbrev pub past_free : List Chunk → List Chunk
past_free [] = []
past_free (c ∷ cs) = cond (c.1 == 0) cs (c ∷ cs)

-- a free chunk of length l before the others, joined with the first of them if that is free
abbrev pub join : ℕ → List Chunk → List Chunk
join l cs = (l + free_length cs, 0) ∷ past_free cs

-- a chunk before a free one: joined with it if it is free itself
abbrev pub join_before : Chunk → List Chunk → List Chunk
join_before c cs = cond (c.1 == 0) (join c.0 cs) (c ∷ cs)

-- the block at a ended: its chunk is free, and joined with a free one directly before and directly behind
abbrev pub chunks_freed : List Chunk → ℕ → ℕ → List Chunk
chunks_freed [] p a = []
chunks_freed (c ∷ cs) p a = cond (a == p + 8) (join c.0 cs) (cond (a == p + c.0 + 8) (join_before c (chunks_freed cs (p + c.0) a)) (c ∷ chunks_freed cs (p + c.0) a))

-- no two free chunks stand side by side
abbrev pub Beside : Chunk → List Chunk → Type 0
Beside c [] = Unit {0}
Beside c (d ∷ ds) = c.1 ≡ 0 → d.1 ≢ 0

abbrev pub Settled : List Chunk → Type 0
Settled [] = Unit {0}
Settled (c ∷ cs) = Beside c cs × Settled cs

-- one free chunk that fills the span
abbrev pub one_free : ℕ → List Chunk
one_free span = cond (span == 0) [] ((span, 0) ∷ [])

-- the chunks after a history of accepted calls on a heap that began with one free chunk
abbrev pub chunks_after : ℕ → History → List Chunk
chunks_after span [] = one_free span
chunks_after span (granted n a c ∷ h) = chunks_granted (chunks_after span h) 0 a c
chunks_after span (freed a ∷ h) = chunks_freed (chunks_after span h) 0 a
chunks_after span (filled a c v ∷ h) = chunks_after span h
chunks_after span (relieved ∷ h) = chunks_after span h

-- What a boundary tag heap means, and what it keeps.

-- the block in the chunk that was found for a size, or that there is no space
abbrev pub offer_from : Option (ℕ × ℕ) → ℕ → Result Block Fault
offer_from (Some k) n = Ok (k.0 + 8, part_of k.1 (up8 n))
offer_from None n = Err (raised Full TagK n)

abbrev pub tag_offer : List Chunk → ℕ → Result Block Fault
tag_offer cs n = offer_from (lowest_fit cs 0 (up8 n + 16)) n

-- a region as a client sees it: the offer comes behind the tests of the size
abbrev pub tag_means : List ℕ → Meaning
tag_means xs = record {
  kind = TagK;
  span = tag_span (length xs);
  live = live_in (chunks xs) 0;
  byte = λ x. slice_index xs x;
  offer = λ n. and_then (admitted 32768 TagK n) (tag_offer (chunks xs));
}

-- the history says all: the live blocks and the chunks, which fill the span
pub record TagKept (h : History) (xs : List ℕ) : Type 0 where
  pub live : (a : ℕ) → live_in (chunks xs) 0 a ≡ length_at h a
  pub list : chunks xs ≡ chunks_after (tag_span (length xs)) h
  pub tiled : end_in (chunks xs) 0 ≡ tag_span (length xs)
  pub settled : Settled (chunks xs)

-- what a boundary tag heap keeps, from a region over a history to a later one
pub record TagKeeps (xs : List ℕ) (h : History) (ys : List ℕ) : Type 0 where
  -- the region's length
  pub long : length ys ≡ length xs
  -- the bytes past the span
  pub rest : (x : ℕ) → tag_span (length xs) ≤ x → slice_index ys x ≡ slice_index xs x
  -- and, where one free chunk filled the span, that the history says all
  pub kept : chunks xs ≡ one_free (tag_span (length xs)) → TagKept h ys

-- What the calls do to the bytes.

-- the tag at p says length l and state s, and every byte before and behind it stayed
pub record Tagged (p l s : ℕ) (xs ys : List ℕ) : Type 0 where
  pub long : length ys ≡ length xs
  pub tag : tag_at ys p ≡ (l, s)
  pub before : (x : ℕ) → x < p → slice_index ys x ≡ slice_index xs x
  pub behind : (x : ℕ) → p + 8 ≤ x → slice_index ys x ≡ slice_index xs x

-- both tags of the chunk at p say length l and state s, and every other byte stayed
pub record Written (p l s : ℕ) (xs ys : List ℕ) : Type 0 where
  pub long : length ys ≡ length xs
  pub head : tag_at ys p ≡ (l, s)
  pub tail : tag_at ys (p + (l - 8)) ≡ (l, s)
  pub before : (x : ℕ) → x < p → slice_index ys x ≡ slice_index xs x
  pub between : (x : ℕ) → In (p + 8) (l - 16) x → slice_index ys x ≡ slice_index xs x
  pub behind : (x : ℕ) → p + l ≤ x → slice_index ys x ≡ slice_index xs x

-- a new heap: one free chunk fills the span, and every byte past it stayed
pub record Fresh (xs ys : List ℕ) : Type 0 where
  pub long : length ys ≡ length xs
  pub rest : (x : ℕ) → tag_span (length xs) ≤ x → slice_index ys x ≡ slice_index xs x
  pub list : chunks ys ≡ one_free (tag_span (length ys))

-- of the free chunk at p of length l the block behind its first tag is granted, c bytes long and 0, and what remains is a free chunk; every byte before and behind stayed
pub record Carved (p l c : ℕ) (xs ys : List ℕ) : Type 0 where
  pub long : length ys ≡ length xs
  pub head : tag_at ys p ≡ (c + 16, 1)
  pub tail : tag_at ys (p + (c + 16 - 8)) ≡ (c + 16, 1)
  pub rest_head : c + 16 < l → tag_at ys (p + (c + 16)) ≡ (l - (c + 16), 0)
  pub rest_tail : c + 16 < l → tag_at ys (p + (c + 16) + (l - (c + 16) - 8)) ≡ (l - (c + 16), 0)
  pub clear : (x : ℕ) → In (p + 8) c x → slice_index ys x ≡ 0
  pub before : (x : ℕ) → x < p → slice_index ys x ≡ slice_index xs x
  pub behind : (x : ℕ) → p + l ≤ x → slice_index ys x ≡ slice_index xs x

-- the length of the free chunk that ends at p, by its last tag; 0 where none does
abbrev pub low_length : List ℕ → ℕ → ℕ
low_length xs p = cond (nat_le 8 p) (cond ((tag_at xs (p - 8)).1 == 0) (tag_at xs (p - 8)).0 0) 0

-- an accepted allocate: the block's bytes are 0, and the bytes of every live block stayed, as did those past the span
pub record Grant (b : Block) (xs ys : List ℕ) : Type 0 where
  pub long : length ys ≡ length xs
  pub clear : (x : ℕ) → In b.0 b.1 x → slice_index ys x ≡ 0
  pub byte : (a x : ℕ) → In a (live_in (chunks xs) 0 a) x → slice_index ys x ≡ slice_index xs x
  pub rest : (x : ℕ) → tag_span (length xs) ≤ x → slice_index ys x ≡ slice_index xs x
  pub live : (x : ℕ) → live_in (chunks ys) 0 x ≡ cond (x == b.0) b.1 (live_in (chunks xs) 0 x)
  pub list : chunks ys ≡ chunks_granted (chunks xs) 0 b.0 b.1
  pub end : end_in (chunks ys) 0 ≡ end_in (chunks xs) 0
  pub settled : Settled (chunks xs) → Settled (chunks ys)

-- an accepted free: the bytes of every other live block stayed, as did those past the span
pub record Release (a : ℕ) (xs ys : List ℕ) : Type 0 where
  pub long : length ys ≡ length xs
  pub byte : (b x : ℕ) → In b (live_in (chunks ys) 0 b) x → slice_index ys x ≡ slice_index xs x
  pub rest : (x : ℕ) → tag_span (length xs) ≤ x → slice_index ys x ≡ slice_index xs x
  pub live : (x : ℕ) → live_in (chunks ys) 0 x ≡ cond (x == a) 0 (live_in (chunks xs) 0 x)
  pub list : chunks ys ≡ chunks_freed (chunks xs) 0 a
  pub end : end_in (chunks ys) 0 ≡ end_in (chunks xs) 0
  pub settled : Settled (chunks xs) → Settled (chunks ys)

-- an accepted fill: its bytes, at least one, lie in one live block, and no chunk changes
pub record Paint (a c v : ℕ) (xs ys : List ℕ) : Type 0 where
  pub some : 0 < c
  pub covered : Covered (live_in (chunks xs) 0) a c
  pub painted : Painted a c v xs ys
  pub list : chunks ys ≡ chunks xs

-- a call by its answer: a refused one changes no byte
abbrev pub Grants : List ℕ → List ℕ → Result Block Fault → Type 0
Grants xs ys (Ok b) = Grant b xs ys
Grants xs ys (Err f) = ys ≡ xs

abbrev pub Releases : ℕ → List ℕ → List ℕ → Result (Unit {0}) Fault → Type 0
Releases a xs ys (Ok t) = Release a xs ys
Releases a xs ys (Err f) = ys ≡ xs

abbrev pub Paints : ℕ → ℕ → ℕ → List ℕ → List ℕ → Result (Unit {0}) Fault → Type 0
Paints a c v xs ys (Ok t) = Paint a c v xs ys
Paints a c v xs ys (Err f) = ys ≡ xs

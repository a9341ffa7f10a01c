-- The three piles, and a replay on each of them from the moment that it was made.
use Rattle.std.specs.Prelude.{◌≡◌, ℕ, ◌<◌, false, ◌⊎◌, List, [], ◌∷◌, length, Ok, Err, Result}
use Rattle.std.specs.Result.{result_unwrap_or}
use Rattle.heap.specs.declared.fault.Fault.{Fault}
use Rattle.heap.specs.declared.rounding.Grain.{Grain}
use Rattle.heap.specs.declared.rounding.Power.{Power}
use Rattle.heap.specs.declared.fault.Cause.TheVariants.{ReportBuffer}
use Rattle.heap.specs.declared.fault.Kind.TheVariants.{Replay}
use Rattle.heap.specs.Faults.{raised}
use Rattle.heap.specs.Meaning.{Meaning}
use Rattle.heap.specs.Histories.{History}
use Rattle.heap.specs.Roundings.{grain, power}
use Rattle.bump.specs.declared.Bump.{Bump}
use Rattle.bump.specs.Table.{bump_means, BumpKeeps}
use Rattle.bitmap.specs.declared.Bitmap.{Bitmap}
use Rattle.bitmap.specs.Cells.{used_in, first_in, bitmap_means, BitmapKeeps}
use Rattle.boundary_tag.specs.declared.BoundaryTag.{BoundaryTag}
use Rattle.boundary_tag.specs.Chunks.{chunks, one_free, tag_means, TagKeeps}
use Rattle.trace.specs.declared.frame.Pile.{Pile}
use Rattle.trace.specs.declared.frame.Pile.TheVariants as pile
use Rattle.trace.specs.declared.frame.Frame.{Frame}
use Rattle.trace.specs.Frames.{pile_of}
use Rattle.trace.specs.Recordings.{Recording, recorded}
use Rattle.layers.specs.declared.quota.Quota.{Quota}
use Rattle.layers.specs.declared.rounded.Rounded.{Rounded}
use Rattle.layers.specs.Quota.{quota_means, QuotaKeeps}
use Rattle.layers.specs.Rounded.{rounded_means, rounded_keeps}
use Rattle.layers.specs.declared.affix.Affix.{Affix}
use Rattle.layers.specs.Affix.{affix_means, AffixKeeps}
use Rattle.free_list.specs.declared.free_list.FreeList.{FreeList}
use Rattle.free_list.specs.FreeList.{listed, free_list_means, free_list_keeps}
use Rattle.pairs.specs.declared.segregator.Segregator.{Segregator}
use Rattle.pairs.specs.PairStates.{segregator_means, SegregatorKeeps}
use Rattle.pairs.specs.declared.fallback.Fallback.{Fallback}
use Rattle.pairs.specs.PairStates.{fallback_means, fallback_keeps}
use Rattle.report.specs.Lines.{refusal_text, Writes}
use Rattle.player.specs.Replays.{Replays}

-- pile 2: a free list to multiples of 8 over a rounding layer to powers of two, with nothing held
pub record Reusing {A : Type 0} (means : A → Meaning) (keeps : A → History → A → Type 0) (bottom : A) (trace out out' : List ℕ) (r : Result ℕ Fault) : Type 0 where
  pub start : FreeList (Rounded A Power) Grain
  pub end : FreeList (Rounded A Power) Grain
  pub below : start.below.below ≡ bottom
  pub held : listed start.held ≡ []
  pub replays : Replays (free_list_means 8192 grain (rounded_means 32768 power means)) (free_list_keeps grain (rounded_means 32768 power means) (rounded_keeps power keeps)) trace start end out out' r

-- pile 3
pub record Splitting {A B C : Type 0} (means₁ : A → Meaning) (keeps₁ : A → History → A → Type 0) (means₂ : B → Meaning) (keeps₂ : B → History → B → Type 0) (means₃ : C → Meaning) (keeps₃ : C → History → C → Type 0) (bottom₁ : A) (bottom₂ : B) (bottom₃ : C) (trace out out' : List ℕ) (r : Result ℕ Fault) : Type 0 where
  pub start : Segregator (FreeList A Power) (Quota (Fallback (Affix B) C))
  pub end : Segregator (FreeList A Power) (Quota (Fallback (Affix B) C))
  -- sizes up to 256 go to the free list to powers of two, with nothing held
  pub threshold : start.threshold ≡ 256
  pub small : start.pair.first.below ≡ bottom₁
  pub held : listed start.pair.first.held ≡ []
  -- the others go under a limit of 10,000 bytes to the fallback
  pub limit : start.pair.second.limit ≡ 10000
  pub account : start.pair.second.account ≡ 0
  pub large : start.pair.second.below.pair.first.below ≡ bottom₂
  pub last : start.pair.second.below.pair.second ≡ bottom₃
  pub replays : Replays
      (segregator_means (free_list_means 32768 power means₁) (quota_means (fallback_means (affix_means means₂) means₃)))
      (SegregatorKeeps (free_list_means 32768 power means₁) (free_list_keeps power means₁ keeps₁) (QuotaKeeps (fallback_means (affix_means means₂) means₃) (fallback_keeps (affix_means means₂) (AffixKeeps means₂ keeps₂) keeps₃)))
      trace start end out out' r

-- bottoms as they are made over a region of n bytes

pub record FreshBump (n : ℕ) (s : Bump) : Type 0 where
  pub region : length s.region.now ≡ n
  pub cursor : s.cursor ≡ 0

pub record FreshBitmap (n : ℕ) (s : Bitmap) : Type 0 where
  pub region : length s.region.now ≡ n
  pub used : (x : ℕ) → used_in s.maps x ≡ false
  pub first : (x : ℕ) → first_in s.maps x ≡ false

pub record FreshTags (n : ℕ) (s : BoundaryTag) : Type 0 where
  pub region : length s.region.now ≡ n
  pub chunks : chunks s.region.now ≡ one_free n

-- what bottoms mean and keep

abbrev pub bump_shown : Bump → Meaning
bump_shown s = bump_means s.region.now s.cursor

abbrev pub bump_kept : Bump → History → Bump → Type 0
bump_kept from h s = BumpKeeps from.region.now from.cursor h s.region.now s.cursor

abbrev pub bitmap_shown : Bitmap → Meaning
bitmap_shown s = bitmap_means s.region.now (used_in s.maps) (first_in s.maps)

abbrev pub bitmap_kept : Bitmap → History → Bitmap → Type 0
bitmap_kept from h s = BitmapKeeps from.region.now (used_in from.maps) (first_in from.maps) h s.region.now (used_in s.maps) (first_in s.maps)

abbrev pub tags_shown : BoundaryTag → Meaning
tags_shown s = tag_means s.region.now

abbrev pub tags_kept : BoundaryTag → History → BoundaryTag → Type 0
tags_kept from h s = TagKeeps from.region.now h s.region.now

-- a replay on a pile, from the moment that it was made
pub data OnPile (trace out out' : List ℕ) (r : Result ℕ Fault) : Pile → Type 0 where
  -- bump 16,384
  one : (s s' : Bump) → FreshBump 16384 s → Replays bump_shown bump_kept trace s s' out out' r → OnPile trace out out' r pile.Bump
  -- free list over rounding layer over bitmap 16,384
  two : (b : Bitmap) → FreshBitmap 16384 b → Reusing bitmap_shown bitmap_kept b trace out out' r → OnPile trace out out' r pile.Reusing
  -- segregator of free list over bitmap 8,192, and quota over fallback of affix over boundary tag 8,192 and bump 4,096
  three : (a : Bitmap) (b : BoundaryTag) (c : Bump) → FreshBitmap 8192 a → FreshTags 8192 b → FreshBump 4096 c → Splitting bitmap_shown bitmap_kept tags_shown tags_kept bump_shown bump_kept a b c trace out out' r → OnPile trace out out' r pile.Splitting

-- the pile that the first of frames names; pile 1 where it names none
abbrev pub first_pile : List Frame → Pile
first_pile [] = pile.Bump
first_pile (f ∷ fs) = result_unwrap_or (pile_of f) pile.Bump

-- a replay on a pile, which is the one that the trace names if it is accepted
pub record OnOwnPile (trace out out' : List ℕ) (r : Result ℕ Fault) : Type 0 where
  pub pile : Pile
  pub named : (x : Recording) → recorded trace ≡ Ok x → x.pile ≡ pile
  pub replayed : OnPile trace out out' r pile

-- what a trace is answered in a buffer of at least 256 bytes: the report of a replay on its own pile; or, where the trace is refused, the line that says why
abbrev pub Answers : List ℕ → List ℕ → List ℕ → Result ℕ Fault → Type 0
Answers trace out out' (Ok n) = OnOwnPile trace out out' (Ok n) ⊎ ((f : Fault) × (recorded trace ≡ Err f) × Writes (refusal_text f) out out' (Ok n))
Answers trace out out' (Err f) = (length out < 256) × (out' ≡ out) × (f ≡ raised ReportBuffer Replay 256)

-- Frames as bytes, and what a frame asks for.
use Rattle.std.specs.Prelude.{◌≡◌, ℕ, ◌+◌, ◌*◌, ◌/◌, ◌%◌, ◌<◌, ◌≤◌, cond, ◌&&◌, List, [], ◌∷◌, ◌++◌, length, take, drop, Some, None, Ok, Err, Option, Result, ◌==◌, nat_le}
use Rattle.std.specs.List.{flat_map}
use Rattle.heap.specs.declared.fault.Cause.{Cause}
use Rattle.heap.specs.declared.fault.Cause.TheVariants.{FrameKind, FrameField, PileNumber}
use Rattle.trace.specs.declared.frame.Frame.{Frame}
use Rattle.trace.specs.declared.frame.Frames.{Frames}
use Rattle.trace.specs.declared.frame.Pile.{Pile}
use Rattle.trace.specs.declared.frame.Pile.TheVariants.{Bump, Reusing, Splitting}
use Rattle.trace.specs.declared.frame.Action.{Action}
use Rattle.trace.specs.declared.frame.Action.TheVariants.{Allocate, Free, Fill, Relief}

-- kind, id, and the number with its highest byte first
abbrev pub frame_bytes : Frame → List ℕ
frame_bytes f = f.kind ∷ f.id ∷ (f.number / 16777216 % 256) ∷ (f.number / 65536 % 256) ∷ (f.number / 256 % 256) ∷ (f.number % 256) ∷ []

abbrev pub trace_bytes : List Frame → List ℕ
trace_bytes fs = flat_map frame_bytes fs

-- the whole frames from the first byte on; fewer than six bytes at the end are no frame
abbrev pub frames_of : List ℕ → List Frame
frames_of (k ∷ i ∷ a ∷ b ∷ c ∷ d ∷ rest) = record { kind = k; id = i; number = a * 16777216 + b * 65536 + c * 256 + d } ∷ frames_of rest
frames_of [] = []
frames_of (_ ∷ []) = []
frames_of (_ ∷ _ ∷ []) = []
frames_of (_ ∷ _ ∷ _ ∷ []) = []
frames_of (_ ∷ _ ∷ _ ∷ _ ∷ []) = []
frames_of (_ ∷ _ ∷ _ ∷ _ ∷ _ ∷ []) = []

-- frames written to the front of a buffer, where they read as the same frames, with the number of bytes; or a buffer too short for them, which is left as it was
abbrev pub Wrote : List Frame → List ℕ → List ℕ → Option ℕ → Type 0
Wrote fs out out' (Some n) = (n ≡ 6 * length fs) × (n ≤ length out) × (out' ≡ trace_bytes fs ++ drop n out) × (frames_of (take n out') ≡ fs)
Wrote fs out out' None = (length out < 6 * length fs) × (out' ≡ out)

-- the frames that an iterator has still to give
abbrev pub frames_left : Frames → List Frame
frames_left it = frames_of it.rest.now

abbrev pub pile_number : Pile → ℕ
pile_number Bump = 1
pile_number Reusing = 2
pile_number Splitting = 3

-- the pile of a number: there are piles 1 to 3
abbrev pub pile_numbered : ℕ → Result Pile Cause
pile_numbered n =
    cond (n == 1) (Ok Bump)
    (cond (n == 2) (Ok Reusing)
    (cond (n == 3) (Ok Splitting) (Err PileNumber)))

-- the pile that a head names: its kind is 0, and it uses no id
abbrev pub pile_of : Frame → Result Pile Cause
pile_of f =
    cond (f.kind == 0)
    (cond (f.id == 0) (pile_numbered f.number) (Err FrameField))
    (Err FrameKind)

-- what a frame behind the head asks for, by its kind: a field that the kind does not use is 0, and a fill has a byte for its number
abbrev pub action_of : Frame → Result Action Cause
action_of f =
    cond (f.kind == 1) (Ok (Allocate f.id f.number))
    (cond (f.kind == 2) (cond (f.number == 0) (Ok (Free f.id)) (Err FrameField))
    (cond (f.kind == 3) (cond (nat_le f.number 255) (Ok (Fill f.id f.number)) (Err FrameField))
    (cond (f.kind == 4) (cond (f.id == 0 && f.number == 0) (Ok Relief) (Err FrameField))
    (Err FrameKind))))

-- the id whose slot an action is about; relief is about none
abbrev pub id_of : Action → ℕ
id_of (Allocate i n) = i
id_of (Free i) = i
id_of (Fill i v) = i
id_of Relief = 0

-- The numbers of causes and kinds, and how a fault is made and handed up.
use Rattle.std.specs.Prelude.{ℕ, ◌+◌, min, Ok, Err, Result}
use Rattle.heap.specs.declared.fault.Fault.{Fault}
use Rattle.heap.specs.declared.fault.Cause.{Cause}
use Rattle.heap.specs.declared.fault.Cause.TheVariants.{Zero, TooLarge, NotLive, Outside, Full, Shut, OverQuota, TraceLength, FrameKind, FrameField, PileNumber, ReportBuffer, SlotTaken, SlotEmpty}
use Rattle.heap.specs.declared.fault.Kind.{Kind}
use Rattle.heap.specs.declared.fault.Kind.TheVariants.{Replay, Bump, Bitmap, BoundaryTag, Rounding, Affix, FreeList, Quota, Segregator, Fallback}

abbrev pub cause_number : Cause → ℕ
-- a size, or the count of a fill, is 0
cause_number Zero = 1
-- a size above 32,768, or above the largest of the rounding that meets it
cause_number TooLarge = 2
-- no live block begins at the address given to free
cause_number NotLive = 3
-- the address of get, or some byte of a fill, lies outside one single live block
cause_number Outside = 4
-- a bottom has no space
cause_number Full = 5
-- the second heap of a pair is shut
cause_number Shut = 6
-- a quota would be passed
cause_number OverQuota = 7
-- a trace is empty, too long or not whole frames
cause_number TraceLength = 11
-- a frame's kind is none, or not the one for its place
cause_number FrameKind = 12
-- a field that the kind does not use is not 0, or the number of a fill is above 255
cause_number FrameField = 13
-- the pile number is not 1 to 3
cause_number PileNumber = 14
-- the report buffer is too short
cause_number ReportBuffer = 18
-- the frame's id already holds a block
cause_number SlotTaken = 21
-- the frame's id holds none
cause_number SlotEmpty = 22

abbrev pub kind_number : Kind → ℕ
kind_number Replay = 0
kind_number Bump = 1
kind_number Bitmap = 2
kind_number BoundaryTag = 3
kind_number Rounding = 4
kind_number Affix = 5
kind_number FreeList = 6
kind_number Quota = 7
kind_number Segregator = 8
kind_number Fallback = 9

-- a fault where it is raised
abbrev pub raised : Cause → Kind → ℕ → Fault
raised c k p = record { cause = c; kind = k; down = 0; place = p }

-- one layer further up
abbrev pub handed_up : Fault → Fault
handed_up f = record { cause = f.cause; kind = f.kind; down = min 255 (f.down + 1); place = f.place }

-- what a layer answers where it was answered so below, and lets the fault through
abbrev pub up : {A : Type 0} → Result A Fault → Result A Fault
up (Ok a) = Ok a
up (Err f) = Err (handed_up f)

-- what it answers where it raises the fault itself, for the place that it was given
abbrev pub own : {A : Type 0} → Kind → ℕ → Result A Fault → Result A Fault
own k p (Ok a) = Ok a
own k p (Err f) = Err (raised f.cause k p)

abbrev pub and_then : {A B : Type 0} → Result A Fault → (A → Result B Fault) → Result B Fault
and_then (Ok a) f = f a
and_then (Err e) f = Err e

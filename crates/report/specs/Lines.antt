-- The lines of a report, in upper-case hex.
use Rattle.std.specs.Prelude.{◌≡◌, ℕ, ◌+◌, ◌/◌, ◌%◌, ◌<◌, ◌≤◌, cond, List, [], ◌∷◌, ◌++◌, length, take, drop, Some, None, Ok, Err, Option, Result, ◌==◌, nat_lt}
use Rattle.std.specs.List.{flat_map}
use Rattle.heap.specs.declared.fault.Fault.{Fault}
use Rattle.heap.specs.declared.fault.Cause.TheVariants.{ReportBuffer}
use Rattle.heap.specs.declared.fault.Kind.TheVariants.{Replay}
use Rattle.heap.specs.Faults.{cause_number, kind_number, raised}
use Rattle.report.specs.declared.lines.Field.{Field}
use Rattle.report.specs.declared.lines.Field.TheVariants.{Byte, Half, Word}
use Rattle.report.specs.declared.tally.Tally.{Tally}

-- 0 to 9, then A to F
abbrev pub digit : ℕ → ℕ
digit n = cond (nat_lt n 10) (48 + n) (55 + n)

abbrev pub hex_byte : ℕ → List ℕ
hex_byte b = digit (b / 16) ∷ digit (b % 16) ∷ []

-- a field's bytes, the highest first
abbrev pub field_bytes : Field → List ℕ
field_bytes (Byte b) = b ∷ []
field_bytes (Half n) = (n / 256 % 256) ∷ (n % 256) ∷ []
field_bytes (Word n) = (n / 16777216 % 256) ∷ (n / 65536 % 256) ∷ (n / 256 % 256) ∷ (n % 256) ∷ []

abbrev pub hex_field : Field → List ℕ
hex_field f = flat_map hex_byte (field_bytes f)

-- the fields one after another, and a newline
abbrev pub line : List Field → List ℕ
line fields = flat_map hex_field fields ++ (10 ∷ [])

-- line 10: the pile, frames, granted, freed and refused
abbrev pub counts_line : ℕ → Tally → List ℕ
counts_line pile t = line (Byte 16 ∷ Byte pile ∷ Word t.frames ∷ Word t.granted ∷ Word t.freed ∷ Word t.refused ∷ [])

-- line 11: blocks and bytes in slots, at their peaks and at the end
abbrev pub load_line : Tally → List ℕ
load_line t = line (Byte 17 ∷ Half t.peak.blocks ∷ Word t.peak.bytes ∷ Half t.load.blocks ∷ Word t.load.bytes ∷ [])

-- lines 12: refusals by kind, for the counts of the kinds from k on that are above 0
abbrev pub kind_lines : ℕ → List ℕ → List ℕ
kind_lines k [] = []
kind_lines k (n ∷ ns) = cond (n == 0) [] (line (Byte 18 ∷ Byte k ∷ Word n ∷ [])) ++ kind_lines (k + 1) ns

-- line 13: the first refused frame
abbrev pub first_line : Option (ℕ × Fault) → List ℕ
first_line None = []
first_line (Some p) = line (Byte 19 ∷ Word p.0 ∷ Byte (cause_number p.1.cause) ∷ Byte (kind_number p.1.kind) ∷ Byte p.1.down ∷ Word p.1.place ∷ [])

abbrev pub report_text : ℕ → Tally → List ℕ
report_text pile t = counts_line pile t ++ (load_line t ++ (kind_lines 0 t.kinds ++ first_line t.first))

-- line 1F: why a trace was refused, and at which frame
abbrev pub refusal_text : Fault → List ℕ
refusal_text f = line (Byte 31 ∷ Byte (cause_number f.cause) ∷ Word f.place ∷ [])

-- text laid over a buffer from a place on
abbrev pub laid : List ℕ → ℕ → List ℕ → List ℕ
laid out at text = take at out ++ (text ++ drop (at + length text) out)

-- the test of a buffer of this length
abbrev pub checked_buffer : ℕ → Result (Unit {0}) Fault
checked_buffer n = cond (nat_lt n 256) (Err (raised ReportBuffer Replay 256)) (Ok tt)

-- a text at the front of a lent buffer, with its length; or a buffer below 256 bytes, which is left as it was
abbrev pub Writes : List ℕ → List ℕ → List ℕ → Result ℕ Fault → Type 0
Writes text out out' (Ok n) = (256 ≤ length out) × (n ≡ length text) × (out' ≡ text ++ drop n out)
Writes text out out' (Err f) = (length out < 256) × (out' ≡ out) × (f ≡ raised ReportBuffer Replay 256)

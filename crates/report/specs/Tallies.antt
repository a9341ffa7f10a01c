-- What a report tells of the outcomes of a replay's frames.
use Rattle.std.specs.Prelude.{ℕ, ◌+◌, ◌-◌, ◌<◌, max, Bool, true, false, List, [], ◌∷◌, map, length, Some, None, fold, count_by, Option, ◌==◌}
use Rattle.std.specs.List.{range_with_len}
use Rattle.heap.specs.declared.fault.Fault.{Fault}
use Rattle.heap.specs.Faults.{kind_number}
use Rattle.report.specs.declared.tally.Outcome.{Outcome}
use Rattle.report.specs.declared.tally.Outcome.TheVariants.{Granted, Freed, Done, Refused}
use Rattle.report.specs.declared.tally.Load.{Load}
use Rattle.report.specs.declared.tally.Tally.{Tally}

abbrev pub is_granted : Outcome → Bool
is_granted (Granted c) = true
is_granted (Freed c) = false
is_granted Done = false
is_granted (Refused f) = false

abbrev pub is_freed : Outcome → Bool
is_freed (Granted c) = false
is_freed (Freed c) = true
is_freed Done = false
is_freed (Refused f) = false

abbrev pub is_refused : Outcome → Bool
is_refused (Granted c) = false
is_refused (Freed c) = false
is_refused Done = false
is_refused (Refused f) = true

-- refused by a fault of this kind
abbrev pub is_refused_by : ℕ → Outcome → Bool
is_refused_by k (Granted c) = false
is_refused_by k (Freed c) = false
is_refused_by k Done = false
is_refused_by k (Refused f) = kind_number f.kind == k

-- a block granted comes into the slots, one that is freed leaves them
abbrev pub load_after : Load → Outcome → Load
load_after l (Granted c) = record { blocks = l.blocks + 1; bytes = l.bytes + c }
load_after l (Freed c) = record { blocks = l.blocks - 1; bytes = l.bytes - c }
load_after l Done = l
load_after l (Refused f) = l

-- the numbers of a load fit their types
pub record Loadable (l : Load) : Type 0 where
  pub blocks : l.blocks < 65536
  pub bytes : l.bytes < 4294967296

abbrev pub load_of : List Outcome → Load
load_of os = fold load_after (record { blocks = 0; bytes = 0 }) os

-- the list up to each moment: before the first element, and after each
abbrev pub prefixes : {A : Type 0} → List A → List (List A)
prefixes [] = [] ∷ []
prefixes (x ∷ xs) = [] ∷ map (λ p. x ∷ p) (prefixes xs)

abbrev pub highest : List ℕ → ℕ
highest [] = 0
highest (n ∷ ns) = max n (highest ns)

-- the most at any moment
abbrev pub peak_of : List Outcome → Load
peak_of os = record {
  blocks = highest (map (λ p. (load_of p).blocks) (prefixes os));
  bytes = highest (map (λ p. (load_of p).bytes) (prefixes os));
}

-- the refusals of each kind from 0 to 11
unfoldable pub kinds_of : List Outcome → List ℕ
kinds_of os = map (λ k. count_by (is_refused_by k) os) (range_with_len 0 12)

-- the first refusal of frames that are numbered from n on, with its number
abbrev pub first_from : ℕ → List Outcome → Option (ℕ × Fault)
first_from n [] = None
first_from n (Refused f ∷ os) = Some (n, f)
first_from n (Granted c ∷ os) = first_from (n + 1) os
first_from n (Freed c ∷ os) = first_from (n + 1) os
first_from n (Done ∷ os) = first_from (n + 1) os

-- the frames behind the head are numbered from 1 on
abbrev pub tally_of : List Outcome → Tally
tally_of os = record {
  frames = length os;
  granted = count_by is_granted os;
  freed = count_by is_freed os;
  refused = count_by is_refused os;
  load = load_of os;
  peak = peak_of os;
  kinds = kinds_of os;
  first = first_from 1 os;
}

-- every number of a tally of these outcomes fits its type
pub record Countable (os : List Outcome) : Type 0 where
  pub frames : length os < 4294967296
  pub load : Loadable (load_of os)

-- A tally with one outcome more.
use Rattle.std.proofs.Common.{◌≡◌, ℕ, ◌+◌, ◌<◌, max, min, Bool, true, false, cond, eqb, List, [], ◌∷◌, ◌++◌, map, length, get_or, set, Some, None, count_by, Option, sym, refl, ap, ◌∙◌, subst, ⊎_elim, arith, lit<, length-set}
use mathlib.Core.List.{map-append}
use Rattle.std.proofs.lemmas.List.FromFn.{get_or-map-range_with_len, fill_by_all}
use Rattle.std.proofs.lemmas.List.{get_or-set_same, get_or-set_other, length_push}
use Rattle.std.specs.Option.{option_or}
use Rattle.std.proofs.lemmas.List.Sums.{sum_by_push, fold_push, count_by-le-length}
use Rattle.std.proofs.lemmas.Bool.{cases_eq, eq-eqb, ne_eqb}
use Rattle.heap.specs.declared.fault.Fault.{Fault}
use Rattle.heap.specs.declared.fault.Kind.{Kind}
use Rattle.heap.specs.declared.fault.Kind.TheVariants.{Replay, Bump, Bitmap, BoundaryTag, Rounding, Affix, FreeList, Quota, Segregator, Fallback}
use Rattle.heap.specs.Faults.{kind_number}
use Rattle.report.specs.declared.tally.Outcome.{Outcome}
use Rattle.report.specs.declared.tally.Outcome.TheVariants.{Granted, Freed, Done, Refused}
use Rattle.report.specs.declared.tally.Load.{Load}
use Rattle.report.specs.declared.tally.Tally.{Tally}
use Rattle.report.specs.Tallies.{is_granted, is_freed, is_refused, is_refused_by, load_after, load_of, prefixes, highest, peak_of, kinds_of, first_from, tally_of}

pub count_push : (p : Outcome → Bool) (os : List Outcome) (o : Outcome) → count_by p (os ++ (o ∷ [])) ≡ count_by p os + cond (p o) 1 0
count_push p os o = sum_by_push (λ x. cond (p x) 1 0) os o

pub kind_few : (k : Kind) → kind_number k < 12
kind_few Replay = lit< tt
kind_few Bump = lit< tt
kind_few Bitmap = lit< tt
kind_few BoundaryTag = lit< tt
kind_few Rounding = lit< tt
kind_few Affix = lit< tt
kind_few FreeList = lit< tt
kind_few Quota = lit< tt
kind_few Segregator = lit< tt
kind_few Fallback = lit< tt

pub length_kinds : (os : List Outcome) → length (kinds_of os) ≡ 12
unfolding kinds_of
length_kinds os = refl

pub getD_kinds : (os : List Outcome) (k : ℕ) → k < 12 → get_or (kinds_of os) k 0 ≡ count_by (is_refused_by k) os
unfolding kinds_of
getD_kinds os k h = get_or-map-range_with_len (λ k. count_by (is_refused_by k) os) 0 12 k k 0 h (omega arith)

-- a list with the counts of one outcome more is theirs
kinds_from : (os : List Outcome) (o : Outcome) (ns : List ℕ) → length ns ≡ 12 → ((k : ℕ) → k < 12 → get_or ns k 0 ≡ count_by (is_refused_by k) os + cond (is_refused_by k o) 1 0) → ns ≡ kinds_of (os ++ (o ∷ []))
unfolding kinds_of
kinds_from os o ns e h = fill_by_all (λ k. count_by (is_refused_by k) (os ++ (o ∷ []))) ns 12 0 e (λ k l. h k l ∙ sym (count_push (is_refused_by k) os o))

pub kinds_other : (os : List Outcome) (o : Outcome) → ((f : Fault) → o ≡ Refused f → ⊥) → kinds_of os ≡ kinds_of (os ++ (o ∷ []))
kinds_other os o e = kinds_from os o (kinds_of os) (length_kinds os) (λ k h. getD_kinds os k h ∙ none k o e)
  where
    none : (k : ℕ) (p : Outcome) → ((f : Fault) → p ≡ Refused f → ⊥) → count_by (is_refused_by k) os ≡ count_by (is_refused_by k) os + cond (is_refused_by k p) 1 0
    none k (Granted c) e = omega arith
    none k (Freed c) e = omega arith
    none k Done e = omega arith
    none k (Refused f) e = absurd (e f refl)

pub kinds_refused : (os : List Outcome) (f : Fault) (n : ℕ) → n ≡ get_or (kinds_of os) (kind_number f.kind) 0 + 1 → set (kinds_of os) (kind_number f.kind) n ≡ kinds_of (os ++ (Refused f ∷ []))
kinds_refused os f n e =
    let j = kind_number f.kind in
    let few = kind_few f.kind in
    let long : j < length (kinds_of os) = subst (λ (z : ℕ). j < z) (sym (length_kinds os)) few in
    kinds_from os (Refused f) (set (kinds_of os) j n) (length-set (kinds_of os) j n ∙ length_kinds os)
    (λ k h. ⊎_elim
    (λ (q : k ≡ j). subst (λ (z : ℕ). get_or (set (kinds_of os) j n) z 0 ≡ count_by (is_refused_by z) os + cond (eqb j z) 1 0) (sym q)
    (let s = get_or-set_same (kinds_of os) j n 0 long in let g = getD_kinds os j few in let t = eq-eqb j j refl in grind arith))
    (λ (q : k ≡ j → ⊥). let s = get_or-set_other (kinds_of os) j k n 0 q in let g = getD_kinds os k h in let t = ne_eqb j k (λ z. q (sym z)) in grind arith)
    (cases_eq k j))

-- the first refusal, where there was none before
pub first_none : (n : ℕ) (os more : List Outcome) → first_from n os ≡ None → first_from n (os ++ more) ≡ first_from (n + length os) more
first_none n [] more e = ap (λ (z : ℕ). first_from z more) (omega arith)
first_none n (Refused f ∷ os) more e = cc
first_none n (Granted c ∷ os) more e = first_none (n + 1) os more e ∙ ap (λ (z : ℕ). first_from z more) (omega arith)
first_none n (Freed c ∷ os) more e = first_none (n + 1) os more e ∙ ap (λ (z : ℕ). first_from z more) (omega arith)
first_none n (Done ∷ os) more e = first_none (n + 1) os more e ∙ ap (λ (z : ℕ). first_from z more) (omega arith)

-- it stays the first
pub first_some : (n : ℕ) (os more : List Outcome) (p : ℕ × Fault) → first_from n os ≡ Some p → first_from n (os ++ more) ≡ Some p
first_some n [] more p e = cc
first_some n (Refused f ∷ os) more p e = e
first_some n (Granted c ∷ os) more p e = first_some (n + 1) os more p e
first_some n (Freed c ∷ os) more p e = first_some (n + 1) os more p e
first_some n (Done ∷ os) more p e = first_some (n + 1) os more p e

-- with one refusal more
first_refused : (os : List Outcome) (f : Fault) (n : ℕ) → n ≡ length os + 1 → option_or (first_from 1 os) (Some (n, f)) ≡ first_from 1 (os ++ (Refused f ∷ []))
first_refused os f n e = by_first (first_from 1 os) refl
  where
    by_first : (r : Option (ℕ × Fault)) → first_from 1 os ≡ r → option_or r (Some (n, f)) ≡ first_from 1 (os ++ (Refused f ∷ []))
    by_first (Some p) h = sym (first_some 1 os (Refused f ∷ []) p h)
    by_first None h = ap (λ (z : ℕ). Some (z, f)) (omega arith) ∙ sym (first_none 1 os (Refused f ∷ []) h)

-- and with another frame
pub first_other : (n : ℕ) (os : List Outcome) (o : Outcome) → ((f : Fault) → o ≡ Refused f → ⊥) → first_from n (os ++ (o ∷ [])) ≡ first_from n os
first_other n [] (Granted c) other = refl
first_other n [] (Freed c) other = refl
first_other n [] Done other = refl
first_other n [] (Refused f) other = absurd (other f refl)
first_other n (Refused f ∷ os) o other = refl
first_other n (Granted c ∷ os) o other = first_other (n + 1) os o other
first_other n (Freed c ∷ os) o other = first_other (n + 1) os o other
first_other n (Done ∷ os) o other = first_other (n + 1) os o other

prefixes_push : (os : List Outcome) (o : Outcome) → prefixes (os ++ (o ∷ [])) ≡ prefixes os ++ ((os ++ (o ∷ [])) ∷ [])
prefixes_push [] o = refl
prefixes_push (p ∷ os) o = ap (λ (z : List (List Outcome)). [] ∷ map (λ q. p ∷ q) z) (prefixes_push os o) ∙ ap (λ (z : List (List Outcome)). [] ∷ z) (map-append (λ q. p ∷ q) (prefixes os) ((os ++ (o ∷ [])) ∷ []))

highest_push : (ns : List ℕ) (n : ℕ) → highest (ns ++ (n ∷ [])) ≡ max (highest ns) n
highest_push [] n = omega arith
highest_push (m ∷ ns) n = let i = highest_push ns n in omega arith

peak_push : (f : List Outcome → ℕ) (os : List Outcome) (o : Outcome) → highest (map f (prefixes (os ++ (o ∷ [])))) ≡ max (highest (map f (prefixes os))) (f (os ++ (o ∷ [])))
peak_push f os o = ap (λ (z : List (List Outcome)). highest (map f z)) (prefixes_push os o) ∙ ap highest (map-append f (prefixes os) ((os ++ (o ∷ [])) ∷ [])) ∙ highest_push (map f (prefixes os)) (f (os ++ (o ∷ [])))

pub load_push : (os : List Outcome) (o : Outcome) → load_of (os ++ (o ∷ [])) ≡ load_after (load_of os) o
load_push os o = fold_push load_after (record { blocks = 0; bytes = 0 }) os o

pub peaks_push : (os : List Outcome) (o : Outcome) (l : Load) → l ≡ load_of (os ++ (o ∷ [])) → peak_of (os ++ (o ∷ [])) ≡ record { blocks = max (peak_of os).blocks l.blocks; bytes = max (peak_of os).bytes l.bytes }
peaks_push os o l e =
    let b = peak_push (λ p. (load_of p).blocks) os o in
    let c = peak_push (λ p. (load_of p).bytes) os o in
    cc

-- the tally of no frames
pub nothing : (frames granted freed refused blocks bytes most_blocks most_bytes : ℕ) (kinds : List ℕ) (first : Option (ℕ × Fault)) → frames ≡ 0 → granted ≡ 0 → freed ≡ 0 → refused ≡ 0 → (blocks ≡ 0) × (bytes ≡ 0) → (most_blocks ≡ 0) × (most_bytes ≡ 0) → length kinds ≡ 12 → ((k : ℕ) → k < 12 → get_or kinds k 0 ≡ 0) → first ≡ None
    → record { frames = frames; granted = granted; freed = freed; refused = refused; load = record { blocks = blocks; bytes = bytes }; peak = record { blocks = most_blocks; bytes = most_bytes }; kinds = kinds; first = first } ≡ tally_of []
unfolding kinds_of
nothing _ _ _ _ _ _ _ _ kinds _ a b c d load peak long each f =
    let k : kinds ≡ kinds_of [] = fill_by_all (λ k. count_by (is_refused_by k) []) kinds 12 0 long each in
    rw (a, b, c, d, load.0, load.1, peak.0, peak.1, k, f) refl

-- the counts of a frame more

one_more : (p : Outcome → Bool) (os : List Outcome) (o : Outcome) (n r : ℕ) → length os + 1 < 4294967296 → n ≡ count_by p os → p o ≡ true → r ≡ min (n + 1) 4294967295 → r ≡ count_by p (os ++ (o ∷ []))
one_more p os o n r few e t h =
    let l = count_by-le-length p os in
    let s : count_by p (os ++ (o ∷ [])) ≡ count_by p os + 1 = count_push p os o ∙ ap (λ (b : Bool). count_by p os + cond b 1 0) t in
    omega arith

no_more : (p : Outcome → Bool) (os : List Outcome) (o : Outcome) (n : ℕ) → n ≡ count_by p os → p o ≡ false → n ≡ count_by p (os ++ (o ∷ []))
no_more p os o n e f =
    let s : count_by p (os ++ (o ∷ [])) ≡ count_by p os + 0 = count_push p os o ∙ ap (λ (b : Bool). count_by p os + cond b 1 0) f in
    omega arith

-- a tally of os that counts o too, but for the loads
pub record Counted (t : Tally) (os : List Outcome) (o : Outcome) : Type 0 where
  pub frames : t.frames ≡ length os + 1
  pub granted : t.granted ≡ count_by is_granted (os ++ (o ∷ []))
  pub freed : t.freed ≡ count_by is_freed (os ++ (o ∷ []))
  pub refused : t.refused ≡ count_by is_refused (os ++ (o ∷ []))
  pub load : t.load ≡ load_of os
  pub peak : t.peak ≡ peak_of os
  pub kinds : t.kinds ≡ kinds_of (os ++ (o ∷ []))
  pub first : t.first ≡ first_from 1 (os ++ (o ∷ []))

module _ (t : Tally) (os : List Outcome) (f n : ℕ) (few : length os + 1 < 4294967296) (e : t ≡ tally_of os) (h : f ≡ min (t.frames + 1) 4294967295) where
  all_frames : f ≡ length os + 1
  all_frames = let l = ap (λ (z : Tally). z.frames) e in omega arith

  -- an accepted frame is no refusal
  same_kinds : (o : Outcome) → ((g : Fault) → o ≡ Refused g → ⊥) → t.kinds ≡ kinds_of (os ++ (o ∷ []))
  same_kinds o other = ap (λ (z : Tally). z.kinds) e ∙ kinds_other os o other

  same_first : (o : Outcome) → ((g : Fault) → o ≡ Refused g → ⊥) → t.first ≡ first_from 1 (os ++ (o ∷ []))
  same_first o other = ap (λ (z : Tally). z.first) e ∙ sym (first_other 1 os o other)

  pub counted_granted : (c : ℕ) → n ≡ min (t.granted + 1) 4294967295 → Counted (record t { frames = f; granted = n }) os (Granted c)
  counted_granted c k = record {
    frames = all_frames;
    granted = one_more is_granted os (Granted c) t.granted n few (ap (λ (z : Tally). z.granted) e) refl k;
    freed = no_more is_freed os (Granted c) t.freed (ap (λ (z : Tally). z.freed) e) refl;
    refused = no_more is_refused os (Granted c) t.refused (ap (λ (z : Tally). z.refused) e) refl;
    load = ap (λ (z : Tally). z.load) e;
    peak = ap (λ (z : Tally). z.peak) e;
    kinds = same_kinds (Granted c) (λ g u. cc);
    first = same_first (Granted c) (λ g u. cc);
  }

  pub counted_freed : (c : ℕ) → n ≡ min (t.freed + 1) 4294967295 → Counted (record t { frames = f; freed = n }) os (Freed c)
  counted_freed c k = record {
    frames = all_frames;
    granted = no_more is_granted os (Freed c) t.granted (ap (λ (z : Tally). z.granted) e) refl;
    freed = one_more is_freed os (Freed c) t.freed n few (ap (λ (z : Tally). z.freed) e) refl k;
    refused = no_more is_refused os (Freed c) t.refused (ap (λ (z : Tally). z.refused) e) refl;
    load = ap (λ (z : Tally). z.load) e;
    peak = ap (λ (z : Tally). z.peak) e;
    kinds = same_kinds (Freed c) (λ g u. cc);
    first = same_first (Freed c) (λ g u. cc);
  }

  pub counted_done : Counted (record t { frames = f }) os Done
  counted_done = record {
    frames = all_frames;
    granted = no_more is_granted os Done t.granted (ap (λ (z : Tally). z.granted) e) refl;
    freed = no_more is_freed os Done t.freed (ap (λ (z : Tally). z.freed) e) refl;
    refused = no_more is_refused os Done t.refused (ap (λ (z : Tally). z.refused) e) refl;
    load = ap (λ (z : Tally). z.load) e;
    peak = ap (λ (z : Tally). z.peak) e;
    kinds = same_kinds Done (λ g u. cc);
    first = same_first Done (λ g u. cc);
  }

  pub counted_refused : (g : Fault) (kinds : List ℕ) (first : Option (ℕ × Fault)) → n ≡ min (t.refused + 1) 4294967295 → (t.kinds ≡ kinds_of os → kinds ≡ kinds_of (os ++ (Refused g ∷ []))) → first ≡ option_or t.first (Some (f, g))
      → Counted (record t { frames = f; refused = n; kinds = kinds; first = first }) os (Refused g)
  counted_refused g kinds first k ks fs = record {
    frames = all_frames;
    granted = no_more is_granted os (Refused g) t.granted (ap (λ (z : Tally). z.granted) e) refl;
    freed = no_more is_freed os (Refused g) t.freed (ap (λ (z : Tally). z.freed) e) refl;
    refused = one_more is_refused os (Refused g) t.refused n few (ap (λ (z : Tally). z.refused) e) refl k;
    load = ap (λ (z : Tally). z.load) e;
    peak = ap (λ (z : Tally). z.peak) e;
    kinds = ks (ap (λ (z : Tally). z.kinds) e);
    first = fs ∙ ap (λ (z : Option (ℕ × Fault)). option_or z (Some (f, g))) (ap (λ (z : Tally). z.first) e) ∙ first_refused os g f all_frames;
  }

pub counted_as : (s t : Tally) (os : List Outcome) (o p : Outcome) → s ≡ t → o ≡ p → Counted t os p → Counted s os o
counted_as s t os o p a b w = subst (λ (z : Tally). Counted z os o) (sym a) (subst (λ (z : Outcome). Counted t os z) (sym b) w)

-- with its loads it is the tally
pub noted : (t : Tally) (os : List Outcome) (o : Outcome) (load peak : Load) → Counted t os o → load ≡ load_of (os ++ (o ∷ [])) → peak ≡ peak_of (os ++ (o ∷ [])) → record t { load = load; peak = peak } ≡ tally_of (os ++ (o ∷ []))
noted t os o load peak w l p =
    let n = length_push os o in
    let a = w.frames in
    let b = w.granted in
    let c = w.freed in
    let d = w.refused in
    let k = w.kinds in
    let f = w.first in
    cc

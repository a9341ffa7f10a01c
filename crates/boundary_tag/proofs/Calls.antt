-- What the calls of a boundary tag heap do to its meaning, and what it keeps.
use Rattle.std.proofs.Common.{◌≡◌, ℕ, ◌+◌, ◌-◌, ◌<◌, ◌≤◌, cond, eqb, leb, List, [], ◌∷◌, length, get_or, Some, Ok, Err, Result, sym, refl, ap, ◌∙◌, subst, inl, ⊎_elim, arith}
use Rattle.heap.specs.declared.fault.Fault.{Fault}
use Rattle.heap.specs.declared.fault.Kind.TheVariants.{BoundaryTag as TagK}
use Rattle.heap.specs.Faults.{and_then}
use Rattle.heap.specs.Checks.{admitted}
use Rattle.heap.specs.Meaning.{Block, Covered, Filled, Allocates, Frees, Fills, Same, NothingLive}
use Rattle.heap.specs.Histories.{History, filled, after_allocate, after_free, after_fill}
use Rattle.region.specs.Bytes.{span_of, Painted}
use Rattle.boundary_tag.specs.Chunks.{Chunk, chunk_at, tag_span, walk, chunks, live_in, end_in, chunks_granted, chunks_freed, chunks_after, one_free, Settled, tag_offer, tag_means, TagKept, TagKeeps, Written, Grants, Releases, Paint, Paints, Fresh}
use Rattle.boundary_tag.specs.Walks.{chunk_none, chunk_good, chunk_kept, walk_end, walk_step}
use Rattle.boundary_tag.specs.Lists.{live_cut}
use Rattle.boundary_tag.proofs.Places.{rewritten}
use Rattle.boundary_tag.specs.Keeping.{one_free_some, one_live}
use Rattle.boundary_tag.specs.Laws.{span_eighth, covered_span}
use Rattle.boundary_tag.proofs.Carving.{at_reach, at_chunk, at_rest, at_shape}
use Rattle.std.proofs.lemmas.Bool.{cond-true, cond-false, le-leb, lt-leb, cases_lt}

-- a new heap
at_least : (s : ℕ) → (cond (leb 24 s) s 0 ≡ 0 → ⊥) → 24 ≤ cond (leb 24 s) s 0
at_least s h =
    ⊎_elim
    (λ (q : s < 24). absurd (h (cond-false (leb 24 s) s 0 (lt-leb 24 s q))))
    (λ (q : 24 ≤ s). let e = cond-true (leb 24 s) s 0 (le-leb 24 s q) in omega arith)
    (cases_lt s 24)

pub span_some : (n : ℕ) → (tag_span n ≡ 0 → ⊥) → 24 ≤ tag_span n
unfolding tag_span
span_some n h = at_least (span_of n) h

pub start_none : (xs : List ℕ) → tag_span (length xs) ≡ 0 → Fresh xs xs
start_none xs e = record { long = refl; rest = λ x l. refl; list = walk_end xs (tag_span (length xs)) 0 (chunk_none xs (tag_span (length xs)) 0 (omega arith)) ∙ sym (ap one_free e) }

pub start_one : (xs ys : List ℕ) (span : ℕ) → span ≡ tag_span (length xs) → (span ≡ 0 → ⊥) → Written 0 span 0 xs ys → Fresh xs ys
start_one xs ys span e h w =
    let long = w.long in
    let same : tag_span (length ys) ≡ span = ap tag_span long ∙ sym e in
    let some : 24 ≤ span = let z = span_some (length xs) (λ q. h (e ∙ q)) in omega arith in
    let eighth = span_eighth (length xs) in
    let one : chunk_at ys span 0 ≡ Some (span, 0) = chunk_good ys span 0 (span, 0) (record { head = w.head; tail = w.tail }) (record { fits = omega arith; some = some; eighth = omega arith; state = inl refl }) in
    record {
      long = long;
      rest = λ x l. w.behind x (omega arith);
      list =
          ap (λ (z : ℕ). walk ys z 0) same
          ∙ walk_step ys span 0 (span, 0) one
          ∙ ap (λ (z : List Chunk). (span, 0) ∷ z) (walk_end ys span (0 + span) (chunk_none ys span (0 + span) (omega arith)))
          ∙ sym (one_free_some span h)
          ∙ ap one_free (sym same);
    }

pub fresh_none : (xs ys : List ℕ) → Fresh xs ys → NothingLive (tag_means ys)
fresh_none xs ys f a = ap (λ (cs : List Chunk). live_in cs 0 a) f.list ∙ one_live (tag_span (length ys)) a

same_region : (xs ys : List ℕ) → ys ≡ xs → Same (tag_means xs) (tag_means ys)
same_region xs ys e = subst (λ (z : List ℕ). Same (tag_means xs) (tag_means z)) (sym e) (record { kind = refl; span = refl; live = λ a. refl; byte = λ a x i. refl }, λ n. refl)

-- an allocate
module _ (xs ys : List ℕ) where
  pub tag_allocates : (r : Result Block Fault) → Grants xs ys r → Allocates (tag_means xs) (tag_means ys) r
  tag_allocates (Ok b) g = record { kind = refl; span = ap tag_span g.long; live = g.live; clear = g.clear; byte = g.byte }
  tag_allocates (Err f) e = same_region xs ys e

  pub keeps_allocates : (zs : List ℕ) (h : History) (n : ℕ) (r : Result Block Fault) → Grants xs ys r → TagKeeps zs h xs → TagKeeps zs (after_allocate n r h) ys
  keeps_allocates zs h n (Ok b) g k =
      let same : tag_span (length xs) ≡ tag_span (length zs) = ap tag_span k.long in
      let span : tag_span (length ys) ≡ tag_span (length xs) = ap tag_span g.long in
      record {
        long = g.long ∙ k.long;
        rest = λ x l. g.rest x (omega arith) ∙ k.rest x l;
        kept = λ e.
            let q = k.kept e in
            record {
              live = λ a. g.live a ∙ ap (λ (z : ℕ). cond (eqb a b.0) b.1 z) (q.live a);
              list =
                  g.list ∙ ap (λ (cs : List Chunk). chunks_granted cs 0 b.0 b.1) q.list
                  ∙ ap (λ (z : ℕ). chunks_granted (chunks_after z h) 0 b.0 b.1) (sym span);
              tiled = g.end ∙ q.tiled ∙ sym span;
              settled = g.settled q.settled;
            };
      }
  keeps_allocates zs h n (Err f) e k = subst (λ (z : List ℕ). TagKeeps zs h z) (sym e) k

-- a free
module _ (xs ys : List ℕ) (a : ℕ) where
  pub tag_frees : (r : Result (Unit {0}) Fault) → Releases a xs ys r → Frees a (tag_means xs) (tag_means ys) r
  tag_frees (Ok t) g = record { kind = refl; span = ap tag_span g.long; live = g.live; byte = g.byte }
  tag_frees (Err f) e = same_region xs ys e

  pub keeps_frees : (zs : List ℕ) (h : History) (r : Result (Unit {0}) Fault) → Releases a xs ys r → TagKeeps zs h xs → TagKeeps zs (after_free a r h) ys
  keeps_frees zs h (Ok t) g k =
      let same : tag_span (length xs) ≡ tag_span (length zs) = ap tag_span k.long in
      let span : tag_span (length ys) ≡ tag_span (length xs) = ap tag_span g.long in
      record {
        long = g.long ∙ k.long;
        rest = λ x l. g.rest x (omega arith) ∙ k.rest x l;
        kept = λ e.
            let q = k.kept e in
            record {
              live = λ y. g.live y ∙ ap (λ (z : ℕ). cond (eqb y a) 0 z) (q.live y);
              list = g.list ∙ ap (λ (cs : List Chunk). chunks_freed cs 0 a) q.list ∙ ap (λ (z : ℕ). chunks_freed (chunks_after z h) 0 a) (sym span);
              tiled = g.end ∙ q.tiled ∙ sym span;
              settled = g.settled q.settled;
            };
      }
  keeps_frees zs h (Err f) e k = subst (λ (z : List ℕ). TagKeeps zs h z) (sym e) k

-- a fill
module _ (xs ys : List ℕ) (a c v : ℕ) where
  module _ (some : 0 < c) (k : Covered (live_in (chunks xs) 0) a c) (p : Painted a c v xs ys) where
    fill_list : chunks ys ≡ chunks xs
    fill_list =
        let span = tag_span (length xs) in
        let from = k.from in
        let to = k.to in
        let u = live_cut (chunks xs) 0 k.start (omega arith) in
        let e0 = u.at in
        let w = u.cut in
        let e1 = w.at in
        let pre = w.before in
        let d = w.here in
        let post = w.behind in
        let size = u.size in
        let big = (at_shape xs pre d post w.whole).some in
        let lo : (x : ℕ) → x < end_in pre 0 + 8 → get_or ys x 0 ≡ get_or xs x 0 = λ x h. p.rest x (λ i. let f = i.from in omega arith) in
        let hi : (x : ℕ) → end_in pre 0 + d.0 - 8 ≤ x → get_or ys x 0 ≡ get_or xs x 0 = λ x h. p.rest x (λ i. let f = i.below in omega arith) in
        ap (λ (n : ℕ). walk ys (tag_span n) 0) p.long
        ∙ rewritten xs ys span pre (d ∷ []) post (end_in pre 0) (end_in pre 0 + d.0) (at_reach xs pre d post w.whole) (λ x h. lo x (omega arith)) (chunk_kept xs ys span (end_in pre 0) d lo hi (at_chunk xs pre d post w.whole), refl) (at_rest xs pre d post w.whole) (λ x h. hi x (omega arith))
        ∙ sym w.whole

    pub painted_paint : Paint a c v xs ys
    painted_paint = record { some = some; covered = k; painted = p; list = fill_list }

  module _ (p : Paint a c v xs ys) where
    tag_filled : Filled a c v (tag_means xs) (tag_means ys)
    tag_filled = record {
      kind = refl;
      span = ap tag_span p.painted.long;
      live = λ x. ap (λ (cs : List Chunk). live_in cs 0 x) p.list;
      set = p.painted.set;
      byte = λ b x i out. p.painted.rest x out;
      offers = λ n. ap (λ (cs : List Chunk). and_then (admitted 32768 TagK n) (tag_offer cs)) p.list;
    }

    keeps_filled : (zs : List ℕ) (h : History) → TagKeeps zs h xs → TagKeeps zs (filled a c v ∷ h) ys
    keeps_filled zs h k =
        let same : tag_span (length xs) ≡ tag_span (length zs) = ap tag_span k.long in
        let span : tag_span (length ys) ≡ tag_span (length xs) = ap tag_span p.painted.long in
        record {
          long = p.painted.long ∙ k.long;
          rest = λ x l. let w = covered_span xs a c p.some p.covered in p.painted.rest x (λ i. let hi = i.below in omega arith) ∙ k.rest x l;
          kept = λ e.
              let q = k.kept e in
              record {
                live = λ x. ap (λ (cs : List Chunk). live_in cs 0 x) p.list ∙ q.live x;
                list = p.list ∙ q.list ∙ ap (λ (z : ℕ). chunks_after z h) (sym span);
                tiled = ap (λ (cs : List Chunk). end_in cs 0) p.list ∙ q.tiled ∙ sym span;
                settled = subst Settled (sym p.list) q.settled;
              };
        }

  pub tag_fills : (r : Result (Unit {0}) Fault) → Paints a c v xs ys r → Fills a c v (tag_means xs) (tag_means ys) r
  tag_fills (Ok t) p = tag_filled p
  tag_fills (Err f) e = same_region xs ys e

  pub keeps_fills : (zs : List ℕ) (h : History) (r : Result (Unit {0}) Fault) → Paints a c v xs ys r → TagKeeps zs h xs → TagKeeps zs (after_fill a c v r h) ys
  keeps_fills zs h (Ok t) p k = keeps_filled p zs h k
  keeps_fills zs h (Err f) e k = subst (λ (z : List ℕ). TagKeeps zs h z) (sym e) k

-- what a boundary tag heap offers after a history, as a computation on the history
pub offers_after : (h : History) (xs : List ℕ) (n : ℕ) → TagKept h xs → (tag_means xs).offer n ≡ and_then (admitted 32768 TagK n) (tag_offer (chunks_after (tag_span (length xs)) h))
offers_after h xs n k = ap (λ (cs : List Chunk). and_then (admitted 32768 TagK n) (tag_offer cs)) k.list

-- What the calls of a bump heap do to its table and its meaning, and what it keeps.
use Rattle.std.proofs.Common.{◌≡◌, ℕ, ◌+◌, ◌-◌, ◌%◌, ◌<◌, ◌≤◌, min, true, false, cond, eqb, List, [], ◌∷◌, length, get_or, Some, sym, refl, ap, ◌∙◌, inl, ⊎_elim, arith}
use Rattle.heap.specs.declared.fault.Kind.TheVariants.{Bump as BumpK}
use Rattle.heap.specs.Faults.{and_then}
use Rattle.heap.specs.Checks.{admitted}
use Rattle.heap.specs.Meaning.{Block, In, Covered, Granted, Freed, Filled, NothingLive}
use Rattle.heap.specs.Histories.{History, granted, freed, filled}
use Rattle.region.specs.Bytes.{word_at, span_of, Painted}
use Rattle.bump.specs.Table.{Header, shaped, header_at, headers, walk, live_in, end_in, ended, none_live, bound_of, table, table_granted, table_freed, table_after, bump_offer, bump_means, BumpKept, BumpKeeps, Headed, Struck, Grant, Strike, Paint}
use Rattle.bump.specs.Walks.{shaped_good}
use Rattle.bump.proofs.Tables.{headers_struck, headers_painted, headers_grown, end_more, live_more, live_table_freed, end_table_freed}
use Rattle.bump.specs.Laws.{Fresh, bump_found, bump_apart, bump_reach, covered_span, empty_table}
use Rattle.std.proofs.lemmas.Bool.{cond-true, cond-false, eq-eqb, ne_eqb, cases_eq, cases_lt}

-- the region's table after a grant
headed_header : (p l : ℕ) (xs ys : List ℕ) (more : ℕ) → Headed p l xs ys → 8 ≤ l → l % 8 ≡ 0 → p + 8 + l ≤ more → header_at ys more p ≡ Some (l, 1)
unfolding header_at
headed_header p l xs ys more h o g f =
    ap (λ (z : ℕ). shaped more p z (word_at ys (p + 4))) h.size ∙ ap (λ (z : ℕ). shaped more p l z) h.state ∙ shaped_good more p l 1 f o g (inl refl)

grown_walk : (xs ys : List ℕ) (p l : ℕ) → Headed p l xs ys → 8 ≤ l → l % 8 ≡ 0 → end_in (walk xs p 0) 0 ≡ p → walk ys (p + 8 + l) 0 ≡ table_granted (walk xs p 0) l
unfolding walk
grown_walk xs ys p l h o g w = headers_grown (p - 0) xs ys p (p + 8 + l) 0 l h.before refl (headed_header p l xs ys (p + 8 + l) h o g (omega arith)) w

module _ (xs ys : List ℕ) (cursor n : ℕ) (b : Block) (f : Fresh xs cursor n b) where
  old_bound : bound_of xs cursor ≡ cursor
  old_bound = let w = f.fits in omega arith

  new_bound : length ys ≡ length xs → bound_of ys (b.0 + b.1) ≡ cursor + 8 + b.1
  new_bound e = let w = f.fits in let at = f.at in let s : span_of (length ys) ≡ span_of (length xs) = ap span_of e in omega arith

  pub headed_grant : Headed cursor b.1 xs ys → Grant cursor b xs ys
  headed_grant h = record {
    headed = h;
    table =
        ap (λ (z : ℕ). walk ys z 0) (new_bound h.long)
        ∙ grown_walk xs ys cursor b.1 h f.some f.eighth (sym (ap (λ (z : ℕ). end_in (walk xs z 0) 0) old_bound) ∙ f.whole)
        ∙ ap (λ (z : ℕ). table_granted (walk xs z 0) b.1) (sym old_bound);
  }

  module _ (g : Grant cursor b xs ys) where
    grant_live : (x : ℕ) → live_in (table ys (b.0 + b.1)) 0 x ≡ cond (eqb x b.0) b.1 (live_in (table xs cursor) 0 x)
    grant_live x =
        ap (λ (cs : List Header). live_in cs 0 x) g.table ∙ live_more (table xs cursor) 0 b.1 x
        ∙ ap (λ (z : ℕ). cond (eqb x z) b.1 (live_in (table xs cursor) 0 x)) (ap (λ (z : ℕ). z + 8) f.whole ∙ sym f.at)

    pub bump_granted : Granted b.0 b.1 (bump_means xs cursor) (bump_means ys (b.0 + b.1))
    bump_granted = record {
      kind = refl;
      span = ap span_of g.headed.long;
      live = grant_live;
      clear = λ x i. let lo = i.from in let hi = i.below in let at = f.at in g.headed.clear x (record { from = omega arith; below = omega arith });
      byte = λ a x i.
          let lo = i.from in
          let hi = i.below in
          let w = (bump_found xs cursor a (omega arith)).within in
          g.headed.before x (omega arith);
    }

    kept_granted : (h : History) → BumpKept h xs cursor → BumpKept (granted n b.0 b.1 ∷ h) ys (b.0 + b.1)
    kept_granted h k = record {
      live = λ a. grant_live a ∙ ap (λ (z : ℕ). cond (eqb a b.0) b.1 z) (k.live a);
      table = g.table ∙ ap (λ (cs : List Header). table_granted cs b.1) k.table;
      cursor =
          let at = f.at in
          let c = k.cursor in
          let e = end_more (table_after h) 0 b.1 in
          omega arith;
    }

    pub keeps_granted : (zs : List ℕ) (was : ℕ) (h : History) → BumpKeeps zs was h xs cursor → BumpKeeps zs was (granted n b.0 b.1 ∷ h) ys (b.0 + b.1)
    keeps_granted zs was h k = record {
      long = g.headed.long ∙ k.long;
      rest = λ x l.
          let w = f.fits in
          let s : span_of (length xs) ≡ span_of (length zs) = ap span_of k.long in
          g.headed.behind x (omega arith) ∙ k.rest x l;
      kept = λ z. kept_granted h (k.kept z);
    }

-- with the cursor at 0 nothing is live
pub bump_none : (xs : List ℕ) (cursor : ℕ) → cursor ≡ 0 → NothingLive (bump_means xs cursor)
bump_none xs cursor z x = ap (λ (q : ℕ). live_in (table xs q) 0 x) z ∙ ap (λ (cs : List Header). live_in cs 0 x) (empty_table xs)

-- the region's table once a state is struck
module _ (xs ys : List ℕ) (cursor a : ℕ) (was : 0 < live_in (table xs cursor) 0 a) (s : Struck a xs ys) where
  struck_bound : bound_of ys cursor ≡ bound_of xs cursor
  struck_bound = ap (λ (z : ℕ). min cursor (span_of z)) s.long

  struck_table : table ys cursor ≡ ended (table xs cursor) 0 a
  unfolding walk
  struck_table = ap (λ (z : ℕ). headers (z - 0) ys z 0) struck_bound ∙ headers_struck (bound_of xs cursor - 0) xs ys (bound_of xs cursor) 0 a s was

  none_ended : none_live (table ys cursor) ≡ none_live (ended (table xs cursor) 0 a)
  none_ended = ap none_live struck_table

  pub strike_on : none_live (table ys cursor) ≡ false → Strike a cursor cursor xs ys
  strike_on n =
      let q : none_live (ended (table xs cursor) 0 a) ≡ false = sym none_ended ∙ n in
      record {
        was = was;
        struck = s;
        moved = sym (cond-false (none_live (ended (table xs cursor) 0 a)) 0 cursor q);
        table = struck_table ∙ sym (cond-false (none_live (ended (table xs cursor) 0 a)) [] (ended (table xs cursor) 0 a) q);
      }

  pub strike_over : none_live (table ys cursor) ≡ true → Strike a cursor 0 xs ys
  strike_over n =
      let q : none_live (ended (table xs cursor) 0 a) ≡ true = sym none_ended ∙ n in
      record {
        was = was;
        struck = s;
        moved = sym (cond-true (none_live (ended (table xs cursor) 0 a)) 0 cursor q);
        table = empty_table ys ∙ sym (cond-true (none_live (ended (table xs cursor) 0 a)) [] (ended (table xs cursor) 0 a) q);
      }

-- a free
module _ (xs ys : List ℕ) (cursor next a : ℕ) (s : Strike a cursor next xs ys) where
  free_live : (x : ℕ) → live_in (table ys next) 0 x ≡ cond (eqb x a) 0 (live_in (table xs cursor) 0 x)
  free_live x = ap (λ (cs : List Header). live_in cs 0 x) s.table ∙ live_table_freed (table xs cursor) a x

  free_byte : (b x : ℕ) → In b (live_in (table ys next) 0 b) x → get_or ys x 0 ≡ get_or xs x 0
  free_byte b x i =
      let lo = i.from in
      let hi = i.below in
      let e = free_live b in
      ⊎_elim
      (λ (q : b ≡ a). absurd (let z = cond-true (eqb b a) 0 (live_in (table xs cursor) 0 b) (eq-eqb b a q) in let w : ⊥ = omega arith in w))
      (λ (q : b ≡ a → ⊥).
      let z = cond-false (eqb b a) 0 (live_in (table xs cursor) 0 b) (ne_eqb b a q) in
      ⊎_elim
      (λ (r : b < a). let w = bump_apart xs cursor b a r (omega arith) s.was in s.struck.before x (omega arith))
      (λ (r : a ≤ b). s.struck.behind x (omega arith))
      (cases_lt b a))
      (cases_eq b a)

  pub bump_freed : Freed a (bump_means xs cursor) (bump_means ys next)
  bump_freed = record { kind = refl; span = ap span_of s.struck.long; live = free_live; byte = free_byte }

  kept_freed : (h : History) → BumpKept h xs cursor → BumpKept (freed a ∷ h) ys next
  kept_freed h k = record {
    live = λ y. free_live y ∙ ap (λ (z : ℕ). cond (eqb y a) 0 z) (k.live y);
    table = s.table ∙ ap (λ (cs : List Header). table_freed cs a) k.table;
    cursor =
        s.moved
        ∙ ap (λ (cs : List Header). cond (none_live (ended cs 0 a)) 0 cursor) k.table
        ∙ ap (λ (z : ℕ). cond (none_live (ended (table_after h) 0 a)) 0 z) k.cursor
        ∙ sym (end_table_freed (table_after h) a);
  }

  pub keeps_freed : (zs : List ℕ) (was : ℕ) (h : History) → BumpKeeps zs was h xs cursor → BumpKeeps zs was (freed a ∷ h) ys next
  keeps_freed zs was h k = record {
    long = s.struck.long ∙ k.long;
    rest = λ x l.
        let w = (bump_reach xs cursor a s.was).span in
        let e : span_of (length xs) ≡ span_of (length zs) = ap span_of k.long in
        s.struck.behind x (omega arith) ∙ k.rest x l;
    kept = λ z. kept_freed h (k.kept z);
  }

-- a fill
module _ (xs ys : List ℕ) (cursor a c v : ℕ) where
  module _ (some : 0 < c) (k : Covered (live_in (table xs cursor) 0) a c) (p : Painted a c v xs ys) where
    fill_bound : bound_of ys cursor ≡ bound_of xs cursor
    fill_bound = ap (λ (z : ℕ). min cursor (span_of z)) p.long

    fill_table : table ys cursor ≡ table xs cursor
    unfolding walk
    fill_table =
        ap (λ (z : ℕ). headers (z - 0) ys z 0) fill_bound
        ∙ headers_painted (bound_of xs cursor - 0) xs ys (bound_of xs cursor) 0 k.start (live_in (table xs cursor) 0 k.start)
        (λ x h. p.rest x (λ i. let lo = i.from in let f = k.from in omega arith))
        (λ x h. p.rest x (λ i. let hi = i.below in let t = k.to in omega arith))
        refl (let f = k.from in let t = k.to in omega arith)

    pub painted_paint : Paint a c v cursor xs ys
    painted_paint = record { some = some; covered = k; painted = p; table = fill_table }

  module _ (p : Paint a c v cursor xs ys) where
    pub bump_filled : Filled a c v (bump_means xs cursor) (bump_means ys cursor)
    bump_filled = record {
      kind = refl;
      span = ap span_of p.painted.long;
      live = λ x. ap (λ (cs : List Header). live_in cs 0 x) p.table;
      set = p.painted.set;
      byte = λ b x i out. p.painted.rest x out;
      offers = λ n. ap (λ (z : ℕ). and_then (admitted 32768 BumpK n) (bump_offer (span_of z) (table ys cursor) cursor)) p.painted.long
          ∙ ap (λ (cs : List Header). and_then (admitted 32768 BumpK n) (bump_offer (span_of (length xs)) cs cursor)) p.table;
    }

    kept_filled : (h : History) → BumpKept h xs cursor → BumpKept (filled a c v ∷ h) ys cursor
    kept_filled h r = record {
      live = λ x. ap (λ (cs : List Header). live_in cs 0 x) p.table ∙ r.live x;
      table = p.table ∙ r.table;
      cursor = r.cursor;
    }

    pub keeps_filled : (zs : List ℕ) (was : ℕ) (h : History) → BumpKeeps zs was h xs cursor → BumpKeeps zs was (filled a c v ∷ h) ys cursor
    keeps_filled zs was h k = record {
      long = p.painted.long ∙ k.long;
      rest = λ x l.
          let w = covered_span xs cursor a c p.some p.covered in
          let e : span_of (length xs) ≡ span_of (length zs) = ap span_of k.long in
          p.painted.rest x (λ i. let hi = i.below in omega arith) ∙ k.rest x l;
      kept = λ z. kept_filled h (k.kept z);
    }

-- what a bump heap offers after a history, as a computation on the history
pub offers_after : (h : History) (xs : List ℕ) (cursor n : ℕ) → BumpKept h xs cursor
    → (bump_means xs cursor).offer n ≡ and_then (admitted 32768 BumpK n) (bump_offer (span_of (length xs)) (table_after h) (end_in (table_after h) 0))
offers_after h xs cursor n k =
    ap (λ (cs : List Header). and_then (admitted 32768 BumpK n) (bump_offer (span_of (length xs)) cs cursor)) k.table
    ∙ ap (λ (z : ℕ). and_then (admitted 32768 BumpK n) (bump_offer (span_of (length xs)) (table_after h) z)) k.cursor

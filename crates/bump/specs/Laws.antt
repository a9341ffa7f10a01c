-- The laws of a bump heap's meaning: what it offers, and where its live blocks lie.
use Rattle.std.proofs.Common.{◌≡◌, ℕ, ◌+◌, ◌%◌, ◌<◌, ◌≤◌, cond, eqb, leb, List, [], length, Ok, Err, Result, sym, refl, ap, subst, inr, arith, lit≤}
use Rattle.heap.specs.declared.fault.Fault.{Fault}
use Rattle.heap.specs.declared.fault.Kind.TheVariants.{Bump as BumpK}
use Rattle.heap.specs.declared.fault.Cause.TheVariants.{Full}
use Rattle.heap.specs.Faults.{raised}
use Rattle.heap.specs.Meaning.{Block, Lawful, HeapFault, HeapKind, Covered}
use Rattle.heap.specs.Roundings.{up8}
use Rattle.heap.proofs.Offers.{admits, admits_large, admits_refused, raised_fault}
use Rattle.region.specs.Bytes.{span_of}
use Rattle.bump.specs.Table.{live_in, end_in, bound_of, table, bump_offer, bump_means, BumpKept, BumpKeeps, Header}
use Rattle.bump.specs.Walks.{walk_end, header_none, Found, laid_walk, laid_found, laid_apart, end_eighth}

-- a block or cause 5, by the tests alone
abbrev fits_in : ℕ → ℕ → ℕ → ℕ → ℕ → Result Block Fault
fits_in n span cursor end u = cond (eqb end cursor) (cond (leb (cursor + 8 + u) span) (Ok (cursor + 8, u)) (Err (raised Full BumpK n))) (Err (raised Full BumpK n))

module _ (n span cursor end u : ℕ) where
  fits_at : (b : Block) → fits_in n span cursor end u ≡ Ok b → (cursor + 8, u) ≡ b
  fits_at b e = grind arith

  fits_whole : (b : Block) → fits_in n span cursor end u ≡ Ok b → end ≡ cursor
  fits_whole b e = grind arith

  fits_span : (b : Block) → fits_in n span cursor end u ≡ Ok b → cursor + 8 + u ≤ span
  fits_span b e = grind arith

  fits_refused : (f : Fault) → fits_in n span cursor end u ≡ Err f → raised Full BumpK n ≡ f
  fits_refused f e = grind arith

-- what an accepted allocate is offered
pub record Fresh (xs : List ℕ) (cursor n : ℕ) (b : Block) : Type 0 where
  pub at : b.0 ≡ cursor + 8
  pub long : b.1 ≡ up8 n
  pub whole : end_in (table xs cursor) 0 ≡ cursor
  pub fits : cursor + 8 + b.1 ≤ span_of (length xs)
  pub some : 8 ≤ b.1
  pub eighth : b.1 % 8 ≡ 0
  pub low : cursor % 8 ≡ 0

pub fresh : (xs : List ℕ) (cursor n : ℕ) (b : Block) → (bump_means xs cursor).offer n ≡ Ok b → Fresh xs cursor n b
fresh xs cursor n b e =
    let s = span_of (length xs) in
    let d = end_in (table xs cursor) 0 in
    let a = admits 32768 BumpK (bump_offer s (table xs cursor) cursor) n b e in
    let o = a.some in
    let q = fits_at n s cursor d (up8 n) b a.answer in
    let w : d ≡ cursor = fits_whole n s cursor d (up8 n) b a.answer in
    let f = fits_span n s cursor d (up8 n) b a.answer in
    let g : d % 8 ≡ 0 = end_eighth (bound_of xs cursor) (table xs cursor) 0 (laid_walk xs (bound_of xs cursor) 0) refl in
    let q0 : cursor + 8 ≡ b.0 = ap (λ (z : Block). z.0) q in
    let q1 : up8 n ≡ b.1 = ap (λ (z : Block). z.1) q in
    record { at = sym q0; long = sym q1; whole = w; fits = omega arith; some = omega arith; eighth = omega arith; low = omega arith }

pub bump_found : (xs : List ℕ) (cursor a : ℕ) → 0 < live_in (table xs cursor) 0 a → Found (bound_of xs cursor) 0 a (live_in (table xs cursor) 0 a)
bump_found xs cursor a h = laid_found (bound_of xs cursor) (table xs cursor) 0 a refl (laid_walk xs (bound_of xs cursor) 0) h

-- between two live blocks there is room for a header
pub bump_apart : (xs : List ℕ) (cursor a b : ℕ) → a < b → 0 < live_in (table xs cursor) 0 a → 0 < live_in (table xs cursor) 0 b → a + live_in (table xs cursor) 0 a + 8 ≤ b
bump_apart xs cursor a b l h k = laid_apart (bound_of xs cursor) (table xs cursor) 0 a b (laid_walk xs (bound_of xs cursor) 0) l h k

bump_kind : HeapKind BumpK
bump_kind = (lit≤ tt, lit≤ tt)

pub bump_lawful : (xs : List ℕ) (cursor : ℕ) → Lawful (bump_means xs cursor)
bump_lawful xs cursor =
    let s = span_of (length xs) in
    let f = bump_offer s (table xs cursor) cursor in
    record {
      kind = bump_kind;
      span_eighth = omega arith;
      span_bound = omega arith;
      sits = λ a h. let f = bump_found xs cursor a h in let w = f.within in record { address = f.address; length = f.eighth; some = f.some; within = omega arith };
      apart = λ a b h l k. let z = bump_apart xs cursor a b l h k in omega arith;
      offered = λ n b e. let f = fresh xs cursor n b e in let at = f.at in let fits = f.fits in let low = f.low in record { address = omega arith; length = f.eighth; some = f.some; within = omega arith };
      enough = λ n b e. let f = fresh xs cursor n b e in let l = f.long in omega arith;
      unused = λ n b e a h. let f = fresh xs cursor n b e in let at = f.at in let w = (bump_found xs cursor a h).within in inr (omega arith);
      zero = refl;
      large = λ n h. admits_large 32768 BumpK f n (lit≤ tt) h;
      refused = λ n g e. admits_refused 32768 BumpK f n bump_kind
          (λ z q. subst HeapFault (fits_refused n s cursor (end_in (table xs cursor) 0) (up8 n) z q) (raised_fault Full BumpK n tt bump_kind)) g e;
    }

-- a live block lies within the span, behind a header
pub record Reach (xs : List ℕ) (a l : ℕ) : Type 0 where
  pub low : 8 ≤ a
  pub span : a + l ≤ span_of (length xs)
  pub region : a + l ≤ length xs

pub bump_reach : (xs : List ℕ) (cursor a : ℕ) → 0 < live_in (table xs cursor) 0 a → Reach xs a (live_in (table xs cursor) 0 a)
bump_reach xs cursor a h = let f = bump_found xs cursor a h in let w = f.within in let l = f.from in record { low = omega arith; span = omega arith; region = omega arith }

pub covered_span : (xs : List ℕ) (cursor a c : ℕ) → 0 < c → Covered (live_in (table xs cursor) 0) a c → a + c ≤ span_of (length xs)
covered_span xs cursor a c z k =
    let f = k.from in
    let t = k.to in
    let r = (bump_reach xs cursor k.start (omega arith)).span in
    omega arith

pub covered_region : (xs : List ℕ) (cursor a c : ℕ) → 0 < c → Covered (live_in (table xs cursor) 0) a c → a + c ≤ length xs
covered_region xs cursor a c z k = let s = covered_span xs cursor a c z k in omega arith

-- with the cursor at 0 there are no blocks
pub empty_table : (ys : List ℕ) → table ys 0 ≡ []
empty_table ys = walk_end ys (bound_of ys 0) 0 (header_none ys (bound_of ys 0) 0 (omega arith))

empty_kept : (ys : List ℕ) → BumpKept [] ys 0
empty_kept ys = record { live = λ a. ap (λ (cs : List Header). live_in cs 0 a) (empty_table ys); table = empty_table ys; cursor = refl }

pub bump_begins : (xs : List ℕ) (cursor : ℕ) → BumpKeeps xs cursor [] xs cursor
bump_begins xs cursor = record { long = refl; rest = λ x l. refl; kept = λ z. subst (λ (q : ℕ). BumpKept [] xs q) (sym z) (empty_kept xs) }

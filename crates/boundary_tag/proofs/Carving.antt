-- A grant: a free chunk in its place is made live, and what remains of it stays free.
use Rattle.std.proofs.Common.{◌≡◌, ℕ, ◌+◌, ◌-◌, ◌%◌, ◌<◌, ◌≤◌, cond, eqb, List, [], ◌∷◌, ◌++◌, length, Some, Option, sym, refl, ap, ◌∙◌, subst, inl, inr, ⊎_elim, arith}
use Rattle.heap.specs.Meaning.{Block}
use Rattle.heap.specs.Roundings.{up8}
use Rattle.region.specs.Bytes.{Painted}
use Rattle.boundary_tag.specs.Chunks.{Chunk, Shape, tag_at, chunk_at, tag_span, walk, chunks, live_in, end_in, lowest_fit, split, chunks_granted, Settled, Written, Carved, Grant}
use Rattle.boundary_tag.specs.Ends.{tag_same}
use Rattle.boundary_tag.specs.Walks.{Laid, laid_walk, shape_of, chunk_good, ends_of}
use Rattle.boundary_tag.specs.Lists.{end_more, laid_before, laid_behind, granted_at, split_one, split_two, live_after, live_split, end_split, settled_after, settled_split, beside_split, live_around}
use Rattle.boundary_tag.proofs.Places.{Reach, walk_first, walk_reach, rewritten}
use Rattle.boundary_tag.specs.Laws.{Offered}
use Rattle.std.proofs.lemmas.Bool.{cases_lt}

-- a granted chunk as it is written: the whole of the free one, or a part
module _ (p l c : ℕ) (xs ys zs : List ℕ) (w : Written p (c + 16) 1 xs ys) (k : Painted (p + 8) c 0 ys zs) where
  painted_head : tag_at zs p ≡ (c + 16, 1)
  painted_head = tag_same ys zs p (λ x q r. k.rest x (λ i. let z = i.from in omega arith)) ∙ w.head

  painted_tail : tag_at zs (p + (c + 16 - 8)) ≡ (c + 16, 1)
  painted_tail = tag_same ys zs (p + (c + 16 - 8)) (λ x q r. k.rest x (λ i. let z = i.below in omega arith)) ∙ w.tail

  pub carved_whole : c + 16 ≡ l → Carved p l c xs zs
  carved_whole e = record {
    long = k.long ∙ w.long;
    head = painted_head;
    tail = painted_tail;
    rest_head = λ q. absurd (let z : ⊥ = omega arith in z);
    rest_tail = λ q. absurd (let z : ⊥ = omega arith in z);
    clear = k.set;
    before = λ x q. k.rest x (λ i. let z = i.from in omega arith) ∙ w.before x q;
    behind = λ x q. k.rest x (λ i. let z = i.below in omega arith) ∙ w.behind x (omega arith);
  }

  pub carved_part : (vs : List ℕ) → c + 40 ≤ l → Written (p + (c + 16)) (l - (c + 16)) 0 zs vs → Carved p l c xs vs
  carved_part vs h v = record {
    long = v.long ∙ k.long ∙ w.long;
    head = tag_same zs vs p (λ x q r. v.before x (omega arith)) ∙ painted_head;
    tail = tag_same zs vs (p + (c + 16 - 8)) (λ x q r. v.before x (omega arith)) ∙ painted_tail;
    rest_head = λ q. v.head;
    rest_tail = λ q. v.tail;
    clear = λ x i. let z = i.below in v.before x (omega arith) ∙ k.set x i;
    before = λ x q. v.before x (omega arith) ∙ k.rest x (λ i. let z = i.from in omega arith) ∙ w.before x q;
    behind = λ x q. v.behind x (omega arith) ∙ k.rest x (λ i. let z = i.below in omega arith) ∙ w.behind x (omega arith);
  }

-- a chunk in its place
module _ (xs : List ℕ) (pre : List Chunk) (d : Chunk) (post : List Chunk) (whole : chunks xs ≡ pre ++ (d ∷ post)) where
  pub at_reach : Reach xs (tag_span (length xs)) 0 pre (end_in pre 0)
  at_reach = (walk_reach xs (tag_span (length xs)) 0 pre (d ∷ post) whole).0

  at_both : (chunk_at xs (tag_span (length xs)) (end_in pre 0) ≡ Some d) × (walk xs (tag_span (length xs)) (end_in pre 0 + d.0) ≡ post)
  at_both = walk_first xs (tag_span (length xs)) (end_in pre 0) d post (walk_reach xs (tag_span (length xs)) 0 pre (d ∷ post) whole).1

  pub at_chunk : chunk_at xs (tag_span (length xs)) (end_in pre 0) ≡ Some d
  at_chunk = at_both.0

  pub at_rest : walk xs (tag_span (length xs)) (end_in pre 0 + d.0) ≡ post
  at_rest = at_both.1

  pub at_tag : tag_at xs (end_in pre 0) ≡ d
  at_tag = (ends_of xs (tag_span (length xs)) (end_in pre 0) d at_chunk).head

  pub at_shape : Shape (tag_span (length xs)) (end_in pre 0) d
  at_shape = shape_of xs (tag_span (length xs)) (end_in pre 0) d at_chunk

  pub at_laid : Laid (tag_span (length xs)) 0 (pre ++ (d ∷ post))
  at_laid = subst (Laid (tag_span (length xs)) 0) whole (laid_walk xs (tag_span (length xs)) 0)

  pub at_before : Laid (tag_span (length xs)) 0 pre
  at_before = laid_before (tag_span (length xs)) pre (d ∷ post) 0 at_laid

  pub at_behind : Laid (tag_span (length xs)) (end_in pre 0) (d ∷ post)
  at_behind = laid_behind (tag_span (length xs)) pre (d ∷ post) 0 at_laid

  module _ (ys : List ℕ) (c : ℕ) (free : d.1 ≡ 0) (some : 8 ≤ c) (eighth : c % 8 ≡ 0) (most : c + 16 ≤ d.0) (remains : c + 16 < d.0 → c + 40 ≤ d.0) (g : Carved (end_in pre 0) d.0 c xs ys) where
    live_shape : Shape (tag_span (length xs)) (end_in pre 0) (c + 16, 1)
    live_shape = let f = at_shape.fits in record { fits = omega arith; some = omega arith; eighth = omega arith; state = inr refl }

    live_chunk : chunk_at ys (tag_span (length xs)) (end_in pre 0) ≡ Some (c + 16, 1)
    live_chunk = chunk_good ys (tag_span (length xs)) (end_in pre 0) (c + 16, 1) (record { head = g.head; tail = g.tail }) live_shape

    rest_chunk : c + 40 ≤ d.0 → chunk_at ys (tag_span (length xs)) (end_in pre 0 + (c + 16)) ≡ Some (d.0 - (c + 16), 0)
    rest_chunk h =
        let f = at_shape.fits in
        let e = at_shape.eighth in
        chunk_good ys (tag_span (length xs)) (end_in pre 0 + (c + 16)) (d.0 - (c + 16), 0)
        (record { head = g.rest_head (omega arith); tail = g.rest_tail (omega arith) })
        (record { fits = omega arith; some = omega arith; eighth = omega arith; state = inl refl })

    carved_walk : walk ys (tag_span (length xs)) 0 ≡ pre ++ split d.0 c post
    carved_walk =
        let span = tag_span (length xs) in
        let k = end_in pre 0 in
        ⊎_elim
        (λ (q : d.0 < c + 40).
        let e : c + 16 ≡ d.0 = ⊎_elim (λ (r : c + 16 < d.0). absurd (let z = remains r in let v : ⊥ = omega arith in v)) (λ (r : d.0 ≤ c + 16). omega arith) (cases_lt (c + 16) d.0) in
        let here : chunk_at ys span k ≡ Some (d.0, 1) = live_chunk ∙ ap (λ (z : ℕ). Some (z, 1)) e in
        rewritten xs ys span pre ((d.0, 1) ∷ []) post k (k + d.0) at_reach g.before (here, refl) at_rest g.behind
        ∙ ap (λ (z : List Chunk). pre ++ z) (sym (split_one d.0 c post q)))
        (λ (q : c + 40 ≤ d.0).
        rewritten xs ys span pre ((c + 16, 1) ∷ (d.0 - (c + 16), 0) ∷ []) post k (k + d.0) at_reach g.before (live_chunk, (rest_chunk q, (let e : k + (c + 16) + (d.0 - (c + 16)) ≡ k + d.0 = omega arith in e))) at_rest g.behind
        ∙ ap (λ (z : List Chunk). pre ++ z) (sym (split_two d.0 c post q)))
        (cases_lt d.0 (c + 40))

    carved_list : chunks ys ≡ pre ++ split d.0 c post
    carved_list = ap (λ (n : ℕ). walk ys (tag_span n) 0) g.long ∙ carved_walk

    pub carved_grant : (b : Block) → b.0 ≡ end_in pre 0 + 8 → b.1 ≡ c → Grant b xs ys
    carved_grant b e f =
        let span = tag_span (length xs) in
        let k = end_in pre 0 in
        record {
          long = g.long;
          clear = λ x i. let lo = i.from in let hi = i.below in g.clear x (record { from = omega arith; below = omega arith });
          byte = λ a x i.
              let lo = i.from in
              let hi = i.below in
              let z : live_in (chunks xs) 0 a ≡ live_in (pre ++ (d ∷ post)) 0 a = ap (λ (cs : List Chunk). live_in cs 0 a) whole in
              ⊎_elim
              (λ (q : a + live_in (pre ++ (d ∷ post)) 0 a ≤ k). g.before x (omega arith))
              (λ (q : k + d.0 ≤ a). g.behind x (omega arith))
              (live_around span pre d post 0 a at_laid free (omega arith));
          rest = λ x l. let z = at_shape.fits in g.behind x (omega arith);
          live = λ x.
              ap (λ (cs : List Chunk). live_in cs 0 x) carved_list
              ∙ live_after span pre (d ∷ post) (split d.0 c post) 0 (k + 8) c x at_before (omega arith) (λ y. live_split span d post k c y at_behind free most remains)
              ∙ ap (λ (z : ℕ). cond (eqb x z) c (live_in (pre ++ (d ∷ post)) 0 x)) (sym e)
              ∙ ap (λ (z : ℕ). cond (eqb x b.0) z (live_in (pre ++ (d ∷ post)) 0 x)) (sym f)
              ∙ ap (λ (cs : List Chunk). cond (eqb x b.0) b.1 (live_in cs 0 x)) (sym whole);
          list =
              carved_list
              ∙ sym (granted_at span pre d post 0 c at_before)
              ∙ ap (λ (cs : List Chunk). chunks_granted cs 0 (k + 8) c) (sym whole)
              ∙ ap (λ (z : ℕ). chunks_granted (chunks xs) 0 z c) (sym e)
              ∙ ap (λ (z : ℕ). chunks_granted (chunks xs) 0 b.0 z) (sym f);
          end =
              ap (λ (cs : List Chunk). end_in cs 0) carved_list
              ∙ end_more pre (split d.0 c post) 0
              ∙ end_split d post k c most
              ∙ sym (end_more pre (d ∷ post) 0)
              ∙ ap (λ (cs : List Chunk). end_in cs 0) (sym whole);
          settled = λ s. subst Settled (sym carved_list) (settled_after pre (d ∷ post) (split d.0 c post) (subst Settled whole s) (settled_split d post c free) (λ b t. beside_split d.0 c post b));
        }

-- an accepted allocate, of the chunk of length l at p
module _ (xs : List ℕ) (n : ℕ) (b : Block) (f : Offered xs n b) (p l : ℕ) (picked : lowest_fit (chunks xs) 0 (up8 n + 16) ≡ Some (p, l)) where
  pub chosen : (p ≡ f.chunk.0) × (l ≡ f.chunk.1)
  chosen =
      let e : ◌≡◌ {A = Option (ℕ × ℕ)} (Some (p, l)) (Some f.chunk) = sym picked ∙ f.picked in
      let k : ◌≡◌ {A = ℕ × ℕ} (p, l) f.chunk = cc in
      (ap (λ (z : ℕ × ℕ). z.0) k, ap (λ (z : ℕ × ℕ). z.1) k)

  pub fresh_grant : (ys : List ℕ) → Carved p l b.1 xs ys → Grant b xs ys
  fresh_grant ys g =
      let u = f.fit.cut in
      let s = f.fit.size in
      let m = f.most in
      let a = f.at in
      let k = u.at in
      let i = chosen in
      let at = i.0 in
      let size = i.1 in
      let here : p ≡ end_in u.before 0 = omega arith in
      let long : l ≡ u.here.0 = omega arith in
      let g2 : Carved (end_in u.before 0) u.here.0 b.1 xs ys = subst (λ (z : ℕ). Carved (end_in u.before 0) z b.1 xs ys) long (subst (λ (z : ℕ). Carved z l b.1 xs ys) here g) in
      carved_grant xs u.before u.here u.behind u.whole ys b.1 f.fit.free f.some f.eighth (omega arith) (λ q. let z = f.rest (omega arith) in omega arith) g2 b (omega arith) refl

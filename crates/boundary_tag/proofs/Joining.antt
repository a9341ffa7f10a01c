-- A free: a live chunk in its place is made free, and joined with a free one directly before and directly behind.
use Rattle.std.proofs.Common.{◌≡◌, ℕ, ◌+◌, ◌-◌, ◌<◌, ◌≤◌, cond, eqb, leb, List, [], ◌∷◌, ◌++◌, length, Some, sym, refl, ap, ◌∙◌, subst, inl, ⊎_elim, arith}
use Rattle.boundary_tag.specs.declared.chunks.Chunk.{Chunk as Found}
use Rattle.boundary_tag.specs.States.{state_number}
use Rattle.boundary_tag.specs.Placed.{Placed, seen, joined_at}
use Rattle.boundary_tag.specs.Chunks.{Chunk, Shape, tag_at, chunk_at, tag_span, walk, chunks, live_in, end_in, free_length, past_free, chunks_freed, Settled, low_length, Written, Release}
use Rattle.boundary_tag.specs.Walks.{Laid, laid_walk, live_here, live_other, live_low, chunk_good, ends_of}
use Rattle.boundary_tag.specs.Lists.{Quiet, Ending, live_cut, last_cases, more_more, end_more, laid_before, live_after, live_around, free_here, live_first, end_past, live_past, laid_past, settled_quiet, settled_join, settled_before, freed_quiet, freed_before}
use Rattle.boundary_tag.proofs.Places.{Reach, walk_first, rewritten}
use Rattle.boundary_tag.proofs.Carving.{at_reach, at_chunk, at_rest, at_tag, at_shape, at_laid, at_before, at_behind}
use Rattle.std.proofs.lemmas.Bool.{cond-true, cond-false, eq-eqb, ne_eqb, le-leb, cases_eq}

-- the last tag before a place
low_at : (xs : List ℕ) (k : ℕ) (t : Chunk) → 8 ≤ k → tag_at xs (k - 8) ≡ t → low_length xs k ≡ cond (eqb t.1 0) t.0 0
low_at xs k t h e =
    cond-true (leb 8 k) (cond (eqb (tag_at xs (k - 8)).1 0) (tag_at xs (k - 8)).0 0) 0 (le-leb 8 k h)
    ∙ ap (λ (z : Chunk). cond (eqb z.1 0) z.0 0) e

low_after : (xs : List ℕ) (span p : ℕ) (c : Chunk) (k : ℕ) → 24 ≤ c.0 → chunk_at xs span p ≡ Some c → p + c.0 ≡ k → low_length xs k ≡ cond (eqb c.1 0) c.0 0
low_after xs span p c k o e q = low_at xs k c (omega arith) (ap (λ (z : ℕ). tag_at xs z) (let z : k - 8 ≡ p + (c.0 - 8) = omega arith in z) ∙ (ends_of xs span p c e).tail)

low_more : (xs : List ℕ) (span p : ℕ) (c : Chunk) (cs : List Chunk) (k : ℕ) → Laid span p (c ∷ cs) → Reach xs span p (c ∷ cs) k → Quiet (c ∷ cs) → low_length xs k ≡ 0
low_more xs span p c [] k w r u = low_after xs span p c k w.0.some r.0 r.1 ∙ cond-false (eqb c.1 0) c.0 0 (ne_eqb c.1 0 u)
low_more xs span p c (d ∷ ds) k w r u = low_more xs span (p + c.0) d ds k w.1 r.1 u

low_quiet : (xs : List ℕ) (span : ℕ) (pre : List Chunk) (k : ℕ) → Laid span 0 pre → Reach xs span 0 pre k → Quiet pre → low_length xs k ≡ 0
low_quiet xs span [] k w r u = ap (low_length xs) (sym r)
low_quiet xs span (c ∷ cs) k w r u = low_more xs span 0 c cs k w r u

-- the chunks behind a free first one, in the bytes
past_walk : (xs : List ℕ) (span q : ℕ) (cs : List Chunk) → walk xs span q ≡ cs → walk xs span (q + free_length cs) ≡ past_free cs
past_walk xs span q [] e = ap (walk xs span) (let z : q + 0 ≡ q = omega arith in z) ∙ e
past_walk xs span q (d ∷ ds) e =
    ⊎_elim
    (λ (s : d.1 ≡ 0). let f = free_here d ds s in ap (λ (z : ℕ). walk xs span (q + z)) f.0 ∙ (walk_first xs span q d ds e).1 ∙ sym f.1)
    (λ (s : d.1 ≡ 0 → ⊥). let f = live_first d ds s in let g = f.0 in ap (walk xs span) (let z : q + free_length (d ∷ ds) ≡ q = omega arith in z) ∙ e ∙ sym f.1)
    (cases_eq d.1 0)

-- a free chunk of length m written over the chunks old, behind those of pre
module _ (xs ys : List ℕ) (a : ℕ) (pre old : List Chunk) (m : ℕ) (post : List Chunk)
    (whole : chunks xs ≡ pre ++ old)
    (reach : Reach xs (tag_span (length xs)) 0 pre (end_in pre 0))
    (laid : Laid (tag_span (length xs)) 0 pre)
    (shape : Shape (tag_span (length xs)) (end_in pre 0) (m, 0))
    (rest : walk xs (tag_span (length xs)) (end_in pre 0 + m) ≡ post)
    (w : Written (end_in pre 0) m 0 xs ys) where
  joined_list : chunks ys ≡ pre ++ ((m, 0) ∷ post)
  joined_list =
      let span = tag_span (length xs) in
      ap (λ (n : ℕ). walk ys (tag_span n) 0) w.long
      ∙ rewritten xs ys span pre ((m, 0) ∷ []) post (end_in pre 0) (end_in pre 0 + m) reach w.before (chunk_good ys span (end_in pre 0) (m, 0) (record { head = w.head; tail = w.tail }) shape, refl) rest w.behind

  joined_laid : Laid (tag_span (length xs)) 0 (pre ++ ((m, 0) ∷ post))
  joined_laid = subst (Laid (tag_span (length xs)) 0) joined_list (subst (λ (n : ℕ). Laid (tag_span n) 0 (chunks ys)) w.long (laid_walk ys (tag_span (length ys)) 0))

  release_by : end_in pre 0 + 8 ≤ a → ((y : ℕ) → live_in ((m, 0) ∷ post) (end_in pre 0) y ≡ cond (eqb y a) 0 (live_in old (end_in pre 0) y)) → end_in post (end_in pre 0 + m) ≡ end_in old (end_in pre 0)
      → chunks_freed (pre ++ old) 0 a ≡ pre ++ ((m, 0) ∷ post) → (Settled (pre ++ old) → Settled (pre ++ ((m, 0) ∷ post))) → Release a xs ys
  release_by up alive ends listed settles = record {
    long = w.long;
    byte = λ b x i.
        let lo = i.from in
        let hi = i.below in
        let e : live_in (chunks ys) 0 b ≡ live_in (pre ++ ((m, 0) ∷ post)) 0 b = ap (λ (cs : List Chunk). live_in cs 0 b) joined_list in
        ⊎_elim
        (λ (q : b + live_in (pre ++ ((m, 0) ∷ post)) 0 b ≤ end_in pre 0). w.before x (omega arith))
        (λ (q : end_in pre 0 + m ≤ b). w.behind x (omega arith))
        (live_around (tag_span (length xs)) pre (m, 0) post 0 b joined_laid refl (omega arith));
    rest = λ x l. let f = shape.fits in w.behind x (omega arith);
    live = λ x.
        ap (λ (cs : List Chunk). live_in cs 0 x) joined_list
        ∙ live_after (tag_span (length xs)) pre old ((m, 0) ∷ post) 0 a 0 x laid up alive
        ∙ ap (λ (cs : List Chunk). cond (eqb x a) 0 (live_in cs 0 x)) (sym whole);
    list = joined_list ∙ sym listed ∙ ap (λ (cs : List Chunk). chunks_freed cs 0 a) (sym whole);
    end =
        ap (λ (cs : List Chunk). end_in cs 0) joined_list
        ∙ end_more pre ((m, 0) ∷ post) 0
        ∙ ends
        ∙ sym (end_more pre old 0)
        ∙ ap (λ (cs : List Chunk). end_in cs 0) (sym whole);
    settled = λ s. subst Settled (sym joined_list) (settles (subst Settled whole s));
  }

-- what a free of the chunk at k leads to, with h bytes from k on
record Joint (xs : List ℕ) (k h : ℕ) : Type 0 where
  under : low_length xs k ≤ k
  made : (ys : List ℕ) → Written (k - low_length xs k) (low_length xs k + h) 0 xs ys → Release (k + 8) xs ys

moved : (s t m n : ℕ) (xs ys : List ℕ) → s ≡ t → m ≡ n → Written s m 0 xs ys → Written t n 0 xs ys
moved s t m n xs ys e f w = subst (λ (z : ℕ). Written z n 0 xs ys) e (subst (λ (z : ℕ). Written s z 0 xs ys) f w)

-- no free chunk stands before it
module _ (xs : List ℕ) (pre : List Chunk) (c : Chunk) (post : List Chunk) (whole : chunks xs ≡ pre ++ (c ∷ post)) (u : Quiet pre) where
  quiet_alive : (y : ℕ) → live_in ((c.0 + free_length post, 0) ∷ past_free post) (end_in pre 0) y ≡ cond (eqb y (end_in pre 0 + 8)) 0 (live_in (c ∷ post) (end_in pre 0) y)
  quiet_alive y =
      let k = end_in pre 0 in
      let m = c.0 + free_length post in
      ⊎_elim
      (λ (q : y ≡ k + 8). live_here (m, 0) (past_free post) k y q ∙ sym (cond-true (eqb y (k + 8)) 0 (live_in (c ∷ post) k y) (eq-eqb y (k + 8) q)))
      (λ (q : y ≡ k + 8 → ⊥).
      live_other (m, 0) (past_free post) k y q
      ∙ ap (λ (z : ℕ). live_in (past_free post) z y) (let z : k + m ≡ k + c.0 + free_length post = omega arith in z)
      ∙ live_past (k + c.0) (tag_span (length xs)) post y (at_behind xs pre c post whole).1
      ∙ sym (live_other c post k y q)
      ∙ sym (cond-false (eqb y (k + 8)) 0 (live_in (c ∷ post) k y) (ne_eqb y (k + 8) q)))
      (cases_eq y (k + 8))

  quiet_low : low_length xs (end_in pre 0) ≡ 0
  quiet_low = low_quiet xs (tag_span (length xs)) pre (end_in pre 0) (at_before xs pre c post whole) (at_reach xs pre c post whole) u

  quiet_joint : Joint xs (end_in pre 0) (c.0 + free_length post)
  quiet_joint =
      let span = tag_span (length xs) in
      let k = end_in pre 0 in
      let m = c.0 + free_length post in
      let low = quiet_low in
      let s = at_shape xs pre c post whole in
      let fits = s.fits in
      let some = s.some in
      let eighth = s.eighth in
      let l = laid_past (k + c.0) span post fits (at_behind xs pre c post whole).1 in
      let l0 = l.0 in
      let l1 = l.1 in
      let there : k + m ≡ k + c.0 + free_length post = omega arith in
      record {
        under = omega arith;
        made = λ ys w.
            release_by xs ys (k + 8) pre (c ∷ post) m (past_free post) whole (at_reach xs pre c post whole) (at_before xs pre c post whole)
            (record { fits = omega arith; some = omega arith; eighth = omega arith; state = inl refl })
            (ap (walk xs span) there ∙ past_walk xs span (k + c.0) post (at_rest xs pre c post whole))
            (moved (k - low_length xs k) k (low_length xs k + m) m xs ys (omega arith) (omega arith) w)
            (omega arith) quiet_alive
            (ap (end_in (past_free post)) there ∙ end_past (k + c.0) post)
            (freed_quiet span pre c post 0 u (at_before xs pre c post whole))
            (λ z. settled_quiet pre (c ∷ post) ((m, 0) ∷ past_free post) u z (settled_join m c post));
      }

-- a free chunk stands before it
module _ (xs : List ℕ) (pre : List Chunk) (b c : Chunk) (post : List Chunk) (whole : chunks xs ≡ pre ++ (b ∷ c ∷ post)) (free : b.1 ≡ 0) where
  before_alive : (y : ℕ) → live_in ((b.0 + (c.0 + free_length post), 0) ∷ past_free post) (end_in pre 0) y ≡ cond (eqb y (end_in pre 0 + b.0 + 8)) 0 (live_in (b ∷ c ∷ post) (end_in pre 0) y)
  before_alive y =
      let s = end_in pre 0 in
      let a = s + b.0 + 8 in
      let m = b.0 + (c.0 + free_length post) in
      let laid = at_behind xs pre b (c ∷ post) whole in
      let some = laid.0.some in
      let some2 = laid.1.0.some in
      let old = live_in (b ∷ c ∷ post) s y in
      ⊎_elim
      (λ (q : y ≡ s + 8).
      live_here (m, 0) (past_free post) s y q
      ∙ sym (cond-false (eqb y a) 0 old (ne_eqb y a (λ r. omega arith)) ∙ live_here b (c ∷ post) s y q ∙ cond-false (eqb b.1 1) (b.0 - 16) 0 (ne_eqb b.1 1 (λ t. let z : ⊥ = omega arith in z))))
      (λ (q : y ≡ s + 8 → ⊥).
      live_other (m, 0) (past_free post) s y q
      ∙ ap (λ (z : ℕ). live_in (past_free post) z y) (let z : s + m ≡ s + b.0 + c.0 + free_length post = omega arith in z)
      ∙ live_past (s + b.0 + c.0) (tag_span (length xs)) post y laid.1.1
      ∙ ⊎_elim
      (λ (r : y ≡ a). live_low (tag_span (length xs)) post (s + b.0 + c.0) y laid.1.1 (omega arith) ∙ sym (cond-true (eqb y a) 0 old (eq-eqb y a r)))
      (λ (r : y ≡ a → ⊥). sym (cond-false (eqb y a) 0 old (ne_eqb y a r) ∙ live_other b (c ∷ post) s y q ∙ live_other c post (s + b.0) y r))
      (cases_eq y a))
      (cases_eq y (s + 8))

  before_joint : (k : ℕ) → k ≡ end_in pre 0 + b.0 → Joint xs k (c.0 + free_length post)
  before_joint k at =
      let span = tag_span (length xs) in
      let s = end_in pre 0 in
      let h = c.0 + free_length post in
      let m = b.0 + h in
      let laid = at_behind xs pre b (c ∷ post) whole in
      let some = laid.0.some in
      let eighth = laid.0.eighth in
      let fits2 = laid.1.0.fits in
      let some2 = laid.1.0.some in
      let eighth2 = laid.1.0.eighth in
      let low : low_length xs k ≡ b.0 = low_after xs span s b k some (at_chunk xs pre b (c ∷ post) whole) (sym at) ∙ cond-true (eqb b.1 0) b.0 0 (eq-eqb b.1 0 free) in
      let l = laid_past (s + b.0 + c.0) span post fits2 laid.1.1 in
      let l0 = l.0 in
      let l1 = l.1 in
      let there : s + m ≡ s + b.0 + c.0 + free_length post = omega arith in
      let shape : Shape span s (m, 0) = record { fits = omega arith; some = omega arith; eighth = omega arith; state = inl refl } in
      let rest : walk xs span (s + m) ≡ past_free post = ap (walk xs span) there ∙ past_walk xs span (s + b.0 + c.0) post (walk_first xs span (s + b.0) c post (at_rest xs pre b (c ∷ post) whole)).1 in
      let both : Laid span 0 (pre ++ (b ∷ [])) = laid_before span (pre ++ (b ∷ [])) (c ∷ post) 0 (subst (Laid span 0) (sym (more_more pre b (c ∷ post))) (at_laid xs pre b (c ∷ post) whole)) in
      let back : s + b.0 + 8 ≡ k + 8 = omega arith in
      record {
        under = omega arith;
        made = λ ys w.
            subst (λ (z : ℕ). Release z xs ys) back
            (release_by xs ys (s + b.0 + 8) pre (b ∷ c ∷ post) m (past_free post) whole (at_reach xs pre b (c ∷ post) whole) (at_before xs pre b (c ∷ post) whole)
            shape rest
            (moved (k - low_length xs k) s (low_length xs k + h) m xs ys (omega arith) (omega arith) w)
            (omega arith) before_alive
            (ap (end_in (past_free post)) there ∙ end_past (s + b.0 + c.0) post)
            (freed_before span pre b c post 0 free both)
            (λ z. settled_before m pre b c post free z));
      }

joint : (xs : List ℕ) (pre : List Chunk) (c : Chunk) (post : List Chunk) → chunks xs ≡ pre ++ (c ∷ post) → Joint xs (end_in pre 0) (c.0 + free_length post)
joint xs pre c post whole =
    ⊎_elim
    (λ (u : Quiet pre). quiet_joint xs pre c post whole u)
    (λ (u : Ending pre).
    before_joint xs u.before u.last c post (whole ∙ ap (λ (z : List Chunk). z ++ (c ∷ post)) u.whole ∙ more_more u.before u.last (c ∷ post)) u.free (end_in pre 0)
    (ap (λ (z : List Chunk). end_in z 0) u.whole ∙ end_more u.before (u.last ∷ []) 0))
    (last_cases pre)

-- the same by the block's address: what is read, and what becomes of it
pub record Freeing (xs : List ℕ) (a : ℕ) : Type 0 where
  pub low : 8 ≤ a
  pub some : 24 ≤ (tag_at xs (a - 8)).0
  pub within : a - 8 + ((tag_at xs (a - 8)).0 + free_length (walk xs (tag_span (length xs)) (a - 8 + (tag_at xs (a - 8)).0))) ≤ tag_span (length xs)
  pub under : low_length xs (a - 8) ≤ a - 8
  pub made : (ys : List ℕ) → Written (a - 8 - low_length xs (a - 8)) (low_length xs (a - 8) + ((tag_at xs (a - 8)).0 + free_length (walk xs (tag_span (length xs)) (a - 8 + (tag_at xs (a - 8)).0)))) 0 xs ys → Release a xs ys

pub freeing : (xs : List ℕ) (a : ℕ) → 0 < live_in (chunks xs) 0 a → Freeing xs a
freeing xs a h =
    let span = tag_span (length xs) in
    let u = live_cut (chunks xs) 0 a h in
    let v = u.cut in
    let pre = v.before in
    let c = v.here in
    let post = v.behind in
    let k = end_in pre 0 in
    let e0 = u.at in
    let e1 = v.at in
    let at : a - 8 ≡ k = omega arith in
    let size : (tag_at xs (a - 8)).0 ≡ c.0 = ap (λ (z : ℕ). (tag_at xs z).0) at ∙ ap (λ (t : Chunk). t.0) (at_tag xs pre c post v.whole) in
    let place : a - 8 + (tag_at xs (a - 8)).0 ≡ k + c.0 = omega arith in
    let behind : free_length (walk xs span (a - 8 + (tag_at xs (a - 8)).0)) ≡ free_length post = ap (λ (z : ℕ). free_length (walk xs span z)) place ∙ ap free_length (at_rest xs pre c post v.whole) in
    let s = at_shape xs pre c post v.whole in
    let some = s.some in
    let fits = s.fits in
    let l = (laid_past (k + c.0) span post fits (at_behind xs pre c post v.whole).1).0 in
    let j = joint xs pre c post v.whole in
    let same : low_length xs (a - 8) ≡ low_length xs k = ap (low_length xs) at in
    let under = j.under in
    record {
      low = omega arith;
      some = omega arith;
      within = omega arith;
      under = omega arith;
      made = λ ys w.
          subst (λ (z : ℕ). Release z xs ys) (let z : k + 8 ≡ a = omega arith in z)
          (j.made ys (moved _ (k - low_length xs k) _ (low_length xs k + (c.0 + free_length post)) xs ys (omega arith) (omega arith) w));
    }

-- the same by what the code has read: the length of a free chunk before, the tag, and the length of a free chunk behind
pub record Ready (xs : List ℕ) (a low size high : ℕ) : Type 0 where
  pub some : 24 ≤ size
  pub within : a - 8 + (size + high) ≤ tag_span (length xs)
  pub under : low ≤ a - 8
  pub joined : ◌≡◌ {A = Placed} (a - 8 - low, (low + (size + high), 0)) (joined_at xs a)

pub ready : (xs : List ℕ) (a low : ℕ) (t : Chunk) (high : ℕ) → 0 < live_in (chunks xs) 0 a → low ≡ low_length xs (a - 8) → t ≡ tag_at xs (a - 8) → high ≡ free_length (walk xs (tag_span (length xs)) (a - 8 + t.0)) → Ready xs a low t.0 high
ready xs a low t high h l s f =
    let k = freeing xs a h in
    let some = k.some in
    let within = k.within in
    let under = k.under in
    let size : t.0 ≡ (tag_at xs (a - 8)).0 = ap (λ (z : Chunk). z.0) s in
    let behind : high ≡ free_length (walk xs (tag_span (length xs)) (a - 8 + (tag_at xs (a - 8)).0)) = f ∙ ap (λ (z : ℕ). free_length (walk xs (tag_span (length xs)) (a - 8 + z))) size in
    record {
      some = omega arith;
      within = omega arith;
      under = omega arith;
      joined =
          ap (λ (z : ℕ). (a - 8 - z, (z + (t.0 + high), 0))) l
          ∙ ap (λ (z : ℕ). (a - 8 - low_length xs (a - 8), (low_length xs (a - 8) + (z + high), 0))) size
          ∙ ap (λ (z : ℕ). (a - 8 - low_length xs (a - 8), (low_length xs (a - 8) + ((tag_at xs (a - 8)).0 + z), 0))) behind;
    }

-- the free chunk that takes in the block and its free neighbours, once it is written
pub release : (xs ys : List ℕ) (a : ℕ) (k : Found) → 0 < live_in (chunks xs) 0 a → seen k ≡ joined_at xs a → Written k.start k.length (state_number k.state) xs ys → Release a xs ys
release xs ys a k h e w = (freeing xs a h).made ys (subst (λ (c : Placed). Written c.0 c.1.0 c.1.1 xs ys) e w)

-- Chunks as they are read: the one at a place, and those that a walk has before it.
use Rattle.std.proofs.Common.{◌≡◌, ℕ, ◌+◌, ◌-◌, ◌<◌, ◌≤◌, Bool, true, false, cond, not, ◌&&◌, ◌⊎◌, eqb, leb, List, [], ◌∷◌, length, Some, None, Ok, Err, Option, Result, sym, refl, ap, ◌∙◌, inl, inr, ⊎_elim, arith}
use Rattle.std.specs.Int.{next_multiple_of}
use Rattle.std.specs.List.{find}
use Rattle.std.specs.Iterator.{YieldsFirstBy}
use Rattle.std.specs.Option.{option_map, option_map_or}
use Rattle.heap.specs.declared.fault.Fault.{Fault}
use Rattle.heap.specs.declared.fault.Kind.TheVariants.{BoundaryTag as TagK}
use Rattle.heap.specs.declared.fault.Cause.TheVariants.{Full}
use Rattle.heap.specs.Faults.{raised, and_then}
use Rattle.heap.specs.Checks.{admitted}
use Rattle.heap.specs.Roundings.{up8}
use Rattle.heap.specs.Meaning.{Block, In, Finds}
use Rattle.heap.proofs.Offers.{admitted_same}
use Rattle.boundary_tag.specs.declared.chunks.Chunk.{Chunk as Found}
use Rattle.boundary_tag.specs.declared.chunks.Chunks.{Chunks as Walk}
use Rattle.boundary_tag.specs.declared.tags.State.{State}
use Rattle.boundary_tag.specs.declared.tags.State.TheVariants.{Free, Live}
use Rattle.boundary_tag.specs.Chunks.{Chunk, Shape, chunk_at, tag_span, walk, chunks, live_in, lowest_fit, free_length, part_of, offer_from, tag_offer, tag_means}
use Rattle.boundary_tag.specs.States.{state_number, state_of}
use Rattle.boundary_tag.specs.Placed.{Placed, placed, found_at, seen, ahead, covers, has_room, free_part}
use Rattle.boundary_tag.specs.Walks.{Ends, Laid, option_cases, shape_of, ends_of, walk_step, walk_end, live_here, live_other, live_low}
use Rattle.std.proofs.lemmas.Bool.{cond-true, eq-eqb, cases_eq, cases_lt}

none_some : {A : Type 0} (x : A) → None ≡ Some x → ⊥
none_some x e = let z : ◌≡◌ {A = ℕ} 0 1 = cc in omega arith

pub no_chunk : (xs : List ℕ) (span p : ℕ) → ((c : Chunk) → Ends xs p c → Shape span p c → ⊥) → chunk_at xs span p ≡ None
no_chunk xs span p h =
    ⊎_elim (λ (q : chunk_at xs span p ≡ None). q) (λ (q : (c : Chunk) × (chunk_at xs span p ≡ Some c)). absurd (h q.0 (ends_of xs span p q.0 q.1) (shape_of xs span p q.0 q.1))) (option_cases (chunk_at xs span p))

pub number_of : (n : ℕ) (s : State) → Some s ≡ state_of n → n ≡ state_number s
number_of n Free e = grind arith
number_of n Live e = grind arith

pub no_state : (n : ℕ) → None ≡ state_of n → (n ≡ 0) ⊎ (n ≡ 1) → ⊥
no_state n e (inl q) = let z : ◌≡◌ {A = ℕ} 0 1 = grind arith in omega arith
no_state n e (inr q) = let z : ◌≡◌ {A = ℕ} 0 1 = grind arith in omega arith

pub number_state : (s : State) → (state_number s ≡ 0) ⊎ (state_number s ≡ 1)
number_state Free = inl refl
number_state Live = inr refl

-- two tags compared
module _ (a b u v : ℕ) where
  pub tags_same : not (eqb a u && eqb b v) ≡ false → ◌≡◌ {A = Chunk} (a, b) (u, v)
  tags_same e = let p : a ≡ u = grind arith in let q : b ≡ v = grind arith in cc

  pub tags_differ : not (eqb a u && eqb b v) ≡ true → ◌≡◌ {A = Chunk} (a, b) (u, v) → ⊥
  tags_differ e k =
      let p : a ≡ u = ap (λ (z : Chunk). z.0) k in
      let q : b ≡ v = ap (λ (z : Chunk). z.1) k in
      let z : ◌≡◌ {A = ℕ} 0 1 = grind arith in
      omega arith

pub none_found : (p : ℕ) (o : Option Chunk) → None ≡ found_at p o → o ≡ None
none_found p None e = refl
none_found p (Some c) e = absurd (none_some (p, c) e)

pub some_found : (p : ℕ) (o : Option Chunk) (c : Placed) → Some c ≡ found_at p o → (c.0 ≡ p) × (o ≡ Some c.1)
some_found p None c e = absurd (none_some c (sym e))
some_found p (Some d) c e = let k : ◌≡◌ {A = Placed} c (p, d) = cc in (ap (λ (z : Placed). z.0) k, ap (λ (z : Placed). Some z.1) (sym k))

-- a step of a walk
module _ (xs : List ℕ) (span p : ℕ) where
  pub ahead_none : None ≡ found_at p (chunk_at xs span p) → placed (walk xs span p) p ≡ []
  ahead_none e = ap (λ (cs : List Chunk). placed cs p) (walk_end xs span p (none_found p (chunk_at xs span p) e))

  pub ahead_some : (q : ℕ) (c : Placed) → Some c ≡ found_at p (chunk_at xs span p) → q ≡ c.0 + c.1.0 → placed (walk xs span p) p ≡ c ∷ placed (walk xs span q) q
  ahead_some q c e h =
      let f = some_found p (chunk_at xs span p) c e in
      let to : p + c.1.0 ≡ q = let at = f.0 in omega arith in
      ap (λ (cs : List Chunk). placed cs p) (walk_step xs span p c.1 f.1)
      ∙ ap (λ (z : ℕ). (p, c.1) ∷ placed (walk xs span z) z) to
      ∙ ap (λ (z : ℕ). (z, c.1) ∷ placed (walk xs span q) q) (sym f.0)

placed_none : (cs : List Chunk) (p : ℕ) → placed cs p ≡ [] → free_length cs ≡ 0
placed_none [] p e = refl
placed_none (c ∷ cs) p e = absurd (let z : ◌≡◌ {A = ℕ} 0 1 = cc in let w : ⊥ = omega arith in w)

placed_some : (cs : List Chunk) (p : ℕ) (c : Placed) (ds : List Placed) → placed cs p ≡ c ∷ ds → free_length cs ≡ free_part c
placed_some [] p c ds e = absurd (let z : ◌≡◌ {A = ℕ} 0 1 = cc in let w : ⊥ = omega arith in w)
placed_some (d ∷ cs) p c ds e = let k : ◌≡◌ {A = Placed} (p, d) c = cc in ap free_part k

-- what a walk from p on has before it
module _ (xs : List ℕ) (w : Walk) (p : ℕ) (e : w.region.now ≡ xs) (f : w.at ≡ p) where
  pub ahead_from : ahead w ≡ placed (walk xs (tag_span (length xs)) p) p
  unfolding ahead
  ahead_from =
      ap (λ (z : ℕ). placed (walk w.region.now w.span z) z) f
      ∙ ap (λ (z : ℕ). placed (walk w.region.now z p) p) w.whole
      ∙ ap (λ (ys : List ℕ). placed (walk ys (tag_span (length ys)) p) p) e

  -- the first of these says whether it is free, and how long
  pub free_next : (r : Option Found) (t : Walk) → YieldsFirstBy seen ahead w r t → option_map_or (λ k. free_part (seen k)) r 0 ≡ free_length (walk xs (tag_span (length xs)) p)
  free_next None t h = sym (placed_none (walk xs (tag_span (length xs)) p) p (sym ahead_from ∙ h.0))
  free_next (Some k) t h = sym (placed_some (walk xs (tag_span (length xs)) p) p (seen k) (ahead t) (sym ahead_from ∙ h))

-- the lowest free chunk with room, as its place and length
abbrev pub extent : Placed → ℕ × ℕ
extent c = (c.0, c.1.0)

fit_step : (u v : Bool) (c : Placed) (r : Option (ℕ × ℕ)) (s : Option Placed) → r ≡ option_map extent s → cond u (cond v (Some (extent c)) r) r ≡ option_map extent (cond (u && v) (Some c) s)
fit_step true true c r s e = refl
fit_step true false c r s e = e
fit_step false v c r s e = e

pub fit_found : (cs : List Chunk) (p n : ℕ) → lowest_fit cs p (n + 16) ≡ option_map extent (find (has_room n) (placed cs p))
fit_found [] p n = refl
fit_found (c ∷ cs) p n = fit_step (eqb c.1 0) (leb (n + 16) c.0) (p, c) _ _ (fit_found cs (p + c.0) n)

pub room_found : (xs : List ℕ) (w : Walk) (n : ℕ) (r : Option Found) → w.region.now ≡ xs → w.at ≡ 0 → option_map seen r ≡ find (has_room n) (ahead w) → lowest_fit (chunks xs) 0 (n + 16) ≡ option_map extent (option_map seen r)
room_found xs w n r e f g = fit_found (chunks xs) 0 n ∙ sym (ap (option_map extent) (g ∙ ap (find (has_room n)) (ahead_from xs w 0 e f)))

-- the block between a chunk's tags
abbrev pub between : Placed → Block
between c = (c.0 + 8, c.1.0 - 16)

find_later : (span : ℕ) (c : Chunk) (cs : List Chunk) (p a : ℕ) (r : Option Block) → Laid span p (c ∷ cs) → (In (p + 8) (cond (eqb c.1 1) (c.0 - 16) 0) a → ⊥) → Finds (live_in cs (p + c.0)) a r → Finds (live_in (c ∷ cs) p) a r
find_later span c cs p a (Some b) w out f =
    let o = w.0.some in
    let i = f.1 in
    let lo = i.from in
    let hi = i.below in
    let e = f.0 in
    let up : p + c.0 + 8 ≤ b.0 = ⊎_elim (λ (q : b.0 < p + c.0 + 8). absurd (let z = live_low span cs (p + c.0) b.0 w.1 q in let v : ⊥ = omega arith in v)) (λ (q : p + c.0 + 8 ≤ b.0). q) (cases_lt b.0 (p + c.0 + 8)) in
    (live_other c cs p b.0 (λ q. omega arith) ∙ e, i)
find_later span c cs p a None w out f = λ b i.
    let lo = i.from in
    let hi = i.below in
    ⊎_elim
    (λ (q : b ≡ p + 8). let e = live_here c cs p b q in out (record { from = omega arith; below = omega arith }))
    (λ (q : b ≡ p + 8 → ⊥). let e = live_other c cs p b q in f b (record { from = lo; below = omega arith }))
    (cases_eq b (p + 8))

covers_yes : (a : ℕ) (c : Placed) → covers a c ≡ true → (c.1.1 ≡ 1) × In (c.0 + 8) (c.1.0 - 16) a
covers_yes a c e = (grind arith, record { from = grind arith; below = grind arith })

covers_no : (a : ℕ) (c : Placed) → covers a c ≡ false → In (c.0 + 8) (cond (eqb c.1.1 1) (c.1.0 - 16) 0) a → ⊥
covers_no a c e i = let lo = i.from in let hi = i.below in grind arith

find_here : (c : Chunk) (cs : List Chunk) (p a : ℕ) → covers a (p, c) ≡ true → Finds (live_in (c ∷ cs) p) a (Some (between (p, c)))
find_here c cs p a e = let y = covers_yes a (p, c) e in (live_here c cs p (p + 8) refl ∙ cond-true (eqb c.1 1) (c.0 - 16) 0 (eq-eqb c.1 1 y.0), y.1)

find_step : (b : Bool) (span : ℕ) (c : Chunk) (cs : List Chunk) (p a : ℕ) (r : Option Placed) → covers a (p, c) ≡ b → Laid span p (c ∷ cs) → Finds (live_in cs (p + c.0)) a (option_map between r)
    → Finds (live_in (c ∷ cs) p) a (option_map between (cond b (Some (p, c)) r))
find_step true span c cs p a r e w f = find_here c cs p a e
find_step false span c cs p a r e w f = find_later span c cs p a (option_map between r) w (covers_no a (p, c) e) f

pub live_found : (span : ℕ) (cs : List Chunk) (p a : ℕ) → Laid span p cs → Finds (live_in cs p) a (option_map between (find (covers a) (placed cs p)))
live_found span [] p a w = λ b i. let lo = i.from in let hi = i.below in omega arith
live_found span (c ∷ cs) p a w = find_step (covers a (p, c)) span c cs p a (find (covers a) (placed cs (p + c.0))) refl w (live_found span cs (p + c.0) a w.1)

pub rounded : (n r : ℕ) → r ≡ next_multiple_of n 8 → r ≡ up8 n
rounded n r e = omega arith

-- the chunk that an allocate takes, or that there is none
module _ (xs : List ℕ) (n q size : ℕ) (e : Ok q ≡ admitted 32768 TagK n) (u : size ≡ up8 q) where
  room_same : q ≡ n
  room_same = admitted_same 32768 TagK n q (sym e)

  room_offer : (tag_means xs).offer n ≡ offer_from (lowest_fit (chunks xs) 0 (size + 16)) q
  room_offer = ap (λ (r : Result ℕ Fault). and_then r (tag_offer (chunks xs))) (sym e) ∙ ap (λ (z : ℕ). offer_from (lowest_fit (chunks xs) 0 (z + 16)) q) (sym u)

  pub room_none : lowest_fit (chunks xs) 0 (size + 16) ≡ None → (tag_means xs).offer n ≡ Err (raised Full TagK n)
  room_none f = room_offer ∙ ap (λ (o : Option (ℕ × ℕ)). offer_from o q) f ∙ ap (λ (z : ℕ). offer_from None z) room_same

  pub room_some : (p l part : ℕ) → lowest_fit (chunks xs) 0 (size + 16) ≡ Some (p, l) → part ≡ part_of l size → ((tag_means xs).offer n ≡ Ok (p + 8, part)) × (lowest_fit (chunks xs) 0 (up8 n + 16) ≡ Some (p, l))
  room_some p l part f g = (
    room_offer ∙ ap (λ (o : Option (ℕ × ℕ)). offer_from o q) f ∙ ap (λ (z : ℕ). Ok (p + 8, z)) (ap (λ (z : ℕ). part_of l z) (sym u) ∙ sym g),
    ap (λ (z : ℕ). lowest_fit (chunks xs) 0 (z + 16)) (ap up8 (sym room_same) ∙ sym u) ∙ f,
  )

-- The slots hold the blocks of the book, over each action of a replay.
use Rattle.std.proofs.Common.{◌≡◌, ℕ, ◌+◌, ◌<◌, ◌≤◌, eqb, List, [], ◌∷◌, length, get_or, set, replicate, Ok, sum_by, sym, refl, ap, ◌∙◌, ⊎_elim, arith, length-set}
use Rattle.std.specs.List.{AllByRecursion as All}
use Rattle.std.proofs.ByRecursion.{All-from_get_or, sum_by_le}
use Rattle.std.proofs.lemmas.List.{get_or-set_same, get_or-set_other, get_or_past, get_or-replicate}
use Rattle.std.proofs.lemmas.List.Sums.{sum_by-set}
use Rattle.std.proofs.lemmas.Bool.{cases_eq, cases_lt, cond-true, cond-false, eq-eqb, ne_eqb}
use Rattle.heap.specs.Meaning.{Meaning, Lawful, Granted as GrantedTo, Freed as FreedFrom}
use Rattle.heap.specs.Histories.{History, granted, freed, length_at}
use Rattle.player.specs.declared.slots.Slot.{Slot}
use Rattle.player.specs.declared.slots.Slot.TheVariants.{Empty, Held}
use Rattle.player.specs.Replays.{Stored, slot_blocks, slot_bytes, load_in}

never : {A : Type 0} (a c : ℕ) → Empty ≡ Held a c → A
never a c e = absurd (let z : ◌≡◌ {A = ℕ} 0 1 = cc in let w : ⊥ = omega arith in w)

-- nothing came and nothing went
pub restored : (ss : List Slot) (h h' : History) (m m' : Meaning) → ((a : ℕ) → length_at h' a ≡ length_at h a) → ((a : ℕ) → m'.live a ≡ m.live a) → Stored ss h m → Stored ss h' m'
restored ss h h' m m' e l k = record {
  table = k.table;
  booked = λ i a c q. e a ∙ k.booked i a c q;
  shaped = k.shaped;
  slotted = λ a p. let f = e a in let q : 0 < length_at h a = omega arith in let s = k.slotted a q in (s.0, s.1 ∙ ap (λ (n : ℕ). Held a n) (sym (e a)));
  single = k.single;
  live = λ a p. let f = e a in let q : 0 < length_at h a = omega arith in l a ∙ k.live a q ∙ sym (e a);
}

module _ (ss : List Slot) (h : History) (m m' : Meaning) (i : ℕ) (few : i < 256) (k : Stored ss h m) where
  within : i < length ss
  within = let e = k.table in omega arith

  -- a block comes into an empty slot
  pub stored_granted : (n a c : ℕ) → get_or ss i Empty ≡ Empty → Lawful m → m.offer n ≡ Ok (a, c) → GrantedTo a c m m' → Stored (set ss i (Held a c)) (granted n a c ∷ h) m'
  stored_granted n a c empty w o g =
      let sits = w.offered n (a, c) o in
      let span = w.span_bound in
      let some = sits.some in
      let end = sits.within in
      let new : length_at h a ≡ 0 = ⊎_elim
      (λ (p : 0 < length_at h a). let l = k.live a p in let q : 0 < m.live a = omega arith in
      ⊎_elim (λ (u : a + c ≤ a). absurd (let z : ⊥ = omega arith in z)) (λ (u : a + m.live a ≤ a). absurd (let z : ⊥ = omega arith in z)) (w.unused n (a, c) o a q))
      (λ (p : length_at h a ≤ 0). omega arith)
      (cases_lt 0 (length_at h a)) in
      let here : get_or (set ss i (Held a c)) i Empty ≡ Held a c = get_or-set_same ss i (Held a c) Empty within in
      let other : (b d j : ℕ) → get_or ss j Empty ≡ Held b d → b ≡ a → ⊥ = λ b d j q e. let l = k.booked j b d q in let s = k.shaped j b d q in let f : length_at h b ≡ length_at h a = ap (length_at h) e in omega arith in
      let at_a : length_at (granted n a c ∷ h) a ≡ c = cond-true (eqb a a) c (length_at h a) (eq-eqb a a refl) in
      let past : (b : ℕ) → (b ≡ a → ⊥) → length_at (granted n a c ∷ h) b ≡ length_at h b = λ b q. cond-false (eqb b a) c (length_at h b) (ne_eqb b a q) in
      let mine : (j b d : ℕ) → j ≡ i → get_or (set ss i (Held a c)) j Empty ≡ Held b d → b ≡ a = λ j b d e q. let f : Held a c ≡ Held b d = sym here ∙ ap (λ (z : ℕ). get_or (set ss i (Held a c)) z Empty) (sym e) ∙ q in cc in
      let there : (j b d : ℕ) → (j ≡ i → ⊥) → get_or (set ss i (Held a c)) j Empty ≡ Held b d → get_or ss j Empty ≡ Held b d = λ j b d e q. sym (get_or-set_other ss i j (Held a c) Empty e) ∙ q in
      record {
        table = length-set ss i (Held a c) ∙ k.table;
        booked = λ j b d q. ⊎_elim
            (λ (e : j ≡ i). let f : Held a c ≡ Held b d = sym here ∙ ap (λ (z : ℕ). get_or (set ss i (Held a c)) z Empty) (sym e) ∙ q in let x : b ≡ a = cc in let y : c ≡ d = cc in ap (length_at (granted n a c ∷ h)) x ∙ at_a ∙ y)
            (λ (e : j ≡ i → ⊥). let q' = there j b d e q in past b (other b d j q') ∙ k.booked j b d q')
            (cases_eq j i);
        shaped = λ j b d q. ⊎_elim
            (λ (e : j ≡ i). let f : Held a c ≡ Held b d = sym here ∙ ap (λ (z : ℕ). get_or (set ss i (Held a c)) z Empty) (sym e) ∙ q in let y : c ≡ d = cc in (omega arith, omega arith))
            (λ (e : j ≡ i → ⊥). k.shaped j b d (there j b d e q))
            (cases_eq j i);
        slotted = λ b p. ⊎_elim
            (λ (e : b ≡ a). (i, here ∙ (let x : length_at (granted n a c ∷ h) b ≡ c = ap (length_at (granted n a c ∷ h)) e ∙ at_a in let y = sym e in let z = sym x in cc)))
            (λ (e : b ≡ a → ⊥). let x = past b e in let q : 0 < length_at h b = omega arith in let s = k.slotted b q in
            (s.0, get_or-set_other ss i s.0 (Held a c) Empty (λ (u : s.0 ≡ i). never b (length_at h b) (sym empty ∙ ap (λ (z : ℕ). get_or ss z Empty) (sym u) ∙ s.1)) ∙ s.1 ∙ ap (λ (z : ℕ). Held b z) (sym x)))
            (cases_eq b a);
        single = λ j l b d e p q. ⊎_elim
            (λ (u : j ≡ i). ⊎_elim
            (λ (v : l ≡ i). u ∙ sym v)
            (λ (v : l ≡ i → ⊥). absurd (other b e l (there l b e v q) (mine j b d u p)))
            (cases_eq l i))
            (λ (u : j ≡ i → ⊥). ⊎_elim
            (λ (v : l ≡ i). absurd (other b d j (there j b d u p) (mine l b e v q)))
            (λ (v : l ≡ i → ⊥). k.single j l b d e (there j b d u p) (there l b e v q))
            (cases_eq l i))
            (cases_eq j i);
        live = λ b p. g.live b ∙ ⊎_elim
            (λ (e : b ≡ a). cond-true (eqb b a) c (m.live b) (eq-eqb b a e) ∙ sym (cond-true (eqb b a) c (length_at h b) (eq-eqb b a e)))
            (λ (e : b ≡ a → ⊥). let x = past b e in let q : 0 < length_at h b = omega arith in cond-false (eqb b a) c (m.live b) (ne_eqb b a e) ∙ k.live b q ∙ sym x)
            (cases_eq b a);
      }

  -- the block of a slot ends
  pub stored_freed : (a c : ℕ) → get_or ss i Empty ≡ Held a c → FreedFrom a m m' → Stored (set ss i Empty) (freed a ∷ h) m'
  stored_freed a c held f =
      let there : (j b d : ℕ) → get_or (set ss i Empty) j Empty ≡ Held b d → get_or ss j Empty ≡ Held b d = λ j b d q. ⊎_elim
      (λ (e : j ≡ i). never b d (sym (get_or-set_same ss i Empty Empty within) ∙ ap (λ (z : ℕ). get_or (set ss i Empty) z Empty) (sym e) ∙ q))
      (λ (e : j ≡ i → ⊥). sym (get_or-set_other ss i j Empty Empty e) ∙ q)
      (cases_eq j i) in
      let moved : (j b d : ℕ) → get_or (set ss i Empty) j Empty ≡ Held b d → j ≡ i → ⊥ = λ j b d q e. never b d (sym (get_or-set_same ss i Empty Empty within) ∙ ap (λ (z : ℕ). get_or (set ss i Empty) z Empty) (sym e) ∙ q) in
      let other : (j b d : ℕ) → get_or (set ss i Empty) j Empty ≡ Held b d → b ≡ a → ⊥ = λ j b d q e. moved j b d q (k.single j i a d c (there j b d q ∙ ap (λ (z : ℕ). Held z d) e) held) in
      let past : (b : ℕ) → (b ≡ a → ⊥) → length_at (freed a ∷ h) b ≡ length_at h b = λ b q. cond-false (eqb b a) 0 (length_at h b) (ne_eqb b a q) in
      let gone : (b : ℕ) → 0 < length_at (freed a ∷ h) b → b ≡ a → ⊥ = λ b p e. let z = cond-true (eqb b a) 0 (length_at h b) (eq-eqb b a e) in omega arith in
      record {
        table = length-set ss i Empty ∙ k.table;
        booked = λ j b d q. past b (other j b d q) ∙ k.booked j b d (there j b d q);
        shaped = λ j b d q. k.shaped j b d (there j b d q);
        slotted = λ b p.
            let x = past b (gone b p) in
            let q : 0 < length_at h b = omega arith in
            let s = k.slotted b q in
            let apart : s.0 ≡ i → ⊥ = λ u. gone b p (let v : Held b (length_at h b) ≡ Held a c = sym s.1 ∙ ap (λ (z : ℕ). get_or ss z Empty) u ∙ held in cc) in
            (s.0, get_or-set_other ss i s.0 Empty Empty apart ∙ s.1 ∙ ap (λ (z : ℕ). Held b z) (sym x));
        single = λ j l b d e p q. k.single j l b d e (there j b d p) (there l b e q);
        live = λ b p.
            let x = past b (gone b p) in
            let q : 0 < length_at h b = omega arith in
            f.live b ∙ cond-false (eqb b a) 0 (m.live b) (ne_eqb b a (gone b p)) ∙ k.live b q ∙ sym x;
      }

  -- blocks and bytes in slots, with one slot changed
  pub load_set : (s : Slot) → (sum_by slot_blocks (set ss i s) + slot_blocks (get_or ss i Empty) ≡ sum_by slot_blocks ss + slot_blocks s) × (sum_by slot_bytes (set ss i s) + slot_bytes (get_or ss i Empty) ≡ sum_by slot_bytes ss + slot_bytes s)
  load_set s = (sum_by-set slot_blocks ss i s Empty within, sum_by-set slot_bytes ss i s Empty within)

-- the slots of any replay hold at most 256 blocks, of at most 1,048,576 bytes each
pub load_bound : (ss : List Slot) (h : History) (m : Meaning) → Stored ss h m → ((load_in ss).blocks ≤ 256) × ((load_in ss).bytes ≤ 268435456)
load_bound ss h m k =
    let one : All (λ s. slot_blocks s ≤ 1) ss = All-from_get_or (λ s. slot_blocks s ≤ 1) ss Empty (λ i l. at_most_one (get_or ss i Empty)) in
    let few : All (λ s. slot_bytes s ≤ 1048576) ss = All-from_get_or (λ s. slot_bytes s ≤ 1048576) ss Empty (λ i l. short (get_or ss i Empty) (λ a c e. (k.shaped i a c e).1)) in
    let b = sum_by_le slot_blocks 1 ss one in
    let c = sum_by_le slot_bytes 1048576 ss few in
    let t = k.table in
    (omega arith, omega arith)
  where
    at_most_one : (s : Slot) → slot_blocks s ≤ 1
    at_most_one Empty = omega arith
    at_most_one (Held a c) = omega arith

    short : (s : Slot) → ((a c : ℕ) → s ≡ Held a c → c ≤ 1048576) → slot_bytes s ≤ 1048576
    short Empty f = omega arith
    short (Held a c) f = f a c refl

pub stored_none : (m : Meaning) → Stored (replicate 256 Empty) [] m
stored_none m = record {
  table = refl;
  booked = λ i a c e. never a c (sym (all_empty i) ∙ e);
  shaped = λ i a c e. never a c (sym (all_empty i) ∙ e);
  slotted = λ a p. absurd (let z : ⊥ = omega arith in z);
  single = λ i j a c d e f. never a c (sym (all_empty i) ∙ e);
  live = λ a p. absurd (let z : ⊥ = omega arith in z);
}
  where
    all_empty : (i : ℕ) → get_or (replicate 256 Empty) i Empty ≡ Empty
    all_empty i = ⊎_elim (λ (l : i < 256). get_or-replicate 256 i Empty Empty l) (λ (l : 256 ≤ i). get_or_past (replicate 256 Empty) i Empty (omega arith)) (cases_lt i 256)

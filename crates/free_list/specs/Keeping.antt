-- What a free list keeps, after each kind of accepted call. K is what the heap below keeps before the call, K' what it keeps after it.
use Rattle.std.specs.Prelude.{◌≡◌, ℕ, ◌<◌, ◌≤◌, Bool, true, false, cond, leb, List, [], ◌∷◌, length, Ok, Err, Result, ◌==◌, ◌≢◌, nat_le, refl}
use Rattle.std.proofs.Common.{sym, ◌∙◌, ap, subst, ⊎_elim, arith}
use Rattle.heap.specs.declared.fault.Fault.{Fault}
use Rattle.heap.specs.declared.fault.Kind.TheVariants.{FreeList as FreeListK}
use Rattle.heap.specs.Faults.{up, own}
use Rattle.heap.specs.Meaning.{Meaning, Block, Lawful, Allocates, Frees, Fills}
use Rattle.heap.specs.Histories.{History, Event, granted, freed, filled, relieved, size_at, after_allocate, after_free, after_fill}
use Rattle.heap.proofs.Lawful.{offered_free}
use Rattle.heap.proofs.Offers.{up_ok}
use Rattle.free_list.specs.Holdings.{among, without, with_newest}
use Rattle.free_list.specs.FreeLists.{unheld, held_after, sent_below, freed_in_turn, AllLive, FreeListKeeps, TakesOut}
use Rattle.free_list.specs.Addresses.{among_taken_out, among_others, among_push}
use Rattle.free_list.specs.FreeListed.{granted_live}
use Rattle.std.proofs.lemmas.Bool.{cond-true, cond-false, eq-eqb, ne_eqb, cases_eq, cases_Bool, both_ways, le-leb, lt-leb}

long_cond : (R : ℕ → ℕ) (t : Bool) (n s c u v : ℕ) → (0 < n → R n ≤ c) → (0 < s → R s ≤ u) → v ≡ cond t c u → 0 < cond t n s → R (cond t n s) ≤ v
long_cond R true n s c u v p q e z = let l = p z in omega arith
long_cond R false n s c u v p q e z = let l = q z in omega arith

-- nothing was called
pub begun_keeps : (R : ℕ → ℕ) (held : List ℕ) (live : ℕ → ℕ) (K : History → Type 0) → K [] → FreeListKeeps R held live held live K []
begun_keeps R held live K k = record { holds = refl; all_live = λ l. l; long = λ a p. absurd (let z : ⊥ = omega arith in z); below = λ l. k }

-- the premise of what is kept: nothing is held
pub none_held : (held : List ℕ) (live : ℕ → ℕ) → held ≡ [] → AllLive held live
none_held held live e a t = absurd (both_ways (among a held) (ap (among a) e) t)

module _ (R : ℕ → ℕ) (start : List ℕ) (began : ℕ → ℕ) (held held' : List ℕ) (live live' : ℕ → ℕ) (K K' : History → Type 0) (h : History) (k : FreeListKeeps R start began held live K h) where
  pub same_keeps : held' ≡ held → ((a : ℕ) → live' a ≡ live a) → ((q : History) → K q → K' q) → FreeListKeeps R start began held' live' K' h
  same_keeps eh el ek = record {
    holds = eh ∙ k.holds;
    all_live = λ l a t. let e = el a in let p = k.all_live l a (ap (among a) (sym eh) ∙ t) in omega arith;
    long = λ a z. let e = el a in let l = k.long a z in let u : unheld held' live' a ≡ unheld held live a = cc in omega arith;
    below = λ l. ek _ (k.below l);
  }

  -- a grant, served or from below
  granted_keeps : (n a c : ℕ) → held' ≡ without a held → live' a ≡ c → ((x : ℕ) → (x ≢ a) → live' x ≡ live x) → R n ≤ c → (AllLive start began → K' (sent_below R start (granted n a c ∷ h))) → FreeListKeeps R start began held' live' K' (granted n a c ∷ h)
  granted_keeps n a c eh ea eo le below = record {
    holds = eh ∙ ap (without a) k.holds;
    all_live = λ l x t.
        ⊎_elim
        (λ (q : x ≡ a). absurd (both_ways (among x held') (ap (λ (z : ℕ). among z held') q ∙ ap (among a) eh ∙ among_taken_out a held) t))
        (λ (q : x ≡ a → ⊥). let e = eo x q in let p = k.all_live l x (sym (among_others a x held q) ∙ ap (among x) (sym eh) ∙ t) in omega arith)
        (cases_eq x a);
    long = λ x. long_cond R (x == a) n (size_at h x) c (unheld held live x) _ (λ _. le) (k.long x) (granted_live held held' live live' a c eh ea eo x);
    below = below;
  }

  pub served_keeps : (n a c : ℕ) → among a held ≡ true → live a ≡ c → held' ≡ without a held → ((x : ℕ) → live' x ≡ live x) → R n ≤ c → ((q : History) → K q → K' (filled a c 0 ∷ q)) → FreeListKeeps R start began held' live' K' (granted n a c ∷ h)
  served_keeps n a c t ea eh el le ek =
      granted_keeps n a c eh (el a ∙ ea) (λ x _. el x) le
      (λ l.
      subst (λ (e : Event). K' (e ∷ sent_below R start h)) (sym (cond-true (among a (held_after start h)) (filled a c 0) (granted (R n) a c) (ap (among a) (sym k.holds) ∙ t))) (ek _ (k.below l)))

  pub fetched_keeps : (n a c : ℕ) → live a ≡ 0 → held' ≡ without a held → ((x : ℕ) → live' x ≡ cond (x == a) c (live x)) → R n ≤ c → ((q : History) → K q → K' (granted (R n) a c ∷ q)) → FreeListKeeps R start began held' live' K' (granted n a c ∷ h)
  fetched_keeps n a c z eh el le ek =
      granted_keeps n a c eh (el a ∙ cond-true (a == a) c (live a) (eq-eqb a a refl)) (λ x ne. el x ∙ cond-false (x == a) c (live x) (ne_eqb x a ne)) le
      (λ l.
      let fresh : among a held ≡ false = ⊎_elim (λ (t : among a held ≡ true). absurd (let p = k.all_live l a t in let w : ⊥ = omega arith in w)) (λ (t : among a held ≡ false). t) (cases_Bool (among a held)) in
      subst (λ (e : Event). K' (e ∷ sent_below R start h)) (sym (cond-false (among a (held_after start h)) (filled a c 0) (granted (R n) a c) (ap (among a) (sym k.holds) ∙ fresh))) (ek _ (k.below l)))

  pub relieved_keeps : held' ≡ [] → ((a : ℕ) → live' a ≡ unheld held live a) → ((q : History) → AllLive held live → K q → K' (relieved ∷ freed_in_turn held q)) → FreeListKeeps R start began held' live' K' (relieved ∷ h)
  relieved_keeps eh el ek = record {
    holds = eh;
    all_live = λ l. none_held held' live' eh;
    long = λ a z. let e = el a in let l = k.long a z in let u : unheld held' live' a ≡ live' a = ap (λ (q : List ℕ). unheld q live' a) eh in omega arith;
    below = λ l. subst (λ (q : List ℕ). K' (relieved ∷ freed_in_turn q (sent_below R start h))) k.holds (ek _ (k.all_live l) (k.below l));
  }

-- a free that holds the block
pub held_keeps : (R : ℕ → ℕ) (start : List ℕ) (began : ℕ → ℕ) (held held' : List ℕ) (live : ℕ → ℕ) (K : History → Type 0) (h : History) → FreeListKeeps R start began held live K h → (a : ℕ) → 0 < live a → length held < 16 → held' ≡ with_newest held a → FreeListKeeps R start began held' live K (freed a ∷ h)
held_keeps R start began held held' live K h k a p l eh =
    let few : leb 16 (length (held_after start h)) ≡ false = ap (λ (q : List ℕ). leb 16 (length q)) (sym k.holds) ∙ lt-leb 16 (length held) l in
    record {
      holds = eh ∙ ap (λ (q : List ℕ). with_newest q a) k.holds ∙ sym (cond-false (nat_le 16 (length (held_after start h))) (held_after start h) (with_newest (held_after start h) a) few);
      all_live = λ l x t.
          let e : among x held' ≡ cond (x == a) true (among x held) = ap (among x) eh ∙ among_push x a held in
          let q = k.all_live l x in
          grind arith;
      long = λ x.
          let e : among x held' ≡ cond (x == a) true (among x held) = ap (among x) eh ∙ among_push x a held in
          let u : unheld held' live x ≡ cond (x == a) 0 (unheld held live x) = grind arith in
          long_cond R (x == a) 0 (size_at h x) 0 (unheld held live x) _ (λ z. omega arith) (k.long x) u;
      below = λ l. subst K (sym (cond-false (nat_le 16 (length (held_after start h))) (freed a ∷ sent_below R start h) (sent_below R start h) few)) (k.below l);
    }

-- the calls that go below, by their answer
module _ (R : ℕ → ℕ) (start : List ℕ) (began : ℕ → ℕ) (held : List ℕ) (m m' : Meaning) (K K' : History → Type 0) (h : History) (k : FreeListKeeps R start began held m.live K h) where
  pub fetch_keeps : (held' : List ℕ) (n s : ℕ) (r : Result Block Fault) → Lawful m → s ≡ R n → r ≡ up (m.offer s) → TakesOut held held' r → Allocates m m' r → ((q : History) → K q → K' (after_allocate s r q)) → FreeListKeeps R start began held' m'.live K' (after_allocate n r h)
  fetch_keeps held' n s (Ok b) w e o eh g ek =
      let offer = up_ok (m.offer s) b (sym o) in
      let long = w.enough s b offer in
      fetched_keeps R start began held held' m.live m'.live K K' h k n b.0 b.1 (offered_free m s b w offer) eh g.live (omega arith) (λ q p. subst (λ (j : ℕ). K' (granted j b.0 b.1 ∷ q)) e (ek q p))
  fetch_keeps held' n s (Err x) w e o eh g ek = same_keeps R start began held held' m.live m'.live K K' h k eh g.0.live ek

  pub below_free_keeps : (a : ℕ) (r : Result (Unit {0}) Fault) → 16 ≤ length held → among a held ≡ false → Frees a m m' r → ((q : History) → K q → K' (after_free a r q)) → FreeListKeeps R start began held m'.live K' (after_free a (own FreeListK a r) h)
  below_free_keeps a (Ok y) l t s ek =
      let full : leb 16 (length (held_after start h)) ≡ true = ap (λ (q : List ℕ). leb 16 (length q)) (sym k.holds) ∙ le-leb 16 (length held) l in
      record {
        holds = k.holds ∙ sym (cond-true (nat_le 16 (length (held_after start h))) (held_after start h) (with_newest (held_after start h) a) full);
        all_live = λ l x u. let e = s.live x in let q = k.all_live l x u in grind arith;
        long = λ x.
            let e = s.live x in
            let u : unheld held m'.live x ≡ cond (x == a) 0 (unheld held m.live x) = grind arith in
            long_cond R (x == a) 0 (size_at h x) 0 (unheld held m.live x) _ (λ z. omega arith) (k.long x) u;
        below = λ l. subst K' (sym (cond-true (nat_le 16 (length (held_after start h))) (freed a ∷ sent_below R start h) (sent_below R start h) full)) (ek _ (k.below l));
      }
  below_free_keeps a (Err f) l t s ek = same_keeps R start began held held m.live m'.live K K' h k refl s.0.live ek

  pub below_fill_keeps : (a c v : ℕ) (r : Result (Unit {0}) Fault) → Fills a c v m m' r → ((q : History) → K q → K' (after_fill a c v r q)) → FreeListKeeps R start began held m'.live K' (after_fill a c v (own FreeListK a r) h)
  below_fill_keeps a c v (Ok t) s ek =
      let q = same_keeps R start began held held m.live m'.live K (λ q. K' (filled a c v ∷ q)) h k refl s.live ek in
      record { holds = q.holds; all_live = q.all_live; long = q.long; below = q.below }
  below_fill_keeps a c v (Err f) s ek = same_keeps R start began held held m.live m'.live K K' h k refl s.0.live ek

-- What one action does to the slots, the book and the load, by its turn.
use Rattle.std.proofs.Common.{◌≡◌, ℕ, ◌+◌, ◌-◌, ◌<◌, List, [], ◌∷◌, ◌++◌, get_or, set, sum_by, sym, refl, ap, subst, arith}
use Rattle.std.proofs.lemmas.List.{set-get_or}
use Rattle.heap.specs.declared.calls.Step.{Step}
use Rattle.heap.specs.Meaning.{Meaning, Lawful}
use Rattle.heap.specs.Histories as histories
use Rattle.heap.specs.Histories.{History}
use Rattle.heap.specs.Runs as runs
use Rattle.heap.specs.Runs.{Ran, none, more, after_steps}
use Rattle.trace.specs.declared.frame.Action.{Action}
use Rattle.trace.specs.Frames.{id_of}
use Rattle.report.specs.declared.tally.Outcome.{Outcome}
use Rattle.report.specs.Tallies.{load_after}
use Rattle.player.specs.declared.slots.Slot.{Slot}
use Rattle.player.specs.declared.slots.Slot.TheVariants.{Empty, Held}
use Rattle.player.specs.Turns.{Turned, taken, granted, denied, none_to_free, freed, unfreed, none_to_fill, filled, unfilled, relieved}
use Rattle.player.specs.Replays.{Stored, slot_blocks, slot_bytes, load_in}
use Rattle.player.proofs.Storing.{restored, stored_granted, stored_freed, load_set}

same_slot : (ss : List Slot) (i : ℕ) (s : Slot) → get_or ss i Empty ≡ s → set ss i s ≡ ss
same_slot ss i s e = subst (λ (z : Slot). set ss i z ≡ ss) e (set-get_or ss i Empty)

-- the slot, the book and the live blocks are as they were
same_stored : (ss : List Slot) (i : ℕ) (s : Slot) (h h' : History) (m m' : Meaning) → get_or ss i Empty ≡ s → ((a : ℕ) → histories.length_at h' a ≡ histories.length_at h a) → ((a : ℕ) → m'.live a ≡ m.live a) → Stored ss h m → Stored (set ss i s) h' m'
same_stored ss i s h h' m m' e b l k = subst (λ (z : List Slot). Stored z h' m') (sym (same_slot ss i s e)) (restored ss h h' m m' b l k)

pub stored_turned : (ss : List Slot) (h : History) (m m' : Meaning) (x : Action) (s s' : Slot) (o : Outcome) (us : List Step) → id_of x < 256 → get_or ss (id_of x) Empty ≡ s → Turned x s o us s' → Ran us m m' → Lawful m → Stored ss h m → Stored (set ss (id_of x) s') (after_steps us h) m'
stored_turned ss h m m' _ _ _ _ _ few e (taken {i = i} {a = a} {c = c}) none w k = same_stored ss i (Held a c) h h m m e (λ b. refl) (λ b. refl) k
stored_turned ss h m m' _ _ _ _ _ few e (granted {i = i} {n = n} {a = a} {c = c}) (more (runs.allocated q g) v none) w k = stored_granted ss h m m' i few k n a c e w (sym q) g
stored_turned ss h m m' _ _ _ _ _ few e (denied {i = i}) (more (runs.allocated q g) v none) w k = same_stored ss i Empty h h m m' e (λ b. refl) g.0.live k
stored_turned ss h m m' _ _ _ _ _ few e (none_to_free {i = i}) none w k = same_stored ss i Empty h h m m e (λ b. refl) (λ b. refl) k
stored_turned ss h m m' _ _ _ _ _ few e (freed {i = i} {a = a} {c = c}) (more (runs.freed q g) v none) w k = stored_freed ss h m m' i few k a c e g
stored_turned ss h m m' _ _ _ _ _ few e (unfreed {i = i} {a = a} {c = c}) (more (runs.freed q g) v none) w k = same_stored ss i (Held a c) h h m m' e (λ b. refl) g.0.live k
stored_turned ss h m m' _ _ _ _ _ few e (none_to_fill {i = i}) none w k = same_stored ss i Empty h h m m e (λ b. refl) (λ b. refl) k
stored_turned ss h m m' _ _ _ _ _ few e (filled {i = i} {v = v} {a = a} {c = c}) (more (runs.filled q g) u none) w k = same_stored ss i (Held a c) h (histories.filled a c v ∷ h) m m' e (λ b. refl) g.live k
stored_turned ss h m m' _ _ _ _ _ few e (unfilled {i = i} {a = a} {c = c}) (more (runs.filled q g) u none) w k = same_stored ss i (Held a c) h h m m' e (λ b. refl) g.0.live k
stored_turned ss h m m' _ _ _ _ _ few e (relieved {s = s}) (more (runs.eased g) v none) w k = same_stored ss 0 s h (histories.relieved ∷ h) m m' e (λ b. refl) g.live k

-- blocks and bytes in slots change as the outcome says
pub load_turned : (ss : List Slot) (h : History) (m : Meaning) (x : Action) (s s' : Slot) (o : Outcome) (us : List Step) → id_of x < 256 → get_or ss (id_of x) Empty ≡ s → Turned x s o us s' → Stored ss h m → load_in (set ss (id_of x) s') ≡ load_after (load_in ss) o
load_turned ss h m _ _ _ _ _ few e (taken {i = i} {a = a} {c = c}) k = ap load_in (same_slot ss i (Held a c) e)
load_turned ss h m _ _ _ _ _ few e (granted {i = i} {a = a} {c = c}) k =
    let l = load_set ss h m m i few k (Held a c) in
    let p = ap slot_blocks e in
    let q = ap slot_bytes e in
    let b : sum_by slot_blocks (set ss i (Held a c)) ≡ sum_by slot_blocks ss + 1 = omega arith in
    let d : sum_by slot_bytes (set ss i (Held a c)) ≡ sum_by slot_bytes ss + c = omega arith in
    cc
load_turned ss h m _ _ _ _ _ few e (denied {i = i}) k = ap load_in (same_slot ss i Empty e)
load_turned ss h m _ _ _ _ _ few e (none_to_free {i = i}) k = ap load_in (same_slot ss i Empty e)
load_turned ss h m _ _ _ _ _ few e (freed {i = i} {a = a} {c = c}) k =
    let l = load_set ss h m m i few k Empty in
    let p = ap slot_blocks e in
    let q = ap slot_bytes e in
    let b : sum_by slot_blocks (set ss i Empty) ≡ sum_by slot_blocks ss - 1 = omega arith in
    let d : sum_by slot_bytes (set ss i Empty) ≡ sum_by slot_bytes ss - c = omega arith in
    cc
load_turned ss h m _ _ _ _ _ few e (unfreed {i = i} {a = a} {c = c}) k = ap load_in (same_slot ss i (Held a c) e)
load_turned ss h m _ _ _ _ _ few e (none_to_fill {i = i}) k = ap load_in (same_slot ss i Empty e)
load_turned ss h m _ _ _ _ _ few e (filled {i = i} {a = a} {c = c}) k = ap load_in (same_slot ss i (Held a c) e)
load_turned ss h m _ _ _ _ _ few e (unfilled {i = i} {a = a} {c = c}) k = ap load_in (same_slot ss i (Held a c) e)
load_turned ss h m _ _ _ _ _ few e (relieved {s = s}) k = ap load_in (same_slot ss 0 s e)

pub ran_append : (ts us : List Step) (m m' m'' : Meaning) → Ran ts m m' → Ran us m' m'' → Ran (ts ++ us) m m''
ran_append [] us m m' m'' none r = r
ran_append (t ∷ ts) us m m' m'' (more a w q) r = more a w (ran_append ts us _ m' m'' q r)

pub after_append : (ts us : List Step) (h : History) → after_steps (ts ++ us) h ≡ after_steps us (after_steps ts h)
after_append [] us h = refl
after_append (t ∷ ts) us h = after_append ts us (runs.after_answer t.call t.answer h)

-- A replay from its start, over one action more, to its end.
use Rattle.std.proofs.Common.{◌≡◌, ℕ, ◌<◌, ◌≤◌, List, [], ◌∷◌, ◌++◌, length, get_or, set, Ok, Err, Result, sym, refl, ap, ◌∙◌, subst, arith}
use Rattle.std.proofs.lemmas.List.{append_assoc, length_push}
use Rattle.heap.specs.declared.fault.Cause.{Cause}
use Rattle.heap.specs.Meaning.{Meaning, Lawful}
use Rattle.heap.specs.Histories.{History}
use Rattle.heap.specs.Runs as runs
use Rattle.heap.specs.Runs.{Ran, Promise, after_steps}
use Rattle.heap.proofs.Runnings.{ran_promise}
use Rattle.heap.proofs.Books.{booked_none}
use Rattle.trace.specs.declared.frame.Frame.{Frame}
use Rattle.trace.specs.declared.frame.Action.{Action}
use Rattle.trace.specs.Frames.{pile_number, id_of, action_of}
use Rattle.heap.specs.declared.fault.Fault.{Fault}
use Rattle.heap.specs.declared.fault.Cause.TheVariants.{ReportBuffer}
use Rattle.heap.specs.declared.fault.Kind.TheVariants.{Replay}
use Rattle.heap.specs.Faults.{raised}
use Rattle.trace.specs.Recordings.{Recording, recorded, recorded_pile, actions_in, listed}
use Rattle.report.specs.declared.tally.Outcome.{Outcome}
use Rattle.report.specs.declared.tally.Load.{Load}
use Rattle.report.specs.declared.tally.Tally.{Tally}
use Rattle.report.specs.Tallies.{load_of, load_after, tally_of, Loadable, Countable}
use Rattle.report.specs.Lines.{report_text, checked_buffer, Writes}
use Rattle.report.proofs.Tallying.{load_push}
use Rattle.player.specs.declared.slots.Slot.{Slot}
use Rattle.player.specs.declared.slots.Slot.TheVariants.{Empty}
use Rattle.player.specs.Turns.{none, more, no_blocks}
use Rattle.player.specs.Replays.{Stored, load_in, Acted, Going, Replayed, Replays}
use Rattle.player.proofs.Storing.{load_bound, stored_none}
use Rattle.player.proofs.Turning.{stored_turned, load_turned, ran_append, after_append}

-- the actions of a list that begins with this frame
pub actions_next : (f : Frame) (fs rest : List Frame) (xs all : List Action) (r : Result Action Cause) → fs ≡ f ∷ rest → all ≡ xs ++ actions_in fs → action_of f ≡ r → all ≡ (xs ++ listed r) ++ actions_in rest
actions_next f fs rest xs all r e w a =
    w ∙ ap (λ (z : List Frame). xs ++ actions_in z) e
    ∙ ap (λ (z : Result Action Cause). xs ++ (listed z ++ actions_in rest)) a
    ∙ sym (append_assoc xs (listed r) (actions_in rest))

module _ {S : Type 0} (means : S → Meaning) (keeps : S → History → S → Type 0) where
  pub going_none : (s : S) (slots : List Slot) (t : Tally) → slots ≡ no_blocks → t ≡ tally_of [] → Going means keeps [] [] slots t s s
  going_none s slots t e f = subst (λ (z : List Slot). Going means keeps [] [] z t s s) (sym e) (record {
    steps = [];
    played = none;
    ran = runs.none;
    kept = λ from h k. k;
    stored = stored_none (means s);
    load = refl;
    tallied = f;
  })

  pub going_more : ((s : S) → Lawful (means s)) → (xs : List Action) (os : List Outcome) (ss : List Slot) (t t' : Tally) (start s s' : S) (x : Action) (r : Outcome × Slot) → id_of x < 256 → length os < 5461 → Going means keeps xs os ss t start s → Acted means keeps x (get_or ss (id_of x) Empty) s s' r
      → ((ps : List Outcome) → Countable (ps ++ (r.0 ∷ [])) → t ≡ tally_of ps → t' ≡ tally_of (ps ++ (r.0 ∷ [])))
      → Going means keeps (xs ++ (x ∷ [])) (os ++ (r.0 ∷ [])) (set ss (id_of x) r.1) t' start s'
  going_more lawful xs os ss t t' start s s' x r few short k a note =
      let h = after_steps k.steps [] in
      let o = r.0 in
      let stored : Stored (set ss (id_of x) r.1) (after_steps a.steps h) (means s') = stored_turned ss h (means s) (means s') x _ r.1 o a.steps few refl a.turned a.ran (lawful s) k.stored in
      let load : load_of (os ++ (o ∷ [])) ≡ load_in (set ss (id_of x) r.1) = load_push os o ∙ ap (λ (l : Load). load_after l o) k.load ∙ sym (load_turned ss h (means s) x _ r.1 o a.steps few refl a.turned k.stored) in
      let bound = load_bound (set ss (id_of x) r.1) (after_steps a.steps h) (means s') stored in
      let fits : Loadable (load_in (set ss (id_of x) r.1)) = record { blocks = omega (arith, bound.0); bytes = omega (arith, bound.1) } in
      let long = length_push os o in
      record {
        steps = k.steps ++ a.steps;
        played = more k.played a.turned;
        ran = ran_append k.steps a.steps (means start) (means s) (means s') k.ran a.ran;
        kept = λ from q p. subst (λ (z : History). keeps from z s') (sym (after_append k.steps a.steps q)) (a.kept from (after_steps k.steps q) (k.kept from q p));
        stored = subst (λ (z : History). Stored (set ss (id_of x) r.1) z (means s')) (sym (after_append k.steps a.steps [])) stored;
        load = load;
        tallied = note os (record { frames = omega arith; load = subst Loadable (sym load) fits }) k.tallied;
      }

  pub replayed : ((s : S) → Lawful (means s)) → ((s : S) → keeps s [] s) → (xs : List Action) (os : List Outcome) (ss : List Slot) (t : Tally) (s s' : S) → Going means keeps xs os ss t s s' → Replayed means keeps xs t s s'
  replayed lawful begins xs os ss t s s' k = record {
    outcomes = os;
    slots = ss;
    gone = k;
    begun = k.kept s [] (begins s);
    booked = λ h b. ran_promise k.steps h (means s) (means s') (lawful s) (lawful s') k.ran b;
    fresh = λ z. ran_promise k.steps [] (means s) (means s') (lawful s) (lawful s') k.ran (booked_none (means s) z);
  }

  -- the report of a whole replay, in a buffer that is long enough
  pub reported : (trace : List ℕ) (x : Recording) (p : ℕ) (t : Tally) (s s' : S) (out out' : List ℕ) (r : Result ℕ Fault) → recorded trace ≡ Ok x → pile_number x.pile ≡ p → Replayed means keeps x.actions t s s' → 256 ≤ length out → Writes (report_text p t) out out' r → Replays means keeps trace s s' out out' r
  reported trace x p t s s' out out' (Ok n) e q k long w = (x, t, e, k, subst (λ (z : ℕ). Writes (report_text z t) out out' (Ok n)) (sym q) w)
  reported trace x p t s s' out out' (Err f) e q k long w = absurd (let l = w.0 in let z : ⊥ = omega arith in z)

-- a trace that was refused
pub refused_by : (r : Result Recording Fault) (f : Fault) → recorded_pile r ≡ Err f → r ≡ Err f
refused_by (Ok x) f e = absurd (let z : ◌≡◌ {A = ℕ} 0 1 = cc in let w : ⊥ = omega arith in w)
refused_by (Err g) f e = cc

-- a buffer that was refused
pub too_short : (n : ℕ) (f : Fault) → ◌≡◌ {A = Result (Unit {0}) Fault} (Err f) (checked_buffer n) → (n < 256) × (f ≡ raised ReportBuffer Replay 256)
too_short n f e = (grind arith, grind arith)

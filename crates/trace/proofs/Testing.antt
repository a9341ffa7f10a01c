-- The test of a trace, frame by frame.
use Rattle.std.proofs.Common.{◌≡◌, ℕ, ◌+◌, ◌%◌, ◌≤◌, Bool, true, false, cond, ◌&&◌, eqb, leb, List, [], ◌∷◌, ◌++◌, length, Ok, Err, Result, sym, refl, ap, ◌∙◌, ⊎_elim}
use Rattle.std.proofs.lemmas.Bool.{cases_eq, ne_eqb, and_parts, leb-true}
use Rattle.heap.specs.declared.fault.Cause.{Cause}
use Rattle.heap.specs.declared.fault.Fault.{Fault}
use Rattle.heap.specs.Faults.{and_then}
use Rattle.trace.specs.declared.frame.Frame.{Frame}
use Rattle.trace.specs.declared.frame.Pile.{Pile}
use Rattle.trace.specs.declared.frame.Action.{Action}
use Rattle.trace.specs.Frames.{frames_of, pile_of, action_of}
use Rattle.trace.specs.Recordings.{Recording, at_frame, actions_from, recording_of, recorded, recorded_pile, listed, actions_in, bad_length}

-- the pile, where the frames numbered from k on have no fault
abbrev pub pile_unless : Pile → ℕ → List Frame → Result Pile Fault
pile_unless p k fs = and_then (actions_from k fs) (λ _. Ok p)

-- the head's pile stands where the others have no fault
pub headed : (f : Frame) (fs : List Frame) (p : Pile) → at_frame 0 (pile_of f) ≡ Ok p → recorded_pile (recording_of (f ∷ fs)) ≡ pile_unless p 1 fs
headed f fs p e = ap (λ (z : Result Pile Fault). recorded_pile (and_then z (λ q. and_then (actions_from 1 fs) (λ rest. Ok (record { pile = q; actions = rest }))))) e ∙ named (actions_from 1 fs)
  where
    named : (s : Result (List Action) Fault) → recorded_pile (and_then s (λ rest. Ok (record { pile = p; actions = rest }))) ≡ and_then s (λ _. Ok p)
    named (Ok rest) = refl
    named (Err g) = refl

-- the actions of frames that passed are those among them
actions_all : (k : ℕ) (fs : List Frame) (xs : List Action) → actions_from k fs ≡ Ok xs → actions_in fs ≡ xs
actions_all k [] xs e = cc
actions_all k (f ∷ fs) xs e = by_action (action_of f) refl (actions_from (k + 1) fs) (actions_all (k + 1) fs) e
  where
    by_action : (r : Result Action Cause) → action_of f ≡ r → (q : Result (List Action) Fault) → ((ys : List Action) → q ≡ Ok ys → actions_in fs ≡ ys) → and_then (at_frame k r) (λ a. and_then q (λ rest. Ok (a ∷ rest))) ≡ Ok xs → listed (action_of f) ++ actions_in fs ≡ xs
    by_action (Ok a) u (Ok rest) v w = ap (λ (z : Result Action Cause). listed z ++ actions_in fs) u ∙ ap (λ (z : List Action). a ∷ z) (v rest refl) ∙ (cc)
    by_action (Ok a) u (Err g) v w = cc
    by_action (Err c) u q v w = cc

-- a head asks for nothing
head_idle : (f : Frame) (p : Pile) → pile_of f ≡ Ok p → listed (action_of f) ≡ []
head_idle f p e = ⊎_elim
    (λ (q : f.kind ≡ 0). ap (λ (k : ℕ). listed (action_of (record { kind = k; id = f.id; number = f.number }))) q)
    (λ (q : f.kind ≡ 0 → ⊥). (let t = ne_eqb f.kind 0 q in cc))
    (cases_eq f.kind 0)

-- what is recorded in a trace that passed: its pile, and the actions among its frames
framed : (fs : List Frame) (x : Recording) → recording_of fs ≡ Ok x → actions_in fs ≡ x.actions
framed [] x e = cc
framed (f ∷ fs) x e = by_parts (pile_of f) refl (actions_from 1 fs) refl e
  where
    by_parts : (r : Result Pile Cause) → pile_of f ≡ r → (q : Result (List Action) Fault) → actions_from 1 fs ≡ q → and_then (at_frame 0 r) (λ p. and_then q (λ rest. Ok (record { pile = p; actions = rest }))) ≡ Ok x → listed (action_of f) ++ actions_in fs ≡ x.actions
    by_parts (Ok p) u (Ok rest) v w = ap (λ (z : List Action). z ++ actions_in fs) (head_idle f p u) ∙ actions_all 1 fs rest v ∙ (cc)
    by_parts (Ok p) u (Err g) v w = cc
    by_parts (Err c) u q v w = cc

-- a trace whose pile is told was recorded, and is short
pub recorded_by : (bytes : List ℕ) (p : Pile) → recorded_pile (recorded bytes) ≡ Ok p → (x : Recording) × (recorded bytes ≡ Ok x) × (x.pile ≡ p) × (actions_in (frames_of bytes) ≡ x.actions) × (length bytes ≤ 32766)
recorded_by bytes p e = by_test (leb (length bytes) 32766 && eqb (length bytes % 6) 0) refl
  where
    by_frames : recorded bytes ≡ recording_of (frames_of bytes) → length bytes ≤ 32766 → (r : Result Recording Fault) → recording_of (frames_of bytes) ≡ r → (x : Recording) × (recorded bytes ≡ Ok x) × (x.pile ≡ p) × (actions_in (frames_of bytes) ≡ x.actions) × (length bytes ≤ 32766)
    by_frames u few (Ok x) v = (x, u ∙ v, (let w : recorded_pile (Ok x) ≡ Ok p = sym (ap recorded_pile (u ∙ v)) ∙ e in cc), framed (frames_of bytes) x v, few)
    by_frames u few (Err f) v = absurd (let w : recorded_pile (Err f) ≡ Ok p = sym (ap recorded_pile (u ∙ v)) ∙ e in cc)

    by_test : (b : Bool) → (leb (length bytes) 32766 && eqb (length bytes % 6) 0) ≡ b → (x : Recording) × (recorded bytes ≡ Ok x) × (x.pile ≡ p) × (actions_in (frames_of bytes) ≡ x.actions) × (length bytes ≤ 32766)
    by_test true t = by_frames (ap (λ (b : Bool). cond b (recording_of (frames_of bytes)) (Err bad_length)) t) (leb-true (length bytes) 32766 (and_parts _ _ t).0) (recording_of (frames_of bytes)) refl
    by_test false t = absurd (cc)

-- the pile that is recorded is the one that the first frame names
pub recorded_head : (bytes : List ℕ) (x : Recording) → recorded bytes ≡ Ok x → (f : Frame) × (fs : List Frame) × (frames_of bytes ≡ f ∷ fs) × (pile_of f ≡ Ok x.pile)
recorded_head bytes x e = by_test (leb (length bytes) 32766 && eqb (length bytes % 6) 0) refl
  where
    by_parts : (f : Frame) (fs : List Frame) (r : Result Pile Cause) → pile_of f ≡ r → (q : Result (List Action) Fault) → and_then (at_frame 0 r) (λ p. and_then q (λ rest. Ok (record { pile = p; actions = rest }))) ≡ Ok x → pile_of f ≡ Ok x.pile
    by_parts f fs (Ok p) u (Ok rest) w = u ∙ (cc)
    by_parts f fs (Ok p) u (Err g) w = cc
    by_parts f fs (Err c) u q w = cc

    by_frames : (fs : List Frame) → frames_of bytes ≡ fs → recording_of fs ≡ Ok x → (f : Frame) × (gs : List Frame) × (frames_of bytes ≡ f ∷ gs) × (pile_of f ≡ Ok x.pile)
    by_frames [] u w = absurd (cc)
    by_frames (f ∷ fs) u w = (f, fs, u, by_parts f fs (pile_of f) refl (actions_from 1 fs) w)

    by_test : (b : Bool) → (leb (length bytes) 32766 && eqb (length bytes % 6) 0) ≡ b → (f : Frame) × (fs : List Frame) × (frames_of bytes ≡ f ∷ fs) × (pile_of f ≡ Ok x.pile)
    by_test true t = by_frames (frames_of bytes) refl (sym (ap (λ (b : Bool). cond b (recording_of (frames_of bytes)) (Err bad_length)) t) ∙ e)
    by_test false t = absurd (cc)

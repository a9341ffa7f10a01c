use Rattle.std.proofs.Common.{◌≡◌, ℕ, ◌+◌, ◌<◌, List, [], ◌∷◌, ◌++◌, length, get_or, take, set, sym, refl, ap, ◌∙◌, subst, add-one, arith, take_all, take-suc-set}
use Rattle.heap.specs.declared.calls.Step.{Step}
use Rattle.heap.specs.declared.calls.Call.TheVariants.{Allocate}
use Rattle.heap.specs.declared.calls.Answer.TheVariants.{Nothing}
use Rattle.heap.specs.Histories.{History}
use Rattle.heap.specs.Runs.{Ran, none, after_steps}
use Rattle.heap.proofs.Runnings.{ran_push, after_push, calls_set, ran_promise}
use Rattle.heap.proofs.Books.{booked_none}
use Rattle.heap.proofs.calls.run.Goals as goal

pub loop-step-init : goal.loop-step-init
loop-step-init g c = (refl, none, λ from h k. k)

pub loop-step-preserved : goal.loop-step-preserved
loop-step-preserved g c =
    let i = c.loop-step.step-index in
    let ss = c.loop-step.steps in
    let d : Step = record { call = Allocate 0; answer = Nothing } in
    let s : Step = record { call = (get_or ss i d).call; answer = c.make-step.result } in
    let lt : i < length ss = omega arith in
    let e : take (i + 1) (set ss i s) ≡ take i ss ++ (s ∷ []) = ap (λ (n : ℕ). take n (set ss i s)) (add-one i) ∙ take-suc-set ss i s lt in
    let inv = c.loop-step.invariant in
    let p = c.make-step.new.pile in (
      calls_set ss i d c.make-step.result lt ∙ inv.0,
      subst (λ (q : List Step). Ran q (g.P.Meant.means c.args.pile.now) (g.P.Meant.means p)) (sym e)
          (ran_push (take i ss) s _ _ _ inv.1 c.make-step.ensures.answered (g.P.Meant.lawful p)),
      λ from h k. subst (λ (q : List Step). g.P.Meant.keeps from (after_steps q h) p) (sym e)
          (subst (λ (q : History). g.P.Meant.keeps from q p) (sym (after_push (take i ss) s h)) (c.make-step.ensures.kept from _ (inv.2 from h k))),
    )

pub returns : goal.returns
returns g c =
    let ss = c.loop-step.steps in
    let m = g.P.Meant.means c.args.pile.now in
    let m' = g.P.Meant.means c.loop-step.pile in
    let e : take c.loop-step.step-index ss ≡ ss = take_all c.loop-step.step-index ss (omega arith) in
    let inv = c.loop-step.invariant in
    let r : Ran ss m m' = subst (λ (q : List Step). Ran q m m') e inv.1 in
    let w = g.P.Meant.lawful c.args.pile.now in
    let v = g.P.Meant.lawful c.loop-step.pile in
    record {
      calls = inv.0;
      ran = r;
      kept = λ from h k. subst (λ (q : List Step). g.P.Meant.keeps from (after_steps q h) c.loop-step.pile) e (inv.2 from h k);
      begun = subst (λ (q : List Step). g.P.Meant.keeps c.args.pile.now (after_steps q []) c.loop-step.pile) e (inv.2 c.args.pile.now [] (g.P.Meant.begins c.args.pile.now));
      booked = λ h k. ran_promise ss h m m' w v r k;
      fresh = λ z. ran_promise ss [] m m' w v r (booked_none m z);
    }

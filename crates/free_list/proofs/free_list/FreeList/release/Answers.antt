use Rattle.std.proofs.Common.{◌≡◌, ℕ, ◌+◌, ◌<◌, List, [], ◌∷◌, ◌++◌, length, get_or, take, sym, ap, ◌∙◌, subst, arith}
use Rattle.std.proofs.lemmas.List.{take_more}
use Rattle.heap.specs.Histories.{History}
use Rattle.free_list.specs.Holdings.{distinct}
use Rattle.free_list.specs.FreeLists.{Released, freed_in_turn}
use Rattle.free_list.specs.FreeList.{listed}
use Rattle.free_list.specs.Addresses.{fresh_in, among_in}
use Rattle.free_list.specs.Unheld.{unheld_not}
use Rattle.free_list.proofs.Releasing.{released_more, surely_freed, in_turn_push}
use Rattle.free_list.proofs.free_list.FreeList.release.Goals as goal

pub loop-a-preserved : goal.loop-a-preserved
loop-a-preserved g c =
    let s = c.args.self.now in
    let held = c.as_slice-a-items.result.now in
    let all : held ≡ listed s.held = c.as_slice-a-items.ensures ∙ ap listed c.replace-held.ensures.value in
    let i = c.loop-a.a-index in
    let inv = c.loop-a.invariant in
    let m = g.H.Meant.means s.below in
    let m' = g.H.Meant.means c.loop-a.self.below in
    let m'' = g.H.Meant.means c.free.new.self in
    let a = get_or held i 0 in
    let less : i < length held = omega arith in
    let more : take (i + 1) held ≡ take i held ++ (a ∷ []) = take_more held i 0 less in (
      inv.0,
      subst (λ (q : List ℕ). Released q m m'') (sym more) (released_more (take i held) a m m' m'' c.free.result inv.1 c.free.ensures.answer c.free.ensures.after),
      λ from h l k.
          let fresh = unheld_not (take i held) m.live a (fresh_in held i (ap distinct all ∙ s.held.apart) less) in
          let some : 0 < m'.live a = omega (arith, inv.1.live a, fresh, l a (among_in held i less)) in
          let sent = freed_in_turn (take i held) h in
          let K : History → Type 0 = λ q. g.H.Meant.keeps from q c.free.new.self in
          subst K (sym (ap (λ (q : List ℕ). freed_in_turn q h) more ∙ in_turn_push (take i held) a h))
          (surely_freed K a m' c.free.result sent some c.free.ensures.answer (c.free.ensures.kept from sent (inv.2 from h l k))),
    )

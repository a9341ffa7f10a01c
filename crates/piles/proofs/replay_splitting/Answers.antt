use Rattle.std.proofs.Common.{ℕ, length, refl, ap, ◌∙◌}
use Rattle.heap.specs.declared.rounding.Power.{Power}
use Rattle.bump.specs.declared.Bump.{Bump}
use Rattle.bitmap.specs.declared.Bitmap.{Bitmap}
use Rattle.boundary_tag.specs.declared.BoundaryTag.{BoundaryTag}
use Rattle.boundary_tag.specs.Chunks.{one_free, tag_span}
use Rattle.layers.specs.declared.quota.Quota.{Quota}
use Rattle.layers.specs.declared.affix.Affix.{Affix}
use Rattle.pairs.specs.declared.fallback.Fallback.{Fallback}
use Rattle.free_list.specs.declared.free_list.FreeList.{FreeList}
use Rattle.free_list.specs.FreeList.{listed}
use Rattle.piles.specs.Piles.{three}
use Rattle.piles.proofs.replay_splitting.Goals as goal

pub returns : goal.returns
unfolding tag_span
returns c =
    let e = c.new.ensures in
    let f = c.new-2.ensures.fresh in
    let h = c.new-3.ensures in
    let p = c.new-pile.ensures in
    let q = c.new-rationed.ensures in
    let Both : Type 0 = Fallback (Affix BoundaryTag) Bump in
    let First : Type 0 = FreeList Bitmap Power in
    let Second : Type 0 = Quota Both in
    three c.new.result c.new-2.result c.new-3.result
    (record { region = ap length e.region ∙ refl; used = e.used; first = e.first })
    (record { region = f.long ∙ refl; chunks = f.list ∙ ap (λ (n : ℕ). one_free (tag_span n)) f.long })
    (record { region = ap length h.region ∙ refl; cursor = h.cursor })
    (record {
      start = c.new-pile.result;
      end = c.replay.new.heap;
      threshold = p.threshold;
      small = ap (λ (z : First). z.below) p.first ∙ c.new-reused.ensures.below;
      held = ap (λ (z : First). listed z.held) p.first ∙ c.new-reused.ensures.held;
      limit = ap (λ (z : Second). z.limit) p.second ∙ q.limit;
      account = ap (λ (z : Second). z.account) p.second ∙ q.account;
      large = ap (λ (z : Second). z.below.pair.first.below) p.second ∙ ap (λ (z : Both). z.pair.first.below) q.below ∙ ap (λ (z : Affix BoundaryTag). z.below) c.new-4.ensures.first ∙ c.new-marked.ensures.below;
      last = ap (λ (z : Second). z.below.pair.second) p.second ∙ ap (λ (z : Both). z.pair.second) q.below ∙ c.new-4.ensures.second;
      replays = c.replay.ensures;
    })

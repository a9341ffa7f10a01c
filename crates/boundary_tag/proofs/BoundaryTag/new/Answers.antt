use Rattle.std.proofs.Common.{◌∙◌, subst, sym}
use Rattle.boundary_tag.specs.Chunks.{Fresh}
use Rattle.boundary_tag.proofs.Calls.{start_none, start_one, fresh_none}
use Rattle.boundary_tag.proofs.BoundaryTag.new.Goals as goal
use Rattle.boundary_tag.proofs.BoundaryTag.new.Goals.{then-span-ne0, else-span-ne0}

fresh : (c : goal.Joined-span-ne0) → Fresh c.args.region.now c.if-span-ne0.region
fresh c =
    elim c.if-span-ne0.branch [
      | then-span-ne0 w ↦ subst (Fresh c.args.region.now) (sym w.region-is) (start_one c.args.region.now w.write.new.region c.usable-span.result c.usable-span.ensures w.if-span-ne0.true w.write.ensures)
      | else-span-ne0 w ↦ subst (Fresh c.args.region.now) (sym w.region-is) (start_none c.args.region.now (sym c.usable-span.ensures ∙ w.if-span-ne0.false))
    ]

pub returns : goal.returns
returns c = record { fresh = fresh c; nothing = fresh_none c.args.region.now c.if-span-ne0.region (fresh c) }

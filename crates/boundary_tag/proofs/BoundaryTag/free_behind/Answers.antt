use Rattle.std.proofs.Common.{◌≡◌, ◌∙◌, rules, tests}
use Rattle.std.specs.Option.{option_map_or}
use Rattle.boundary_tag.specs.Placed.{seen, free_part}
use Rattle.boundary_tag.proofs.Reading.{free_next}
use Rattle.boundary_tag.proofs.BoundaryTag.free_behind.Goals as goal

pub returns : goal.returns
returns c =
    let m : c.map_or.result ≡ option_map_or (λ k. free_part (seen k)) c.next.result 0 = search (rules, tests) in
    m ∙ free_next c.args.self.now.region.now c.new.result c.args.p c.new.ensures.region c.new.ensures.at c.next.result c.next.new.self c.next.ensures.steps

use Rattle.std.proofs.Common.{ap, ◌∙◌, ◌==◌}
use Rattle.std.specs.List.{list_any}
use Rattle.free_list.proofs.Reading.{any_among}
use Rattle.free_list.proofs.held.Held.contains.Goals as goal

pub returns : goal.returns
returns c = c.contains.ensures.value ∙ ap (list_any (λ y. y == c.args.a)) c.as_slice.ensures.value ∙ any_among c.args.a c.args.self.now.addresses.items

use Rattle.std.proofs.Common.{length, refl, arith}
use Rattle.boundary_tag.specs.States.{tag_pair}
use Rattle.boundary_tag.specs.Laws.{span_within, span_most}
use Rattle.boundary_tag.proofs.Joining.{freeing, ready}
use Rattle.boundary_tag.proofs.BoundaryTag.joined.Goals as goal

pub overflow_sub-p : goal.overflow_sub-p
overflow_sub-p c = (freeing c.args.self.now.region.now c.args.a c.requires).low

pub free_before-low-requires : goal.free_before-low-requires
free_before-low-requires c =
    let xs = c.args.self.now.region.now in
    let f = (freeing xs c.args.a c.requires).within in
    let w = span_within (length xs) in
    let m = span_most (length xs) in
    (omega arith, omega arith)

pub read-size-requires : goal.read-size-requires
read-size-requires c =
    let xs = c.args.self.now.region.now in
    let k = freeing xs c.args.a c.requires in
    let f = k.within in
    let s = k.some in
    let w = span_within (length xs) in
    let m = span_most (length xs) in
    (omega arith, omega arith)

pub overflow_add-p : goal.overflow_add-p
overflow_add-p c =
    let xs = c.args.self.now.region.now in
    let r = (ready xs c.args.a c.free_before-low.result (tag_pair c.read-size.result) _ c.requires c.free_before-low.ensures c.read-size.ensures refl).within in
    let m = span_most (length xs) in
    omega arith

pub overflow_add-high : goal.overflow_add-high
overflow_add-high c =
    let xs = c.args.self.now.region.now in
    let r = (ready xs c.args.a c.free_before-low.result (tag_pair c.read-size.result) c.free_behind.result c.requires c.free_before-low.ensures c.read-size.ensures c.free_behind.ensures).within in
    let m = span_most (length xs) in
    omega arith

pub overflow_sub-result : goal.overflow_sub-result
overflow_sub-result c = (ready c.args.self.now.region.now c.args.a c.free_before-low.result (tag_pair c.read-size.result) c.free_behind.result c.requires c.free_before-low.ensures c.read-size.ensures c.free_behind.ensures).under

pub overflow_add-result : goal.overflow_add-result
overflow_add-result c =
    let xs = c.args.self.now.region.now in
    let r = ready xs c.args.a c.free_before-low.result (tag_pair c.read-size.result) c.free_behind.result c.requires c.free_before-low.ensures c.read-size.ensures c.free_behind.ensures in
    let f = r.within in
    let u = r.under in
    let m = span_most (length xs) in
    omega arith

pub invariant_of-result : goal.invariant_of-result
invariant_of-result c =
    let xs = c.args.self.now.region.now in
    let r = ready xs c.args.a c.free_before-low.result (tag_pair c.read-size.result) c.free_behind.result c.requires c.free_before-low.ensures c.read-size.ensures c.free_behind.ensures in
    let s = r.some in
    let f = r.within in
    let u = r.under in
    let m = span_most (length xs) in
    record { some = omega arith; inside = omega arith }

pub returns-clause-inside : goal.returns-clause-inside
returns-clause-inside c =
    let xs = c.args.self.now.region.now in
    let r = ready xs c.args.a c.free_before-low.result (tag_pair c.read-size.result) c.free_behind.result c.requires c.free_before-low.ensures c.read-size.ensures c.free_behind.ensures in
    let f = r.within in
    let u = r.under in
    let w = span_within (length xs) in
    omega arith

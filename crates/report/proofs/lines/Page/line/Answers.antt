use Rattle.std.proofs.Common.{[], ◌∷◌, arith}
use Rattle.std.specs.List.{flat_map}
use Rattle.std.proofs.lemmas.List.{length_push}
use Rattle.report.specs.declared.lines.Field.TheVariants.{Byte}
use Rattle.report.specs.Lines.{hex_field}
use Rattle.report.proofs.Laying.{wrote_on, room_at, wrote_at, wrote_each}
use Rattle.report.proofs.lines.Page.line.Goals as goal

pub field-requires : goal.field-requires
field-requires c =
    let l = length_push (flat_map hex_field c.args.fields.now) 10 in
    room_at hex_field c.args.fields.now c.args.self.now c.loop-field.self c.loop-field.field-index c.loop-field.invariant (Byte 0) c.loop-field-test.true (omega arith)

pub loop-field-preserved : goal.loop-field-preserved
loop-field-preserved c = wrote_at hex_field c.args.fields.now c.args.self.now c.loop-field.self c.loop-field.field-index c.loop-field.invariant (Byte 0) c.field.new.self c.loop-field-test.true c.field.ensures

pub returns : goal.returns
returns c =
    let w = wrote_each hex_field c.args.fields.now c.args.self.now c.loop-field.self c.loop-field.field-index c.loop-field.invariant c.loop-field-test.false in
    wrote_on c.args.self.now c.loop-field.self c.push.new.self (flat_map hex_field c.args.fields.now) (10 ∷ []) w c.push.ensures

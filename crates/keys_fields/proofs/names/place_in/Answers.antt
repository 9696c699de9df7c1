use Rattle.std.proofs.Common.{◌∷◌, sym, ap, ◌∙◌, length, length-append, arith}
use Rattle.keys_fields.proofs.Headers.{none_passed, name_passed, name_found, last_found, last_other}
use Rattle.keys_fields.proofs.names.place_in.Goals as goal

pub loop-field-init : goal.loop-field-init
loop-field-init c = (none_passed c.args.separator c.args.name.now c.args.line.now, omega arith)

pub loop-field-preserved : goal.loop-field-preserved
loop-field-preserved c = (
  name_passed c.args.separator c.loop-field.passed c.args.name.now c.loop-field.rest.now c.args.line.now c.in-Some.field.now c.in-Some.others.now c.loop-field.invariant.0 c.in-Some.ensures.parts c.in-Some.ensures.lacks (sym c.eq.ensures ∙ c.if-eq.false),
  omega (arith, c.loop-field.invariant.1, ap length c.in-Some.ensures.parts ∙ length-append c.in-Some.field.now (c.args.separator ∷ c.in-Some.others.now)),
)

pub returns-then-eq : goal.returns-then-eq
returns-then-eq c =
    name_found c.args.separator c.loop-field.passed c.args.name.now c.loop-field.rest.now c.args.line.now c.in-Some.field.now c.in-Some.others.now c.loop-field.invariant.0 c.in-Some.ensures.parts c.in-Some.ensures.lacks (sym c.eq.ensures ∙ c.if-eq.true)

pub returns-then-eq-2 : goal.returns-then-eq-2
returns-then-eq-2 c =
    last_found c.args.separator c.loop-field.passed c.args.name.now c.loop-field.rest.now c.args.line.now c.loop-field.invariant.0 c.in_default.ensures.none (sym c.eq-2.ensures ∙ c.if-eq-2.true)

pub returns-else-eq-2 : goal.returns-else-eq-2
returns-else-eq-2 c =
    last_other c.args.separator c.loop-field.passed c.args.name.now c.loop-field.rest.now c.args.line.now c.loop-field.invariant.0 c.in_default.ensures.none (sym c.eq-2.ensures ∙ c.if-eq-2.false)

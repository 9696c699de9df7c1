use Rattle.std.proofs.Common.{arith, sym, ap, ◌∙◌}
use Rattle.keys_fields.specs.Chosen.{field_at, is_free}
use Rattle.keys_fields.proofs.Fitting.{free_passed, not_free, all_free}
use Rattle.keys_fields.proofs.chosen.fields_fit.Goals as goal

pub returns-then-not-is_free : goal.returns-then-not-is_free
returns-then-not-is_free c =
    not_free is_free (λ place. field_at c.args.separator place c.args.line.now) c.args.places.now c.loop-place.place-index c.loop-place.invariant (omega (arith, c.loop-place-test.true))
    (ap is_free (sym c.field_at.ensures) ∙ sym c.is_free.ensures ∙ c.if-not-is_free.true)

pub returns : goal.returns
returns c = all_free is_free (λ place. field_at c.args.separator place c.args.line.now) c.args.places.now c.loop-place.place-index c.loop-place.invariant (omega (arith, c.loop-place-test.false))

pub loop-place-preserved : goal.loop-place-preserved
loop-place-preserved c =
    free_passed is_free (λ place. field_at c.args.separator place c.args.line.now) c.args.places.now c.loop-place.place-index c.loop-place.invariant (omega (arith, c.loop-place-test.true))
    (ap is_free (sym c.field_at.ensures) ∙ sym c.is_free.ensures ∙ c.if-not-is_free.false)

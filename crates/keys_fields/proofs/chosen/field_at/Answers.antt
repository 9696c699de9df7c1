use Rattle.std.proofs.Common.{[], get_or, arith}
use Rattle.keys_lines.specs.Keys.{fields_of}
use Rattle.keys_lines.proofs.WholeFields.{field_passed, fields_end, field_before, field_last}
use Rattle.keys_fields.proofs.chosen.field_at.Goals as goal

pub loop-passed-preserved : goal.loop-passed-preserved
loop-passed-preserved c =
    field_passed c.args.separator (get_or (fields_of c.args.separator c.args.line.now) c.args.place []) c.args.place c.loop-passed.passed c.loop-passed.rest.now c.in-Some.field-0-0.now c.in-Some.others.now
    c.in-Some.ensures.parts c.in-Some.ensures.lacks c.loop-passed-test.true c.loop-passed.invariant

pub returns-in-None : goal.returns-in-None
returns-in-None c =
    fields_end c.args.separator (get_or (fields_of c.args.separator c.args.line.now) c.args.place []) c.args.place c.loop-passed.passed c.loop-passed.rest.now c.in-None.ensures.none c.loop-passed-test.true c.loop-passed.invariant

pub returns-in-Some-cut_at : goal.returns-in-Some-cut_at
returns-in-Some-cut_at c =
    field_before c.args.separator (get_or (fields_of c.args.separator c.args.line.now) c.args.place []) c.args.place c.loop-passed.passed c.loop-passed.rest.now c.in-Some-cut_at.field.now c.in-Some-cut_at.field-0-1.now
    c.in-Some-cut_at.ensures.parts c.in-Some-cut_at.ensures.lacks (omega (arith, c.loop-passed-test.false)) c.loop-passed.invariant

pub returns-in-None-cut_at : goal.returns-in-None-cut_at
returns-in-None-cut_at c =
    field_last c.args.separator (get_or (fields_of c.args.separator c.args.line.now) c.args.place []) c.args.place c.loop-passed.passed c.loop-passed.rest.now c.in-None-cut_at.ensures.none (omega (arith, c.loop-passed-test.false)) c.loop-passed.invariant

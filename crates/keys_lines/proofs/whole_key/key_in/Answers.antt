use Rattle.std.proofs.Common.{ap, sym, ◌∙◌}
use Rattle.keys_lines.specs.Keys.{key_of}
use Rattle.keys_lines.proofs.WholeFields.{key_first, key_later, key_whole}
use Rattle.keys_lines.proofs.whole_key.key_in.Goals as goal

pub returns-then-before-eq0 : goal.returns-then-before-eq0
returns-then-before-eq0 c =
    key_first c.in-Field.separator c.in-Field.before c.args.line.now c.in-Some.first.now c.in-Some.others.now c.in-Some.ensures.parts c.in-Some.ensures.lacks c.if-before-eq0.true
    ∙ ap (λ key. key_of key c.args.line.now) (sym c.in-Field.is)

pub returns-else-before-eq0 : goal.returns-else-before-eq0
returns-else-before-eq0 c =
    key_later c.in-Field.separator c.in-Field.before c.args.line.now c.in-Some.first.now c.in-Some.others.now c.field_after.result.now c.in-Some.ensures.parts c.in-Some.ensures.lacks c.if-before-eq0.false c.field_after.ensures
    ∙ ap (λ key. key_of key c.args.line.now) (sym c.in-Field.is)

pub returns-in-None : goal.returns-in-None
returns-in-None c = key_whole c.in-Field.separator c.in-Field.before c.args.line.now c.in-None.ensures.none ∙ ap (λ key. key_of key c.args.line.now) (sym c.in-Field.is)

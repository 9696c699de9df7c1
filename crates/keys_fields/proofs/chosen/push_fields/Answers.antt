use Rattle.std.proofs.Common.{arith, rules, cond, eqb, ◌++◌, ◌∷◌, ap, ◌∙◌}
use Rattle.keys_fields.proofs.Joining.{put_next, all_put}
use Rattle.keys_fields.specs.Chosen.{field_at}
use Rattle.keys_fields.proofs.chosen.push_fields.Goals as goal

pub returns : goal.returns
returns c = all_put 31 (λ place. field_at c.args.separator place c.args.line.now) c.args.places.now c.args.to.now.items c.loop-i.to.items c.loop-i.i (omega (arith, c.loop-i-test.false)) c.loop-i.invariant

pub loop-i-preserved : goal.loop-i-preserved
loop-i-preserved c =
    put_next 31 (λ place. field_at c.args.separator place c.args.line.now) c.args.places.now c.args.to.now.items c.loop-i.to.items c.push_next.new.to.items c.loop-i.i (omega (arith, c.loop-i-test.true)) c.loop-i.invariant
    (search rules ∙ ap (λ text. c.loop-i.to.items ++ cond (eqb c.loop-i.i 0) text (31 ∷ text)) c.field_at.ensures)

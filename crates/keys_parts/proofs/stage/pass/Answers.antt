use Rattle.std.proofs.Common.{◌≡◌, ◌-◌, length, take, drop, take_all, sym, subst, ◌∙◌, arith, length-drop}
use Rattle.keys_lines.specs.Lines.{Lacks}
use Rattle.keys_parts.proofs.Blocks.{passed_block, passed_end, passed_on}
use Rattle.keys_parts.proofs.stage.pass.Goals as goal

pub returns-then-block-before-clause-passes : goal.returns-then-block-before-clause-passes
returns-then-block-before-clause-passes c = λ more. passed_block c.args.block.now more c.args.before c.if-block-before.true

pub returns-in-Some-clause-passes : goal.returns-in-Some-clause-passes
returns-in-Some-clause-passes c = λ more.
    let block = c.args.block.now in
    let before = c.args.before in
    let whole : take (length block - before) (drop before block) ≡ drop before block = take_all (length block - before) (drop before block) (omega (arith, length-drop before block)) in
    passed_end block c.in-Some.line.now c.in-Some.field-0-1.now more before (omega arith) (sym whole ∙ c.in-Some.ensures.parts) c.in-Some.ensures.line

pub returns-in-None-clause-passes : goal.returns-in-None-clause-passes
returns-in-None-clause-passes c = λ more.
    let block = c.args.block.now in
    let before = c.args.before in
    let whole : take (length block - before) (drop before block) ≡ drop before block = take_all (length block - before) (drop before block) (omega (arith, length-drop before block)) in
    passed_on block more before (omega arith) (subst (Lacks 10) whole c.in-None.ensures.none)

use Rattle.std.proofs.Common.{◌≡◌, length, take, map, ap, sym, ◌∙◌, subst, take_all, arith}
use Rattle.std.specs.List.{AllByRecursion}
use Rattle.core_images.proofs.blocks.spell_block.Goals as goal

pub returns-clause-texts : goal.returns-clause-texts
returns-clause-texts g c =
    let block = c.args.block.now in
    let all : c.loop-at.at ≡ length block = omega (arith, c.loop-at.auto.at-end, c.loop-at-test.false) in
    let all_block : take c.loop-at.at block ≡ block = take_all c.loop-at.at block (omega (arith, c.loop-at-test.false)) in
    ap (λ n. take n c.loop-at.texts) (sym all) ∙ c.loop-at.invariant.1 ∙ ap (map g.E.FixedEntry.text) all_block

pub returns-clause-values : goal.returns-clause-values
returns-clause-values g c =
    let block = c.args.block.now in
    let all_block : take c.loop-at.at block ≡ block = take_all c.loop-at.at block (omega (arith, c.loop-at-test.false)) in
    subst (AllByRecursion g.E.FixedEntry.is_value) all_block c.loop-at.invariant.2

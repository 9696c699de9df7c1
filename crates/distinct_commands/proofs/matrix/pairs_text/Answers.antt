use Rattle.std.proofs.Common.{◌≡◌, ◌++◌, List, length, map, sym, ap, subst, ◌∙◌, arith}
use Rattle.distinct_arguments.specs.Faults.{options_of}
use Rattle.distinct_inputs.specs.Seeds.{AreSeeded}
use Rattle.distinct_commands.specs.Matrix.{named_of, pairs_text, sketches_in}
use Rattle.distinct_commands.specs.declared.matrix.Named.{Named}
use Rattle.distinct_commands.proofs.Pairs.{row_more, last_row}
use Rattle.distinct_commands.proofs.matrix.pairs_text.Goals as goal

pub loop-first-init : goal.loop-first-init
loop-first-init c = record {
  text = ap (λ items. items ++ pairs_text (options_of c.args.options.now) c.args.seed (map named_of c.args.sketches.now)) (sym c.new-text.ensures.items);
  seeded = c.requires.seeded;
}

pub loop-first-preserved : goal.loop-first-preserved
loop-first-preserved c =
    let options = options_of c.args.options.now in
    let others = c.in-Some.others.now in
    let put = c.in_ok-extend_from_slice.ensures.items ∙ ap (λ bytes. c.loop-first.text.items ++ bytes) c.as_slice.ensures.value in
    let seeded = subst (λ (l : List Named). AreSeeded c.args.seed (sketches_in (map named_of l))) c.in-Some.ensures.cases.0 c.loop-first.invariant.seeded in
    record {
      text = row_more options c.args.seed _ c.loop-first.text.items c.in_ok-row.row.items c.loop-first.left.now c.in-Some.first.now others c.loop-first.invariant.text c.in-Some.ensures.cases.0 c.in_ok-row.ensures.text
          ∙ ap (λ items. items ++ pairs_text options c.args.seed (map named_of others)) (sym put);
      seeded = seeded.1;
    }

pub row_text-requires-clause-first : goal.row_text-requires-clause-first
row_text-requires-clause-first c = (subst (λ (l : List Named). AreSeeded c.args.seed (sketches_in (map named_of l))) c.in-Some.ensures.cases.0 c.loop-first.invariant.seeded).0

pub row_text-requires-clause-others : goal.row_text-requires-clause-others
row_text-requires-clause-others c = (subst (λ (l : List Named). AreSeeded c.args.seed (sketches_in (map named_of l))) c.in-Some.ensures.cases.0 c.loop-first.invariant.seeded).1

pub returns-clause-text : goal.returns-clause-text
returns-clause-text c =
    let none : length c.loop-first.left.now ≡ 0 = grind (arith, c.in_default.ensures.cases, c.in_default.ensures.variant, c.in_default.not-Some) in
    last_row (options_of c.args.options.now) c.args.seed _ c.loop-first.text.items c.loop-first.left.now c.loop-first.invariant.text none

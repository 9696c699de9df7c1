use Rattle.std.proofs.Common.{◌≡◌, ◌++◌, List, length, map, sym, ap, subst, ◌∙◌, arith}
use Rattle.distinct_arguments.specs.Faults.{options_of}
use Rattle.distinct_inputs.specs.Seeds.{AreSeeded}
use Rattle.distinct_commands.specs.Matrix.{named_of, row_text, sketches_in}
use Rattle.distinct_commands.specs.declared.matrix.Named.{Named}
use Rattle.distinct_commands.proofs.Pairs.{line_more, last_line}
use Rattle.distinct_commands.proofs.matrix.row_text.Goals as goal

pub loop-second-init : goal.loop-second-init
loop-second-init c = record {
  text = ap (λ items. items ++ row_text (options_of c.args.options.now) c.args.seed (named_of c.args.first.now) (map named_of c.args.others.now)) (sym c.new-text.ensures.items);
  seeded = c.requires.others;
}

pub loop-second-preserved : goal.loop-second-preserved
loop-second-preserved c =
    let options = options_of c.args.options.now in
    let first = named_of c.args.first.now in
    let more = c.in-Some.more.now in
    let put = c.in_ok-extend_from_slice.ensures.items ∙ ap (λ bytes. c.loop-second.text.items ++ bytes) c.as_slice.ensures.value in
    let seeded = subst (λ (l : List Named). AreSeeded c.args.seed (sketches_in (map named_of l))) c.in-Some.ensures.cases.0 c.loop-second.invariant.seeded in
    record {
      text = line_more options c.args.seed first _ c.loop-second.text.items c.in_ok-line.line.items c.loop-second.left.now c.in-Some.second.now more c.loop-second.invariant.text c.in-Some.ensures.cases.0 c.in_ok-line.ensures.text
          ∙ ap (λ items. items ++ row_text options c.args.seed first (map named_of more)) (sym put);
      seeded = seeded.1;
    }

pub pair_text-requires-clause-second : goal.pair_text-requires-clause-second
pair_text-requires-clause-second c =
    (subst (λ (l : List Named). AreSeeded c.args.seed (sketches_in (map named_of l))) c.in-Some.ensures.cases.0 c.loop-second.invariant.seeded).0

pub returns-clause-text : goal.returns-clause-text
returns-clause-text c =
    let none : length c.loop-second.left.now ≡ 0 = grind (arith, c.in_default.ensures.cases, c.in_default.ensures.variant, c.in_default.not-Some) in
    last_line (options_of c.args.options.now) c.args.seed (named_of c.args.first.now) _ c.loop-second.text.items c.loop-second.left.now c.loop-second.invariant.text none

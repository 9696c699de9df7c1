use Rattle.distinct_arguments.specs.Faults.{options_of}
use Rattle.distinct_inputs.specs.Images.{remaining_images}
use Rattle.distinct_commands.specs.Showing.{AreOfOne}
use Rattle.distinct_commands.proofs.ShownImages.{Shows}
use Rattle.distinct_commands.proofs.show.show_lines.Given as goal

-- the lines so far, followed by those of the images that are left, are all lines, and so are the failures
abbrev pub invariant-loop : goal.invariant-loop
invariant-loop g l = record {
  shows : Shows (options_of l.options) (remaining_images g.S.Source.Read.remaining g.S.Sources.texts l.fn.images) l.answer.bytes.items l.answer.passed.items (remaining_images g.S.Source.Read.remaining g.S.Sources.texts l.images);
  of_one : AreOfOne g.S.Sources.may_fail l.answer.passed.items;
}

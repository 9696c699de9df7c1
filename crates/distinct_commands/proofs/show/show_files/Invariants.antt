use Rattle.std.proofs.Common.{◌≡◌, false}
use Rattle.std.specs.Prelude.{map, length, string_bytes}
use Rattle.distinct_arguments.specs.Faults.{options_of}
use Rattle.distinct_inputs.specs.Images.{remaining_images}
use Rattle.distinct_commands.specs.Showing.{AreOfOne}
use Rattle.distinct_commands.proofs.ShownImages.{ShowsByName}
use Rattle.distinct_commands.proofs.show.show_files.Given as goal

-- the lines so far, followed by those of the images that are left, are all lines, and so are the failures
abbrev pub invariant-loop-file : goal.invariant-loop-file
invariant-loop-file g l = record {
  shows : ShowsByName (options_of l.options) (remaining_images g.S.Source.Read.remaining g.S.Sources.texts l.fn.images) (map (λ name. string_bytes name) l.files) l.answer.bytes.items l.answer.passed.items (remaining_images g.S.Source.Read.remaining g.S.Sources.texts l.images) (map (λ name. string_bytes name) l.left);
  of_one : AreOfOne g.S.Sources.may_fail l.answer.passed.items;
  whole : l.images.hex ≡ false;
  named : l.images.inputs.left.now ≡ l.left;
}

abbrev pub decreases-loop-file : goal.decreases-loop-file
decreases-loop-file g l = length l.left

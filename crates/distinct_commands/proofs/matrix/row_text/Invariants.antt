use Rattle.std.proofs.Common.{◌≡◌, ◌++◌, length, map}
use Rattle.distinct_arguments.specs.Faults.{options_of}
use Rattle.distinct_inputs.specs.Seeds.{AreSeeded}
use Rattle.distinct_commands.specs.Matrix.{named_of, row_text, sketches_in}
use Rattle.distinct_commands.proofs.matrix.row_text.Given as goal

-- the lines so far, followed by those of the sketches that are left, are all lines
abbrev pub invariant-loop-second : goal.invariant-loop-second
invariant-loop-second l = record {
  text : row_text (options_of l.options) l.seed (named_of l.first) (map named_of l.fn.others) ≡ l.text.items ++ row_text (options_of l.options) l.seed (named_of l.first) (map named_of l.left);
  seeded : AreSeeded l.seed (sketches_in (map named_of l.left));
}

abbrev pub decreases-loop-second : goal.decreases-loop-second
decreases-loop-second l = length l.left

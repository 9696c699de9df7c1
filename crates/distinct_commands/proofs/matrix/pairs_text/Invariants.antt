use Rattle.std.proofs.Common.{◌≡◌, ◌++◌, length, map}
use Rattle.distinct_arguments.specs.Faults.{options_of}
use Rattle.distinct_inputs.specs.Seeds.{AreSeeded}
use Rattle.distinct_commands.specs.Matrix.{named_of, pairs_text, sketches_in}
use Rattle.distinct_commands.proofs.matrix.pairs_text.Given as goal

-- the lines so far, followed by those of the pairs of the sketches that are left, are all lines
abbrev pub invariant-loop-first : goal.invariant-loop-first
invariant-loop-first l = record {
  text : pairs_text (options_of l.options) l.seed (map named_of l.fn.sketches) ≡ l.text.items ++ pairs_text (options_of l.options) l.seed (map named_of l.left);
  seeded : AreSeeded l.seed (sketches_in (map named_of l.left));
}

abbrev pub decreases-loop-first : goal.decreases-loop-first
decreases-loop-first l = length l.left

use Rattle.keys_sketches.specs.Sources.{Continues}
use Rattle.distinct_arguments.specs.Faults.{options_of}
use Rattle.distinct_commands.specs.Eval.{AreSketchesOfTexts}
use Rattle.distinct_inputs.specs.Seeds.{AreSeeded}
use Rattle.distinct_commands.proofs.job.Job.all_lines.Given as goal

-- the sketches so far are of the seed, and are those of the texts read so far
abbrev pub invariant-loop : goal.invariant-loop
invariant-loop g l = record {
  seeded : AreSeeded l.seed l.sketches.items;
  sketched : Continues (g.S.Sources.texts l.fn.self.inputs.sources) (g.S.Sources.texts l.inputs.sources) (λ taken. AreSketchesOfTexts (options_of l.options) l.seed taken l.sketches.items);
}

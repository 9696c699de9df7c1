use Rattle.distinct_arguments.specs.Faults.{options_of}
use Rattle.distinct_inputs.specs.Lists.{names_of}
use Rattle.distinct_commands.specs.Texts.{head_of}
use Rattle.distinct_commands.proofs.EachFile.{CountsSoFar}
use Rattle.distinct_commands.proofs.job.Job.count_each.Given as goal

-- the lines so far, followed by those of the files that are left, are all lines
abbrev pub invariant-loop : goal.invariant-loop
invariant-loop g l = CountsSoFar (options_of l.options) l.seed (g.S.Sources.texts l.fn.self.inputs.sources) (g.S.Sources.texts l.inputs.sources) (head_of l.options.form)
    l.fn.self.inputs.current.now (names_of l.fn.self.inputs.left.now) l.text.items l.inputs.current.now (names_of l.inputs.left.now)

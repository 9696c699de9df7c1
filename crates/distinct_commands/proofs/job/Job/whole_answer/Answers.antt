use Rattle.std.proofs.Common.{length}
use Rattle.distinct_arguments.specs.Faults.{options_of}
use Rattle.distinct_commands.proofs.VisitFailures.{visits_failed}
use Rattle.distinct_commands.proofs.job.Job.whole_answer.Goals as goal

pub returns-else-options-2-clause-failed : goal.returns-else-options-2-clause-failed
returns-else-options-2-clause-failed g c =
    visits_failed c.visit_inputs.result c.args.command (options_of c.args.self.options.now) c.args.self.seed (length c.args.files.now)
    (g.S.Sources.texts c.args.self.inputs.sources) c.in-Visits.is c.visit_inputs.ensures.failed

use Rattle.distinct_commands.proofs.Failing.{minus_of_join}
use Rattle.distinct_commands.proofs.job.Job.minus_inputs.Goals as goal

pub returns-clause-failed : goal.returns-clause-failed
returns-clause-failed g c =
    minus_of_join c.args.self.seed c.args.count (g.S.Sources.texts c.args.self.inputs.sources) c.join_failure.result
    (c.join_failure.ensures.failed c.args.self.seed (g.S.Sources.texts c.args.self.inputs.sources) c.in-Err.ensures.failed)

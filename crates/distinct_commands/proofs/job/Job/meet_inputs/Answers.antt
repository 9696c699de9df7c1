use Rattle.distinct_commands.proofs.job.Job.meet_inputs.Goals as goal

pub returns-clause-failed : goal.returns-clause-failed
returns-clause-failed g c = c.join_failure.ensures.failed c.args.self.seed (g.S.Sources.texts c.args.self.inputs.sources) c.in-Err.ensures.failed

use Rattle.distinct_commands.proofs.ShowFailures.{shown_failed}
use Rattle.distinct_commands.proofs.job.Job.answer.Goals as goal

pub returns-else-is_empty-clause-failed : goal.returns-else-is_empty-clause-failed
returns-else-is_empty-clause-failed g c = shown_failed c.show_either.result c.args.command _ _ _ _ c.in-Show.is c.show_either.ensures.failed

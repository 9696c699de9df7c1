use Rattle.distinct_arguments.specs.Settings.{options_of}
use Rattle.distinct_arguments.proofs.Rules.{condition_first, condition_later}
use Rattle.distinct_arguments.proofs.files.broken_condition.Goals as goal

pub returns-in-Some : goal.returns-in-Some
returns-in-Some c =
    condition_first c.args.command (options_of c.args.options.now) c.args.option c.loop-conditions.conditions.now _ c.in-Some.fault _ c.in-len1-up.len_at_least c.loop-conditions.invariant c.in-Some.ensures

pub loop-conditions-preserved : goal.loop-conditions-preserved
loop-conditions-preserved c =
    condition_later c.args.command (options_of c.args.options.now) c.args.option c.loop-conditions.conditions.now _ _ c.in-len1-up.len_at_least c.loop-conditions.invariant c.in_default-broken_in.ensures

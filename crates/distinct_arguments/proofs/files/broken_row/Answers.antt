use Rattle.distinct_arguments.specs.Settings.{options_of}
use Rattle.distinct_arguments.proofs.Rules.{row_first, row_later}
use Rattle.distinct_arguments.proofs.files.broken_row.Goals as goal

pub returns-in-Some : goal.returns-in-Some
returns-in-Some c =
    row_first c.args.command (options_of c.args.options.now) c.loop-rows.rows.now _ c.in-Some.fault _ c.in-len1-up.len_at_least c.loop-rows.invariant c.in-Some.ensures

pub loop-rows-preserved : goal.loop-rows-preserved
loop-rows-preserved c =
    row_later c.args.command (options_of c.args.options.now) c.loop-rows.rows.now _ _ c.in-len1-up.len_at_least c.loop-rows.invariant c.in_default-broken_by.ensures

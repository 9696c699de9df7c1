use Rattle.distinct_arguments.specs.Settings.{options_of, with_value}
use Rattle.distinct_arguments.proofs.Meanings.{meant_at, wrongly_at}
use Rattle.distinct_arguments.proofs.arguments.meaning_with.Goals as goal

pub returns-in-Ok : goal.returns-in-Ok
returns-in-Ok c = meant_at (with_value (options_of c.args.options) c.args.option c.args.name.now c.args.value.now) c.in-Ok.changed c.in-Ok.ensures

pub returns-in-Err : goal.returns-in-Err
returns-in-Err c = wrongly_at (with_value (options_of c.args.options) c.args.option c.args.name.now c.args.value.now) c.in-Err.fault c.in-Err.ensures

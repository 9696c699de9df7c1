-- Failures of `visits`.
use Rattle.std.proofs.Common.{◌≡◌, ℕ, true, List, Option, sym, subst}
use Rattle.std.specs.Prelude.{IfErr, Result, Ok, Err}
use Rattle.distinct_arguments.specs.Settings.{OptionValues}
use Rattle.distinct_arguments.specs.declared.commands.Command.{Command}
use Rattle.distinct_arguments.specs.declared.commands.Command.TheVariants.{Visits}
use Rattle.distinct_inputs.specs.Failures.{IsOfVisits}
use Rattle.distinct_commands.specs.Failing.{IsOfCommand}
use Rattle.distinct_commands.proofs.Failing.{named}
use Rattle.distinct_messages.specs.declared.failure.Failure.{Failure}

-- what lines or images of sums fail with is a failure of the command
pub visits_failed : {V : Type 0} (r : Result V Failure) (command : Command) (options : OptionValues) (seed count : ℕ) (texts : Option (List (List ℕ))) →
    command ≡ Visits → IfErr r (IsOfVisits options seed texts) → IfErr r (IsOfCommand command options seed count texts)
visits_failed (Ok v) command options seed count texts is failed = tt
visits_failed (Err f) command options seed count texts is failed =
    subst (λ (c : Command). IsOfCommand c options seed count texts f) (sym is)
    (named ((count ≡ 0) × (options.sums ≡ true)) (IsOfVisits options seed texts) f (λ none. absurd none) failed)

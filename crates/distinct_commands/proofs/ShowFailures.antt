-- Failures of `show`.
use Rattle.std.proofs.Common.{◌≡◌, ℕ, Bool, true, false, List, Option, sym, subst}
use Rattle.std.specs.Prelude.{IfErr, Result, Ok, Err}
use Rattle.distinct_arguments.specs.Settings.{OptionValues}
use Rattle.distinct_arguments.specs.declared.commands.Command.{Command}
use Rattle.distinct_arguments.specs.declared.commands.Command.TheVariants.{Show}
use Rattle.distinct_commands.specs.Failing.{IsOfCommand, IsOfShow}
use Rattle.distinct_commands.proofs.Failing.{named}
use Rattle.distinct_messages.specs.declared.failure.Failure.{Failure}
use Rattle.distinct_messages.specs.declared.failure.Failure.TheVariants.{NoFiles}

-- it doesn't fail for want of a name once an image is named
has_files : (of_groups : Bool) (seed : ℕ) (texts : Option (List (List ℕ))) → IsOfShow of_groups seed texts NoFiles → ⊥
has_files false seed texts ends = absurd ends.0
has_files true seed texts failed = absurd failed

pub shown_failed : {V : Type 0} (r : Result V Failure) (command : Command) (options : OptionValues) (seed count : ℕ) (texts : Option (List (List ℕ))) →
    command ≡ Show → IfErr r (IsOfShow options.groups seed texts) → IfErr r (IsOfCommand command options seed count texts)
shown_failed (Ok v) command options seed count texts is failed = tt
shown_failed (Err f) command options seed count texts is failed =
    subst (λ (c : Command). IsOfCommand c options seed count texts f) (sym is)
    (named (count ≡ 0) (IsOfShow options.groups seed texts) f (has_files options.groups seed texts) failed)

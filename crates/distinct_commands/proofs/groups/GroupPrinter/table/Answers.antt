use Rattle.std.proofs.Common.{ℕ, ◌++◌, Vec, Global, ap, ◌∙◌}
use Rattle.distinct_arguments.specs.Faults.{options_of}
use Rattle.distinct_commands.specs.Groups.{groups_head}
use Rattle.distinct_commands.proofs.groups.GroupPrinter.table.Goals as goal

pub returns-clause-printed : goal.returns-clause-printed
returns-clause-printed g c = λ sketch names left.
    let options = options_of c.args.self.options.now in
    let printed = c.in_ok-lines.ensures.printed sketch names left in (
      printed.0,
      printed.1,
      c.in_ok-extend_from_slice.ensures.items
          ∙ ap (λ bytes. bytes ++ c.as_slice.result.now) (ap (λ (v : Vec ℕ Global). v.items) c.into_bytes-printed.ensures.value ∙ c.in_ok-head.ensures)
          ∙ ap (λ bytes. groups_head c.args.self.listing options ++ bytes) (c.as_slice.ensures.value ∙ printed.2),
    )

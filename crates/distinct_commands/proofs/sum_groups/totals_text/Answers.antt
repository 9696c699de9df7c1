use Rattle.std.proofs.Common.{ℕ, List, ◌++◌, Vec, Global, ap, ◌∙◌}
use Rattle.distinct_arguments.specs.Faults.{options_of}
use Rattle.distinct_commands.specs.Ranked.{reaching}
use Rattle.distinct_commands.specs.SumGroups.{named_total, totals_head}
use Rattle.distinct_commands.proofs.sum_groups.totals_text.Goals as goal

pub returns : goal.returns
returns c = λ total names left.
    let options = options_of c.args.options.now in
    let printed = c.in_ok-lines.ensures total (λ (name : List ℕ). named_total options.form name (total name)) (reaching options.least total names) (c.in_ok-ranked.ensures total names left) in (
      printed.0,
      printed.1,
      c.in_ok-extend_from_slice.ensures.items
          ∙ ap (λ bytes. bytes ++ c.as_slice.result.now) (ap (λ (v : Vec ℕ Global). v.items) c.into_bytes-text.ensures.value ∙ c.in_ok-head.ensures)
          ∙ ap (λ bytes. totals_head options.form ++ bytes) (c.as_slice.ensures.value ∙ printed.2),
    )

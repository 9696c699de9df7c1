use Rattle.std.proofs.Common.{ℕ, ◌≡◌, List, ◌++◌}
use Rattle.distinct_arguments.specs.Faults.{options_of}
use Rattle.keys_totals.specs.Totals.{ListsTotals}
use Rattle.distinct_commands.specs.Ranked.{reaching, HasTexts}
use Rattle.distinct_commands.specs.SumGroups.{named_total}
use Rattle.distinct_commands.proofs.sum_groups.ranked_totals.Given as goal

-- the groups so far have their lines, and the others whose total is at least the number are left
abbrev pub invariant-loop : goal.invariant-loop
invariant-loop l =
    (total : List ℕ → ℕ) (names : List (List ℕ)) → ListsTotals total names l.fn.totals →
    (done left : List (List ℕ)) × ListsTotals total left l.totals
    × (reaching (options_of l.options).least total names ≡ done ++ reaching (options_of l.options).least total left)
    × HasTexts total (λ name. named_total l.options.form name (total name)) done l.ranked.items

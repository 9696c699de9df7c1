use Rattle.std.proofs.Common.{ℕ, ◌≡◌, List}
use Rattle.keys_totals.specs.Totals.{ListsTotals}
use Rattle.distinct_commands.specs.Ranked.{reaching}
use Rattle.distinct_commands.proofs.sum_groups.next_reaching.Given as goal

-- those whose total is at least the number are left
abbrev pub invariant-loop : goal.invariant-loop
invariant-loop l =
    (total : List ℕ → ℕ) (names : List (List ℕ)) → ListsTotals total names l.fn.totals →
    (left : List (List ℕ)) × ListsTotals total left l.totals × (reaching l.least total names ≡ reaching l.least total left)

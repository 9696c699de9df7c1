use Rattle.std.proofs.Common.{rules}
use Rattle.std.specs.Ordering.{is_lt}
use Rattle.std.proofs.lemmas.List.Sorted.{answers_always, ranks_by}
use Rattle.distinct_commands.specs.Ranked.{ranked_cmp}
use Rattle.distinct_commands.proofs.Ranking.{ranked_total}
use Rattle.distinct_commands.proofs.ranked.sort_groups.Goals as goal

pub returns-clause-sorted : goal.returns-clause-sorted
returns-clause-sorted c = c.sort_unstable_by.ensures.sorted (λ group other. is_lt (ranked_cmp group other)) (ranks_by ranked_total (λ group. group)) (answers_always _ _ _ (λ f a r g called. search rules))

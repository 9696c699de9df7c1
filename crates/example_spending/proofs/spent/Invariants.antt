use Rattle.std.proofs.Common.{take}
use Rattle.tuple_sketches.specs.Streams.{union_state}
use Rattle.example_spending.specs.Purchases.{HasAmounts, all_amounts}
use Rattle.example_spending.proofs.spent.Given as goal

-- the union was given the days so far
abbrev pub invariant-loop-purchases : goal.invariant-loop-purchases
invariant-loop-purchases l = HasAmounts (union_state l.union) (all_amounts (take l.purchases-index l.days))

use Rattle.std.proofs.Common.{take}
use Rattle.tuple_sketches.specs.Streams.{IsSketchOf, sketch_state, given_sums, MAX_THETA, DEFAULT_UPDATE_SEED}
use Rattle.example_spending.specs.Purchases.{day_amounts}
use Rattle.example_spending.proofs.add_day.Given as goal

-- the sketch was given the purchases so far
abbrev pub invariant-loop-purchase : goal.invariant-loop-purchase
invariant-loop-purchase l = IsSketchOf 14 MAX_THETA DEFAULT_UPDATE_SEED (sketch_state l.sketch) (given_sums (day_amounts (take l.purchase-index l.purchases)))

use Rattle.std.proofs.Common.{take}
use Rattle.theta_sketches.specs.Streams.{IsSketchOf, MAX_THETA, DEFAULT_UPDATE_SEED}
use Rattle.example_readme.specs.Visitors.{day_hashes}
use Rattle.example_readme.proofs.add_day.Given as goal

-- the sketch was given the names so far
abbrev pub invariant-loop-name : goal.invariant-loop-name
invariant-loop-name l = IsSketchOf 14 MAX_THETA DEFAULT_UPDATE_SEED l.sketch (day_hashes (take l.name-index l.names))

-- The visitors of a day, by the hashes of their names.
use Rattle.std.specs.Prelude.{ℕ, List, map}
use Rattle.std.specs.Borrow.{Bor}
use Rattle.std.specs.Hash.{str}
use Rattle.theta_sketches.specs.Streams.{value_hash, DEFAULT_UPDATE_SEED}

-- the hash of a name
abbrev pub name_hash : List ℕ → ℕ
name_hash name = value_hash DEFAULT_UPDATE_SEED (str name)

-- the hashes of the names of a day
abbrev pub day_hashes : List (Bor (List ℕ)) → List ℕ
day_hashes names = map (λ name. name_hash name.now) names

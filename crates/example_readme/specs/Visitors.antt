-- The visitors of days, by the hashes of their names.
use Rattle.std.specs.Prelude.{ℕ, ◌^◌, ◌++◌, List, map, flat_map}
use Rattle.std.specs.Borrow.{Bor}
use Rattle.std.specs.Hash.{str}
use Rattle.theta_sketches.specs.Streams.{Union, IsUnionOf, value_hash, MAX_THETA, DEFAULT_UPDATE_SEED}

-- the hash of a name
abbrev pub name_hash : List ℕ → ℕ
name_hash name = value_hash DEFAULT_UPDATE_SEED (str name)

-- the hashes of the names of a day
abbrev pub day_hashes : List (Bor (List ℕ)) → List ℕ
day_hashes names = map (λ name. name_hash name.now) names

-- the hashes of the names of all days
abbrev pub all_hashes : List (Bor (List (Bor (List ℕ)))) → List ℕ
all_hashes days = flat_map (λ day. day_hashes day.now) days

-- a union was given these hashes, by sketches of its own size, and nothing else
abbrev pub HasVisitors : {P : Type 0} → Union ℕ P → List ℕ → Type 0
HasVisitors u hashes = IsUnionOf 14 (2 ^ 14) MAX_THETA u hashes

-- a call added the names of a day to a union, and nothing else
abbrev pub AddsDay : {P : Type 0} → (old new : Union ℕ P) → List (Bor (List ℕ)) → Type 0
AddsDay old new names = (before : List ℕ) → HasVisitors old before → HasVisitors new (before ++ day_hashes names)

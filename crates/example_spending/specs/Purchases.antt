-- The purchases of days: amounts, each with the hash of its customer's name.
use Rattle.std.specs.Prelude.{ℕ, ◌^◌, ◌++◌, List, map, flat_map}
use Rattle.std.specs.Borrow.{Bor}
use Rattle.std.specs.Hash.{str}
use Rattle.tuple_sketches.specs.Streams.{TupleEntry, Union, IsUnionOf, given_sums, value_hash, MAX_THETA}
use Rattle.tuple_sketches.specs.Streams.{DEFAULT_UPDATE_SEED}

-- the hash of a customer's name
abbrev pub customer_hash : List ℕ → ℕ
customer_hash name = value_hash DEFAULT_UPDATE_SEED (str name)

-- the amounts of the purchases of a day
abbrev pub day_amounts : List (Bor (List ℕ) × ℕ) → List (ℕ × ℕ)
day_amounts purchases = map (λ purchase. (customer_hash purchase.0.now, purchase.1)) purchases

-- the amounts of all days
abbrev pub all_amounts : List (Bor (List (Bor (List ℕ) × ℕ))) → List (ℕ × ℕ)
all_amounts days = flat_map (λ day. day_amounts day.now) days

-- a union was given these amounts, by sketches of its own size, and nothing else
abbrev pub HasAmounts : {P : Type 0} → Union (TupleEntry ℕ) P → List (ℕ × ℕ) → Type 0
HasAmounts u amounts = IsUnionOf 14 (2 ^ 14) MAX_THETA u (given_sums amounts)

-- a call added the purchases of a day to a union, and nothing else
abbrev pub AddsDay : {P : Type 0} → (old new : Union (TupleEntry ℕ) P) → List (Bor (List ℕ) × ℕ) → Type 0
AddsDay old new purchases = (before : List (ℕ × ℕ)) → HasAmounts old before → HasAmounts new (before ++ day_amounts purchases)

-- Streams of hashes, and the set of each.
use Rattle.std.specs.Prelude.{ℕ, List, filter}
use Rattle.std.specs.List.{concat}
use Rattle.core_laws.specs.Entries.{is_carried, hash_key}
use Rattle.core_laws.specs.Maps.{below, map_of}
use Rattle.sketch_base.specs.Seed.{hash_of}

-- the hash of a value under a seed; std's `Hash` writes its bytes in pieces
abbrev pub value_hash : (seed : ℕ) → (pieces : List (List ℕ)) → ℕ
value_hash seed pieces = hash_of seed (concat pieces)

-- the set of a stream: its hashes from 1 to below the greatest theta, each once, ascending
unfoldable pub set_of : List ℕ → List ℕ
set_of hashes = map_of hash_key (filter is_carried hashes)

-- the set of a stream, below a theta
abbrev pub set_below : (theta : ℕ) → List ℕ → List ℕ
set_below theta hashes = below hash_key (set_of hashes) theta

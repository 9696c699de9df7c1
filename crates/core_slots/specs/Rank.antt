-- Hashes by how many are smaller.
use Rattle.std.specs.Prelude.{ℕ, ◌≡◌, ◌&&◌, not, nat_lt, List, filter, IsSome}
use Rattle.core_laws.specs.Maps.{rank, entry_at}
use Rattle.core_laws.specs.Entries.{hash_key}

-- h is one of these hashes, and exactly k of them are smaller
pub record HasRank (hashes : List ℕ) (k h : ℕ) : Type 0 where
  pub is_one : IsSome (entry_at hash_key hashes h)
  pub ranked : rank hash_key hashes h ≡ k

-- the hashes from low to high
abbrev pub within : (low high : ℕ) → List ℕ → List ℕ
within low high hashes = filter (λ h. not (nat_lt h low) && not (nat_lt high h)) hashes

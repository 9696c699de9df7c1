-- The preamble of an image, before its entries: its fields.
use Rattle.std.specs.Prelude.{ℕ, ◌==◌, Bool, not, List, take, drop, slice_index, bit_and, ◌*◌, ◌≡◌, ◌≤◌, ◌&&◌, length}
use Rattle.sketch_base.specs.Bytes.{number}
use Rattle.core_laws.specs.declared.TheConstants.{MAX_THETA}
use Rattle.core_images.specs.declared.preamble.Preamble.{Preamble}

-- the number in the n bytes from offset i, the lowest byte first
abbrev pub number_at : (n : ℕ) → List ℕ → (i : ℕ) → ℕ
number_at n bytes i = number (take n (drop i bytes))

-- whether the byte at offset i has this bit
abbrev pub has_bit : List ℕ → (i bit : ℕ) → Bool
has_bit bytes i bit = not (bit_and (slice_index bytes i) bit == 0)

-- there are at least eight bytes; the first three are the count of preamble longs, the version and the family
pub record Begins (bytes : List ℕ) (longs version family : ℕ) : Type 0 where
  pub whole : 8 ≤ length bytes
  pub longs_are : slice_index bytes 0 ≡ longs
  pub longs_low : 1 ≤ longs
  pub longs_high : longs ≤ 3
  pub version_is : slice_index bytes 1 ≡ version
  pub family_is : slice_index bytes 2 ≡ family

-- the flag of the empty sketch
abbrev pub is_empty : List ℕ → Bool
is_empty bytes = has_bit bytes 5 0x04

-- the flag of ordered entries
abbrev pub is_ordered : List ℕ → Bool
is_ordered bytes = has_bit bytes 5 0x10

-- the seed hash of a preamble
abbrev pub seed_hash_at : List ℕ → ℕ
seed_hash_at bytes = number_at 2 bytes 6

-- the number of entries of a preamble of two or three longs
abbrev pub count_at : List ℕ → ℕ
count_at bytes = number_at 4 bytes 8

-- the theta of a preamble of three longs
abbrev pub theta_at : List ℕ → ℕ
theta_at bytes = number_at 8 bytes 16

-- a preamble of `longs` longs, before `count` entries
abbrev pub announced : (longs count theta : ℕ) → (ordered : Bool) → Preamble
announced longs count theta ordered = record { start = 8 * longs; count = count; theta = theta; ordered = ordered }

-- a preamble of no entries at the greatest theta: without flags, it means the empty sketch
abbrev pub is_vacant : Preamble → Bool
is_vacant p = p.count == 0 && p.theta == MAX_THETA

-- Bins of numbers by powers of two: 1, 2, 3 to 4, 5 to 8, and so on.
use Rattle.std.specs.Prelude.{ℕ, zero, suc, ◌≡◌, ◌≤◌, ◌<◌, ◌+◌, ◌^◌, ◌&&◌, nat_le, max, Bool, true, List, [], ◌∷◌}
use Rattle.std.specs.Prelude.{map, filter}
use Rattle.core_compact.specs.CompactState.{Compact}
use Rattle.core_slots.specs.Entry.{tuple_key}
use Rattle.core_slots.specs.declared.entry.TupleEntry.{TupleEntry}
use Rattle.keys_sums.specs.declared.bins.TheConstants.{BINS}

-- the least number of a bin, and the greatest: those of bin 0 are both 1
abbrev pub least_of : (bin : ℕ) → ℕ
least_of zero = 1
least_of (suc bin) = 2 ^ bin + 1

abbrev pub greatest_of : (bin : ℕ) → ℕ
greatest_of bin = 2 ^ bin

-- whether a bin has a number
abbrev pub is_in : (bin number : ℕ) → Bool
is_in bin number = nat_le (least_of bin) number && nat_le number (greatest_of bin)

-- a number is in one of the bins, and in no other one
pub record IsInOneBin (number : ℕ) : Type 0 where
  pub bin : ℕ
  pub below : bin < BINS
  pub has : is_in bin number ≡ true
  pub alone : (other : ℕ) → is_in other number ≡ true → other ≡ bin

-- a bin has some number from 1 to 2^64 - 1
pub record HasNumber (bin : ℕ) : Type 0 where
  pub number : ℕ
  pub positive : 1 ≤ number
  pub limited : number < 2 ^ 64
  pub has : is_in bin number ≡ true

-- the greatest of some numbers, or 0
abbrev pub greatest : List ℕ → ℕ
greatest [] = 0
greatest (n ∷ ns) = max n (greatest ns)

-- the sums of a sketch
abbrev pub sums_in : Compact (TupleEntry ℕ) → List ℕ
sums_in s = map (λ e. e.summary) s.entries

-- the sketch of the keys whose sums are in a bin
abbrev pub keys_in : (bin : ℕ) → Compact (TupleEntry ℕ) → Compact ℕ
keys_in bin s = record {
  empty = s.empty;
  entries = map tuple_key (filter (λ e. is_in bin e.summary) s.entries);
  theta = s.theta;
  seed_hash = s.seed_hash;
  ordered = s.ordered;
}

-- Streams of numbers under the default policies on `u64`: each summary is the sum of the numbers of its hash.
use Rattle.std.specs.Prelude.{ℕ, List}
use Rattle.core_laws.specs.Cuts.{Retained}
use Rattle.core_slots.specs.declared.entry.TupleEntry.{TupleEntry}
use Rattle.tuple_sketches.specs.Given.{Given}
use Rattle.tuple_sketches.specs.Numbers.{given_numbers, number_at, least_numbers}
use Rattle.tuple_sketches.specs.declared.numbers.SummaryMode.TheVariants.{Sum}

-- a stream of numbers, each with its hash: each sum begins at 0; from 2^64 on it is a mark
abbrev pub given_sums : (stream : List (ℕ × ℕ)) → Given ℕ
given_sums stream = given_numbers Sum stream

-- the sum of the numbers of a hash in a stream
abbrev pub sum_at : (stream : List (ℕ × ℕ)) → ℕ → ℕ
sum_at stream h = number_at Sum stream h

-- the k least hashes of a stream below the start, each with its sum, and the theta above them
abbrev pub least_sums : (k : ℕ) → (stream : List (ℕ × ℕ)) → (start : ℕ) → Retained (TupleEntry ℕ)
least_sums k stream start = least_numbers Sum k stream start

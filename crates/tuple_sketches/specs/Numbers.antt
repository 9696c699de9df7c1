-- Streams of numbers under `NumberPolicy`: each summary is the sum, the least or the greatest of the numbers of its hash.
use Rattle.std.specs.Prelude.{ℕ, ◌+◌, ◌-◌, ◌^◌, ◌==◌, min, max, Option, Some, List, [], ◌∷◌, map, if◌then◌else◌}
use Rattle.core_laws.specs.Cuts.{Retained}
use Rattle.core_laws.specs.Leaf.{kmin}
use Rattle.core_laws.specs.Step.{Step}
use Rattle.core_policies.specs.Summaries.{update_step}
use Rattle.core_policies.specs.Sums.{unsigned_sum}
use Rattle.core_slots.specs.Entry.{tuple_of}
use Rattle.core_slots.specs.declared.entry.TupleEntry.{TupleEntry}
use Rattle.core_streams.specs.HashSets.{set_of}
use Rattle.tuple_sketches.specs.Given.{Given, given_values, hashes_of}
use Rattle.tuple_sketches.specs.declared.numbers.SummaryMode.{SummaryMode}
use Rattle.tuple_sketches.specs.declared.numbers.SummaryMode.TheVariants.{Sum, Min, Max}

-- the summary of a key before its first number
abbrev pub first_number : SummaryMode → ℕ
first_number Sum = 0
first_number Min = 2 ^ 64 - 1
first_number Max = 0

-- two numbers of a key in one: their sum, the less, or the greater
abbrev pub merged_number : SummaryMode → ℕ → ℕ → ℕ
merged_number Sum x y = x + y
merged_number Min x y = min x y
merged_number Max x y = max x y

-- the same in 64 bits: none if a sum is 2^64 or more
abbrev pub combined_number : SummaryMode → ℕ → ℕ → Option ℕ
combined_number Sum x y = unsigned_sum 64 x y
combined_number Min x y = Some (min x y)
combined_number Max x y = Some (max x y)

-- the step that combines a value into the summary at a hash; a sum of 2^64 or more is refused
abbrev pub adds_number : SummaryMode → (hash value : ℕ) → Step (TupleEntry ℕ)
adds_number mode hash value = update_step (Some (first_number mode)) (combined_number mode) hash value

-- a stream of numbers, each with its hash; a sum is a mark from 2^64 on
abbrev pub given_numbers : SummaryMode → (stream : List (ℕ × ℕ)) → Given ℕ
given_numbers mode stream = given_values (Some (first_number mode)) (combined_number mode) stream

-- the sum, the least or the greatest of the numbers of a hash in a stream
abbrev pub number_at : SummaryMode → (stream : List (ℕ × ℕ)) → ℕ → ℕ
number_at mode [] h = first_number mode
number_at mode (p ∷ stream) h = if p.0 == h then merged_number mode p.1 (number_at mode stream h) else number_at mode stream h

-- the k least hashes of a stream below the start, each with its summary, and the theta above them
abbrev pub least_numbers : SummaryMode → (k : ℕ) → (stream : List (ℕ × ℕ)) → (start : ℕ) → Retained (TupleEntry ℕ)
least_numbers mode k stream start =
    let least : Retained ℕ = kmin k (set_of (hashes_of stream)) start in
    record { entries = map (λ h. tuple_of h (number_at mode stream h)) least.entries; theta = least.theta }

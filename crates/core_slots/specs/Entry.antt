-- Entries of tuple sketches, and steps on their summaries.
use Rattle.std.specs.Prelude.{ℕ, option_map}
use Rattle.core_laws.specs.Step.{Step}
use Rattle.core_slots.specs.declared.entry.TupleEntry.{TupleEntry}

-- the hash of a tuple
abbrev pub tuple_key : {S : Type 0} → TupleEntry S → ℕ
tuple_key e = e.hash

-- an entry with another summary
abbrev pub with_summary : {S : Type 0} → TupleEntry S → S → TupleEntry S
with_summary e s = record e { summary = s }

-- the entry of a hash and a summary
abbrev pub tuple_of : {S : Type 0} → ℕ → S → TupleEntry S
tuple_of h s = record { hash = h; summary = s }

-- a step on the summary of a hash, as one on entries
abbrev pub entry_step : {S : Type 0} → ℕ → Step S → Step (TupleEntry S)
entry_step h step = record {
  writes = λ e. with_summary e (step.writes e.summary);
  refuses_existing = λ e. step.refuses_existing e.summary;
  makes = option_map (tuple_of h) step.makes;
  refuses_absent = step.refuses_absent;
  allocates = step.allocates;
}

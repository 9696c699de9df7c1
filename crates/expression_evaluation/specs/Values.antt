-- The values of expressions over sketches of any kind, and the same expressions of whole maps.
use Rattle.std.specs.Prelude.{ℕ, ◌+◌, ◌^◌, Bool, false, nat_le, List, [], ◌∷◌, get_or}
use Rattle.core_laws.specs.declared.TheConstants.{MAX_THETA}
use Rattle.core_laws.specs.Entries.{hash_key, first_hash}
use Rattle.core_laws.specs.Folds.{never}
use Rattle.core_laws.specs.Operators.{joined, common, lacking, unite, meet, minus}
use Rattle.core_laws.specs.Values.{Sketch, Empty}
use Rattle.core_slots.specs.Entry.{tuple_key, with_summary}
use Rattle.core_slots.specs.declared.entry.TupleEntry.{TupleEntry}
use Rattle.tuple_sketches.specs.Numbers.{merged_number}
use Rattle.tuple_sketches.specs.declared.numbers.SummaryMode.{SummaryMode}
use Rattle.tuple_sketches.specs.declared.numbers.SummaryMode.TheVariants.{Sum}
use Rattle.expression_text.specs.declared.operator.Operator.{Operator}
use Rattle.expression_text.specs.declared.operator.Operator.TheVariants.{Union, Intersection, Difference}
use Rattle.expression_text.specs.Expressions.{Expression, Named, Grouped, Combined}

-- the rules of a kind of entries: their keys, how two entries of a key are merged, and which merges are refused
pub record Rules (X : Type 0) : Type 0 where
  pub key : X → ℕ
  pub merges : X → X → X
  pub refuses : X → X → Bool

-- hashes: of two equal hashes the first stays, and nothing is refused
abbrev pub hash_rules : Rules ℕ
hash_rules = record { key = hash_key; merges = first_hash; refuses = never }

-- an entry with whose sum that of another is merged: they are added, or the less or the greater is kept
abbrev pub sum_merged : SummaryMode → TupleEntry ℕ → TupleEntry ℕ → TupleEntry ℕ
sum_merged mode x y = with_summary x (merged_number mode x.summary y.summary)

-- two sums that are added are too great together
abbrev pub is_too_great : SummaryMode → TupleEntry ℕ → TupleEntry ℕ → Bool
is_too_great Sum x y = nat_le (2 ^ 64) (x.summary + y.summary)
is_too_great _ x y = false

-- sums: the sums of a key are merged by a mode, and a sum of 2^64 or more is refused
abbrev pub sum_rules : SummaryMode → Rules (TupleEntry ℕ)
sum_rules mode = record { key = tuple_key; merges = sum_merged mode; refuses = is_too_great mode }

-- the value of two applied values, in a union with 2^lg_k nominal entries
abbrev pub applied : {X : Type 0} → Rules X → (lg_k : ℕ) → Operator → Sketch X → Sketch X → Sketch X
applied rules lg_k Union a b = unite rules.key rules.merges (2 ^ lg_k) MAX_THETA (a ∷ b ∷ [])
applied rules lg_k Intersection a b = meet rules.key rules.merges (a ∷ b ∷ [])
applied rules lg_k Difference a b = minus rules.key rules.key a b

-- the value of an expression over the values of its names
abbrev pub expression_value : {X : Type 0} → Rules X → (lg_k : ℕ) → List (Sketch X) → Expression → Sketch X
expression_value rules lg_k values (Named i) = get_or values i Empty
expression_value rules lg_k values (Grouped e) = expression_value rules lg_k values e
expression_value rules lg_k values (Combined op a b) =
    applied rules lg_k op (expression_value rules lg_k values a) (expression_value rules lg_k values b)

-- two whole maps applied: their union, intersection or difference
abbrev pub combined_maps : {X : Type 0} → Rules X → Operator → List X → List X → List X
combined_maps rules Union a b = joined rules.key rules.merges (joined rules.key rules.merges [] a) b
combined_maps rules Intersection a b = common rules.key rules.merges a b
combined_maps rules Difference a b = lacking rules.key rules.key a b

-- the whole map of an expression over those of its names
abbrev pub expression_whole : {X : Type 0} → Rules X → List (List X) → Expression → List X
expression_whole rules wholes (Named i) = get_or wholes i []
expression_whole rules wholes (Grouped e) = expression_whole rules wholes e
expression_whole rules wholes (Combined op a b) = combined_maps rules op (expression_whole rules wholes a) (expression_whole rules wholes b)

-- the value of an expression over theta sketches, and the set of hashes of one over sets
abbrev pub hashes_value : (lg_k : ℕ) → List (Sketch ℕ) → Expression → Sketch ℕ
hashes_value lg_k values e = expression_value hash_rules lg_k values e

abbrev pub set_of : List (List ℕ) → Expression → List ℕ
set_of sets e = expression_whole hash_rules sets e

-- the value of an expression over sketches of sums, and the sums of one over whole streams, by their keys
abbrev pub sums_value : SummaryMode → (lg_k : ℕ) → List (Sketch (TupleEntry ℕ)) → Expression → Sketch (TupleEntry ℕ)
sums_value mode lg_k values e = expression_value (sum_rules mode) lg_k values e

abbrev pub whole_sums_in : SummaryMode → List (List (TupleEntry ℕ)) → Expression → List (TupleEntry ℕ)
whole_sums_in mode wholes e = expression_whole (sum_rules mode) wholes e

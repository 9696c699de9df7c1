-- The sums of what lines add, by the hashes of their keys; or the least or the greatest of it.
use Rattle.std.specs.Prelude.{ℕ, ◌≡◌, ◌==◌, ◌+◌, ◌-◌, ◌^◌, List, [], ◌∷◌, length, map, min, if◌then◌else◌}
use Rattle.sketch_base.specs.Seed.{seed_hash}
use Rattle.core_compact.specs.CompactState.{Compact, ordered_sketch}
use Rattle.core_laws.specs.Cuts.{Retained, none_below}
use Rattle.core_laws.specs.Folds.{Fold, fold_key, folded_of, unmarked}
use Rattle.core_laws.specs.Insertion.{is_screened}
use Rattle.core_laws.specs.Leaf.{leaf_from}
use Rattle.core_laws.specs.Values.{Sketch, Empty, NonEmpty}
use Rattle.core_laws.specs.declared.TheConstants.{MAX_THETA}
use Rattle.core_laws.specs.declared.leaf.LeafStep.{LeafStep}
use Rattle.core_laws.specs.declared.leaf.LeafStep.TheVariants.{Add}
use Rattle.core_slots.specs.Entry.{tuple_key, tuple_of}
use Rattle.core_slots.specs.declared.entry.TupleEntry.{TupleEntry}
use Rattle.core_state.specs.Updatable.{Updatable}
use Rattle.tuple_sketches.specs.Numbers.{adds_number, number_at}
use Rattle.tuple_sketches.specs.declared.numbers.SummaryMode.{SummaryMode}
use Rattle.keys_lines.specs.Keys.{line_hash}
use Rattle.keys_lines.specs.declared.key.Hashing.{Hashing}
use Rattle.keys_sketches.specs.Keys.{value_of_lines}
use Rattle.keys_sums.specs.Amounts.{added_by, AreNumbers}
use Rattle.keys_sums.specs.declared.addends.Amount.{Amount}

-- what each line adds to its key: one, so that a sum is the number of a key's lines
abbrev pub one_each : (line : List ℕ) → ℕ
one_each line = 1

-- what lines add, each number with the hash of its line
abbrev pub amounts : Hashing → (amount : List ℕ → ℕ) → (lines : List (List ℕ)) → List (ℕ × ℕ)
amounts hashing amount lines = map (λ line. (line_hash hashing line, amount line)) lines

-- the sum, the least or the greatest of what the lines of this hash add
abbrev pub summary_at : SummaryMode → Hashing → (amount : List ℕ → ℕ) → (lines : List (List ℕ)) → (h : ℕ) → ℕ
summary_at mode hashing amount lines h = number_at mode (amounts hashing amount lines) h

-- the value of hashes, with a number beside each
abbrev pub with_numbers : (number_of : ℕ → ℕ) → Sketch ℕ → Sketch (TupleEntry ℕ)
with_numbers number_of Empty = Empty
with_numbers number_of (NonEmpty v) = NonEmpty (record { entries = map (λ h. tuple_of h (number_of h)) v.entries; theta = v.theta })

-- the value of lines: the hashes that the theta sketch of the lines retains, each with the sum, the least or the greatest
-- of what its lines add
abbrev pub sums_of_lines : SummaryMode → Hashing → (amount : List ℕ → ℕ) → (lg_k : ℕ) → List (List ℕ) → Sketch (TupleEntry ℕ)
sums_of_lines mode hashing amount lg_k lines = with_numbers (summary_at mode hashing amount lines) (value_of_lines hashing lg_k lines)

-- the ordered sketch of the sums of lines
abbrev pub sketch_of_sums : SummaryMode → Hashing → (amount : List ℕ → ℕ) → (lg_k : ℕ) → List (List ℕ) → Compact (TupleEntry ℕ)
sketch_of_sums mode hashing amount lg_k lines = ordered_sketch (sums_of_lines mode hashing amount lg_k lines) (seed_hash hashing.seed)

-- the sum of what the lines add whose hashes aren't screened at a theta
abbrev pub sum_below : Hashing → (amount : List ℕ → ℕ) → (theta : ℕ) → List (List ℕ) → ℕ
sum_below hashing amount theta [] = 0
sum_below hashing amount theta (line ∷ lines) =
    (if is_screened (line_hash hashing line) theta then 0 else amount line) + sum_below hashing amount theta lines

-- lines, as the steps of a leaf
abbrev pub sum_steps : Hashing → (amount : List ℕ → ℕ) → List (List ℕ) → List (LeafStep ℕ)
sum_steps hashing amount lines = map (λ line. Add (line_hash hashing line) (amount line)) lines

-- what a sketch retains after lines, in folds
abbrev pub folds_of_lines : SummaryMode → Hashing → (amount : List ℕ → ℕ) → (lg_k : ℕ) → List (List ℕ) → Retained (Fold (TupleEntry ℕ))
folds_of_lines mode hashing amount lg_k lines =
    leaf_from (fold_key tuple_key) (folded_of tuple_key (adds_number mode)) (2 ^ lg_k) MAX_THETA (sum_steps hashing amount lines) (none_below MAX_THETA)

-- a sketch of 2^lg_k nominal entries has had these lines, and no others, by this mode, and refused none
pub record HasSummed (mode : SummaryMode) (hashing : Hashing) (amount : List ℕ → ℕ) (lg_k : ℕ) (lines : List (List ℕ))
    (s : Updatable (TupleEntry ℕ)) : Type 0 where
  pub folds : unmarked s.map.kept ≡ folds_of_lines mode hashing amount lg_k lines
  pub same_size : s.map.lg_nom ≡ lg_k
  pub same_seed : s.map.seed_hash ≡ seed_hash hashing.seed
  pub emptiness : s.empty ≡ (length lines == 0)

-- the total of what lines add
abbrev pub total_added : (amount : List ℕ → ℕ) → List (List ℕ) → ℕ
total_added amount [] = 0
total_added amount (line ∷ lines) = amount line + total_added amount lines

-- the greatest total that is counted: no text of fewer than 2^64 lines adds more
abbrev pub GREATEST_TOTAL : ℕ
GREATEST_TOTAL = 2 ^ 128 - 1

-- the sums of keys in a sketch, how it combines what the lines of a key add, and the total of what lines add
pub record Summed : Type 0 where
  pub mode : SummaryMode
  pub sketch : Updatable (TupleEntry ℕ)
  pub total : ℕ

-- lines were added, and no others, by this mode: each added a number, none was refused, and the total is theirs
pub record HasAdded (mode : SummaryMode) (hashing : Hashing) (amount : Amount) (lg_k : ℕ) (lines : List (List ℕ)) (s : Summed) : Type 0 where
  pub same_mode : s.mode ≡ mode
  pub summed : HasSummed mode hashing (added_by amount) lg_k lines s.sketch
  pub numbers : AreNumbers amount lines
  pub total : s.total ≡ min (total_added (added_by amount) lines) GREATEST_TOTAL

-- Sketches, views and operators against what they were given. The words that a contract needs beside these are named here
-- too.
use Rattle.std.specs.Prelude.{ℕ, ◌≡◌, ◌≢◌, ◌^◌, false, List, [], ◌∷◌, Option, Some, None}
use Rattle.core_compact.specs.CompactState.{compact_value}
use Rattle.core_laws.specs.Cuts.{Retained}
use Rattle.core_laws.specs.Folds.{Fold}
use Rattle.core_laws.specs.Samples.{IsSample}
use Rattle.core_laws.specs.Shown.{shown_value}
use Rattle.core_laws.specs.Values.{cut_value}
use Rattle.core_operators.specs.Intersection.{Intersection}
use Rattle.core_operators.specs.Union.{union_value}
use Rattle.core_state.specs.Updatable.{Updatable, sketch_value}
use Rattle.core_state.specs.View.{shows, sequence}
use Rattle.core_state.specs.declared.view.SketchView.{SketchView}
use Rattle.core_streams.specs.Folds.{unmarked_sketch, unmarked_union}
use Rattle.core_streams.specs.WholeMaps.{IsPart, IsSketchOfMap, IsUnionOfMap}
pub use Rattle.sketch_base.specs.Seed.{hash_of, seed_hash}
pub use Rattle.sketch_base.specs.declared.seed.TheConstants.{DEFAULT_UPDATE_SEED}
pub use Rattle.core_compact.specs.CompactState.{Compact}
pub use Rattle.core_laws.specs.Cuts.{cut}
pub use Rattle.core_laws.specs.Folds.{fold_key, unmarked, unmarked_value}
pub use Rattle.core_laws.specs.Leaf.{kmin}
pub use Rattle.core_laws.specs.Values.{Sketch, Empty, NonEmpty}
pub use Rattle.core_laws.specs.declared.TheConstants.{MAX_THETA}
pub use Rattle.core_operators.specs.Union.{Union}
pub use Rattle.core_policies.specs.Sums.{unsigned_sum}
pub use Rattle.core_slots.specs.Entry.{tuple_key}
pub use Rattle.core_slots.specs.declared.entry.TupleEntry.{TupleEntry}
pub use Rattle.core_streams.specs.HashSets.{value_hash, set_of}
pub use Rattle.tuple_sketches.specs.Sketch.{sketch_state, union_state}
pub use Rattle.tuple_sketches.specs.Given.{Given, nothing, with_value, given_values, hashes_of, united, united_all, shared, shared_by, without}
pub use Rattle.tuple_sketches.specs.Numbers.{first_number, merged_number, combined_number, adds_number, given_numbers, number_at, least_numbers}
pub use Rattle.tuple_sketches.specs.Sums.{given_sums, sum_at, least_sums}

-- the k folds of least hash of what was given, below the start, and the theta above them
abbrev pub least_folds : {S : Type 0} → (k : ℕ) → Given S → (start : ℕ) → Retained (Fold (TupleEntry S))
least_folds k given start = cut (fold_key tuple_key) k given.whole start

-- the value of a compact sketch
abbrev pub value_of : {S : Type 0} → Compact (TupleEntry S) → Sketch (TupleEntry S)
value_of s = compact_value tuple_key s

-- the value of the sketch of a view
abbrev pub view_value : {S Z T : Type 0} → SketchView (TupleEntry S) Z T → Sketch (TupleEntry S)
view_value view = shown_value tuple_key (shows tuple_key view) (sequence view)

-- the entries and the theta of a compact sketch
abbrev pub retained_of : {S : Type 0} → Compact (TupleEntry S) → Retained (TupleEntry S)
retained_of s = record { entries = s.entries; theta = s.theta }

-- a value samples what was given: it has exactly the folds of the hashes below its theta, none of them a mark
pub record IsSampleOf {S : Type 0} (value : Sketch (TupleEntry S)) (given : Given S) : Type 0 where
  pub sample : IsSample (fold_key tuple_key) (unmarked_value value) given.whole

-- a value is a part of what a union is given: it samples its own, and its theta is lawful for k and the start, so it has
-- the k folds of least hash below the start, or all of them if there are fewer. A part that is Empty was given nothing
pub record IsPartOf {S : Type 0} (k start : ℕ) (value : Sketch (TupleEntry S)) (given : Given S) : Type 0 where
  pub part : IsPart (fold_key tuple_key) k start (unmarked_value value) given.whole
  pub none : value ≡ Empty → given.any ≡ false

-- a sketch with these settings was given this, and nothing else
pub record IsSketchOf {S : Type 0} (lg_k start seed : ℕ) (s : Updatable (TupleEntry S)) (given : Given S) : Type 0 where
  pub of_map : IsSketchOfMap (fold_key tuple_key) lg_k start seed (unmarked_sketch s) given.whole
  pub none : sketch_value s ≡ Empty → given.any ≡ false

-- such a sketch that has at most its nominal entries, as after a trim
pub record IsTrimmedOf {S : Type 0} (lg_k start seed : ℕ) (s : Updatable (TupleEntry S)) (given : Given S) : Type 0 where
  pub sketch : IsSketchOf lg_k start seed s given
  pub no_more : cut_value (fold_key tuple_key) (2 ^ lg_k) (unmarked_value (sketch_value s)) ≡ unmarked_value (sketch_value s)

-- a union of 2^lg_k nominal entries was given this by parts that are lawful for k and the start, and nothing else; k is
-- at most its nominal entries, and its own start at least this start
pub record IsUnionOf {S P : Type 0} (lg_k k start : ℕ) (u : Union (TupleEntry S) P) (given : Given S) : Type 0 where
  pub of_map : IsUnionOfMap (fold_key tuple_key) lg_k k start (unmarked_union u) given.whole
  pub none : union_value tuple_key u ≡ Empty → given.any ≡ false

-- a union was given samples of this, one after another, and nothing else, whatever their thetas
pub record IsUnionOfSamples {S P : Type 0} (u : Union (TupleEntry S) P) (given : Given S) : Type 0 where
  pub sampled : IsSampleOf (union_value tuple_key u) given

-- values are parts, each of what its own sketch was given
abbrev pub ArePartsOf : {S : Type 0} → (k start : ℕ) → List (Sketch (TupleEntry S)) → List (Given S) → Type 0
ArePartsOf k start [] [] = Unit {0}
ArePartsOf k start (value ∷ values) (given ∷ others) = IsPartOf k start value given × ArePartsOf k start values others
ArePartsOf k start [] (given ∷ others) = ⊥
ArePartsOf k start (value ∷ values) [] = ⊥

-- the value of an intersection, if it has one, samples what its sketches share, and it has none before the first
abbrev pub SamplesShared : {S : Type 0} → (combines : S → S → Option S) → Option (Sketch (TupleEntry S)) → List (Given S) → Type 0
SamplesShared combines None givens = givens ≡ []
SamplesShared combines (Some value) givens = (givens ≢ []) × IsSampleOf value (shared_by combines givens)

-- an intersection was given samples of these, whose summaries are combined so, and nothing else
pub record IsIntersectionOf {S P : Type 0} (combines : S → S → Option S) (i : Intersection (TupleEntry S) P) (givens : List (Given S)) : Type 0 where
  pub shared : SamplesShared combines i.result givens

-- a call gave a sketch more, which may depend on its seed, and nothing else
abbrev pub GivesMore : {S : Type 0} → (old new : Updatable (TupleEntry S)) → (more : (seed : ℕ) → Given S → Given S) → Type 0
GivesMore {S} old new more =
    (lg_k start seed : ℕ) (given : Given S)
    → IsSketchOf lg_k start seed old given
    → IsSketchOf lg_k start seed new (more seed given)

-- a call gave a sketch nothing
abbrev pub GivesNothing : {S : Type 0} → (old new : Updatable (TupleEntry S)) → Type 0
GivesNothing {S} old new = (lg_k start seed : ℕ) (given : Given S) → IsSketchOf lg_k start seed old given → IsSketchOf lg_k start seed new given

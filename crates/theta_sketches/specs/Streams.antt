-- Sketches, views and operators against the streams of hashes that they were given. A stream is a list of hashes, in
-- their order. The words that a contract needs beside these are named here too.
use Rattle.std.specs.Prelude.{ℕ, ◌≡◌, ◌≢◌, ◌==◌, ◌^◌, Bool, not, is_some, List, [], ◌∷◌, ◌++◌, filter, find, Option}
use Rattle.std.specs.Prelude.{Some, None}
use Rattle.core_compact.specs.CompactState.{compact_value}
use Rattle.core_laws.specs.Cuts.{Retained}
use Rattle.core_laws.specs.Entries.{hash_key}
use Rattle.core_laws.specs.Samples.{IsSample}
use Rattle.core_laws.specs.Shown.{shown_value}
use Rattle.core_laws.specs.Values.{cut_value}
use Rattle.core_operators.specs.Intersection.{Intersection}
use Rattle.core_operators.specs.Union.{union_value}
use Rattle.core_state.specs.Updatable.{Updatable, sketch_value}
use Rattle.core_state.specs.declared.view.SketchView.{SketchView}
use Rattle.theta_sketches.specs.View.{view_shows, view_sequence}
use Rattle.core_streams.specs.WholeMaps.{IsPart, IsSketchOfMap, IsUnionOfMap}
pub use Rattle.sketch_base.specs.Seed.{hash_of, seed_hash}
pub use Rattle.sketch_base.specs.declared.seed.TheConstants.{DEFAULT_UPDATE_SEED}
pub use Rattle.core_compact.specs.CompactState.{Compact}
pub use Rattle.core_laws.specs.Leaf.{kmin}
pub use Rattle.core_laws.specs.Values.{Sketch, Empty, NonEmpty}
pub use Rattle.core_laws.specs.declared.TheConstants.{MAX_THETA}
pub use Rattle.core_operators.specs.Union.{Union}
pub use Rattle.core_streams.specs.HashSets.{value_hash, set_below}
unfoldable pub use Rattle.core_streams.specs.HashSets.{set_of}

-- whether a stream has a hash
abbrev pub has : (hashes : List ℕ) → ℕ → Bool
has hashes h = is_some (find (λ x. x == h) hashes)

-- the hashes of a stream that another has
abbrev pub shared_hashes : (hashes others : List ℕ) → List ℕ
shared_hashes hashes others = filter (λ h. has others h) hashes

-- the hashes of a stream that another lacks
abbrev pub lacking_hashes : (hashes others : List ℕ) → List ℕ
lacking_hashes hashes others = filter (λ h. not (has others h)) hashes

-- the hashes of a stream that each of some others has
abbrev pub shared_by_all : (hashes : List ℕ) → (streams : List (List ℕ)) → List ℕ
shared_by_all hashes [] = hashes
shared_by_all hashes (others ∷ streams) = shared_by_all (shared_hashes hashes others) streams

-- the hashes that all these streams have
abbrev pub shared_by : List (List ℕ) → List ℕ
shared_by [] = []
shared_by (hashes ∷ streams) = shared_by_all hashes streams

-- the value of a compact sketch
abbrev pub value_of : Compact ℕ → Sketch ℕ
value_of s = compact_value hash_key s

-- the value of the sketch of a view
abbrev pub view_value : {Z S : Type 0} → SketchView ℕ Z S → Sketch ℕ
view_value view = shown_value hash_key (view_shows view) (view_sequence view)

-- the hashes and the theta of a compact sketch
abbrev pub retained_of : Compact ℕ → Retained ℕ
retained_of s = record { entries = s.entries; theta = s.theta }

-- a value samples a stream: it has exactly the stream's hashes below its theta
pub record IsSampleOf (value : Sketch ℕ) (hashes : List ℕ) : Type 0 where
  pub sample : IsSample hash_key value (set_of hashes)

-- a value is a part of a union's stream: it samples its own stream, and its theta is lawful for k and the start, so it
-- has the k least hashes below the start, or all of them if there are fewer. A part that is Empty was given no hashes
pub record IsPartOf (k start : ℕ) (value : Sketch ℕ) (hashes : List ℕ) : Type 0 where
  pub part : IsPart hash_key k start value (set_of hashes)
  pub none : value ≡ Empty → hashes ≡ []

-- a sketch with these settings was given a stream, and nothing else
pub record IsSketchOf (lg_k start seed : ℕ) (s : Updatable ℕ) (hashes : List ℕ) : Type 0 where
  pub of_map : IsSketchOfMap hash_key lg_k start seed s (set_of hashes)
  pub none : sketch_value s ≡ Empty → hashes ≡ []

-- such a sketch that has at most its nominal entries, as after a trim
pub record IsTrimmedOf (lg_k start seed : ℕ) (s : Updatable ℕ) (hashes : List ℕ) : Type 0 where
  pub sketch : IsSketchOf lg_k start seed s hashes
  pub no_more : cut_value hash_key (2 ^ lg_k) (sketch_value s) ≡ sketch_value s

-- a union of 2^lg_k nominal entries was given a stream by parts that are lawful for k and the start, and nothing else; k
-- is at most its nominal entries, and its own start at least this start
pub record IsUnionOf {P : Type 0} (lg_k k start : ℕ) (u : Union ℕ P) (hashes : List ℕ) : Type 0 where
  pub of_map : IsUnionOfMap hash_key lg_k k start u (set_of hashes)
  pub none : union_value hash_key u ≡ Empty → hashes ≡ []

-- a union was given samples of a stream, part after part, and nothing else, whatever their thetas
pub record IsUnionOfSamples {P : Type 0} (u : Union ℕ P) (hashes : List ℕ) : Type 0 where
  pub sampled : IsSampleOf (union_value hash_key u) hashes

-- values are parts, each of its own stream
abbrev pub ArePartsOf : (k start : ℕ) → List (Sketch ℕ) → List (List ℕ) → Type 0
ArePartsOf k start [] [] = Unit {0}
ArePartsOf k start (value ∷ values) (hashes ∷ streams) = IsPartOf k start value hashes × ArePartsOf k start values streams
ArePartsOf k start [] (hashes ∷ streams) = ⊥
ArePartsOf k start (value ∷ values) [] = ⊥

-- the value of an intersection, if it has one, samples what streams share, and it has none before the first
abbrev pub SamplesShared : Option (Sketch ℕ) → (streams : List (List ℕ)) → Type 0
SamplesShared None streams = streams ≡ []
SamplesShared (Some value) streams = (streams ≢ []) × IsSampleOf value (shared_by streams)

-- an intersection was given samples of these streams, and nothing else
pub record IsIntersectionOf {P : Type 0} (i : Intersection ℕ P) (streams : List (List ℕ)) : Type 0 where
  pub shared : SamplesShared i.result streams

-- a call gave a sketch more hashes, which may depend on its seed, and nothing else
abbrev pub GivesMore : (old new : Updatable ℕ) → (more : (seed : ℕ) → List ℕ) → Type 0
GivesMore old new more =
    (lg_k start seed : ℕ) (hashes : List ℕ)
    → IsSketchOf lg_k start seed old hashes
    → IsSketchOf lg_k start seed new (hashes ++ more seed)

-- a call gave a sketch nothing
abbrev pub GivesNothing : (old new : Updatable ℕ) → Type 0
GivesNothing old new = (lg_k start seed : ℕ) (hashes : List ℕ) → IsSketchOf lg_k start seed old hashes → IsSketchOf lg_k start seed new hashes

-- What calls of C say of the streams of hashes that sketches, batches and operators were given.
use Rattle.std.specs.Prelude.{ℕ, ◌≡◌, ◌≢◌, ◌<◌, ◌≤◌, ◌^◌, List, [], ◌∷◌, ◌++◌, map}
use Rattle.std.specs.List.{concat}
use Rattle.core_compact.specs.CompactState.{Compact}
use Rattle.core_operators.specs.Intersection.{Intersection}
use Rattle.core_operators.specs.Union.{Union}
use Rattle.core_state.specs.Updatable.{Updatable}
use Rattle.sketch_base.specs.Seed.{seed_hash}
use Rattle.theta_sketches.specs.Image.{Reads}
use Rattle.theta_sketches.specs.Streams.{Sketch, NonEmpty, MAX_THETA, kmin, set_of, value_of, retained_of}
use Rattle.theta_sketches.specs.Streams.{set_below, shared_by, shared_hashes, lacking_hashes}
use Rattle.theta_sketches.specs.Streams.{IsPartOf, IsSampleOf, IsSketchOf, IsTrimmedOf, IsUnionOf, IsIntersectionOf}
use Rattle.theta_sketches.specs.Streams.{ArePartsOf, GivesMore, GivesNothing}

-- a call gave a sketch these hashes if its status is 0, and nothing otherwise
abbrev pub GivesHashes : (more : List ℕ) → (old : Updatable ℕ) → (status : ℕ) → (new : Updatable ℕ) → Type 0
GivesHashes more old status new = (status ≡ 0 → GivesMore old new (λ _. more)) × (status ≢ 0 → GivesNothing old new)

-- a call left a sketch with at most its nominal entries, and gave it nothing
abbrev pub GivesTrimmed : (old new : Updatable ℕ) → Type 0
GivesTrimmed old new = (lg_k start seed : ℕ) (hashes : List ℕ) → IsSketchOf lg_k start seed old hashes → IsTrimmedOf lg_k start seed new hashes

-- a call made a sketch that was given nothing, with the settings of another
abbrev pub GivesAnew : (old new : Updatable ℕ) → Type 0
GivesAnew old new = (lg_k start seed : ℕ) (hashes : List ℕ) → IsSketchOf lg_k start seed old hashes → IsSketchOf lg_k start seed new []

-- the compact form of a sketch is a part of the sketch's stream, with the hash of its seed; after a trim it has the least
-- hashes of the stream
pub record HasSketch (s : Updatable ℕ) (form : Compact ℕ) : Type 0 where
  pub part : (lg_k start seed : ℕ) (hashes : List ℕ) → IsSketchOf lg_k start seed s hashes → IsPartOf (2 ^ lg_k) start (value_of form) hashes
  pub seeded : (lg_k start seed : ℕ) (hashes : List ℕ) → IsSketchOf lg_k start seed s hashes → form.seed_hash ≡ seed_hash seed
  pub least : (lg_k start seed : ℕ) (hashes : List ℕ) → IsTrimmedOf lg_k start seed s hashes → hashes ≢ [] →
      value_of form ≡ NonEmpty (kmin (2 ^ lg_k) (set_of hashes) start)
  pub kmin : (lg_k seed : ℕ) (hashes : List ℕ)
      → IsTrimmedOf lg_k MAX_THETA seed s hashes
      → retained_of form ≡ kmin (2 ^ lg_k) (set_of hashes) MAX_THETA

-- a union of 2^lg_k nominal entries that begins at a theta was given nothing
abbrev pub IsUnionOfNone : {P : Type 0} → (lg_k from : ℕ) → Union ℕ P → Type 0
IsUnionOfNone lg_k from u = (k start : ℕ) → k ≤ 2 ^ lg_k → start ≤ from → IsUnionOf lg_k k start u []

-- a call gave a union one part more
abbrev pub GivesPart : {P : Type 0} → (value : Sketch ℕ) → (old new : Union ℕ P) → Type 0
GivesPart value old new =
    (lg_k k start : ℕ) (hashes more : List ℕ)
    → IsUnionOf lg_k k start old hashes
    → IsPartOf k start value more
    → IsUnionOf lg_k k start new (hashes ++ more)

-- a call gave a union what a sketch was given that takes updates, of at least k nominal entries
abbrev pub GivesSketch : {P : Type 0} → (s : Updatable ℕ) → (old new : Union ℕ P) → Type 0
GivesSketch s old new =
    (lg_k k start own seed : ℕ) (hashes more : List ℕ) → k ≤ 2 ^ own → IsUnionOf lg_k k start old hashes → IsSketchOf own start seed s more →
    IsUnionOf lg_k k start new (hashes ++ more)

-- sketches of a batch were given a stream: each is a part of a stream of its own, and these one after another are this one
pub record IsBatchOf (k start : ℕ) (sketches : List (Compact ℕ)) (hashes : List ℕ) : Type 0 where
  pub streams : List (List ℕ)
  pub parts : ArePartsOf k start (map value_of sketches) streams
  pub joined : concat streams ≡ hashes

-- the sketches of a batch were given nothing
abbrev pub IsBatchOfNone : List (Compact ℕ) → Type 0
IsBatchOfNone sketches = (k start : ℕ) → IsBatchOf k start sketches []

-- a call put one part more into a batch
abbrev pub GathersPart : (value : Sketch ℕ) → (old new : List (Compact ℕ)) → Type 0
GathersPart value old new =
    (k start : ℕ) (hashes more : List ℕ)
    → IsBatchOf k start old hashes
    → IsPartOf k start value more
    → IsBatchOf k start new (hashes ++ more)

-- a call put into a batch what a sketch was given that takes updates, of at least k nominal entries
abbrev pub GathersSketch : (s : Updatable ℕ) → (old new : List (Compact ℕ)) → Type 0
GathersSketch s old new =
    (k start own seed : ℕ) (hashes more : List ℕ)
    → k ≤ 2 ^ own
    → IsBatchOf k start old hashes
    → IsSketchOf own start seed s more
    → IsBatchOf k start new (hashes ++ more)

-- a call gave a union what the sketches of a batch were given, as one call for each would have
abbrev pub GivesBatch : {P : Type 0} → List (Compact ℕ) → (old new : Union ℕ P) → Type 0
GivesBatch sketches old new =
    (lg_k k start : ℕ) (hashes more : List ℕ)
    → IsUnionOf lg_k k start old hashes
    → IsBatchOf k start sketches more
    → IsUnionOf lg_k k start new (hashes ++ more)

-- a call lowered a union to 2^lg_k nominal entries, and gave it nothing
abbrev pub GivesLowered : {P : Type 0} → (lg_k : ℕ) → (old new : Union ℕ P) → Type 0
GivesLowered lg_k old new =
    (nominal k less start : ℕ) (hashes : List ℕ)
    → IsUnionOf nominal k start old hashes
    → less ≤ k
    → less ≤ 2 ^ lg_k
    → IsUnionOf lg_k less start new hashes

-- the result of a union is a part of the union's stream, with the hash of the union's seed, and it has the least hashes of the
-- stream
pub record HasUnion {P : Type 0} (u : Union ℕ P) (result : Compact ℕ) : Type 0 where
  pub part : (lg_k k start : ℕ) (hashes : List ℕ) → IsUnionOf lg_k k start u hashes → IsPartOf k start (value_of result) hashes
  pub seeded : result.seed_hash ≡ u.seed_hash
  pub least : (lg_k start : ℕ) (hashes : List ℕ) → IsUnionOf lg_k (2 ^ lg_k) start u hashes → hashes ≢ [] →
      value_of result ≡ NonEmpty (kmin (2 ^ lg_k) (set_of hashes) start)
  pub kmin : (lg_k : ℕ) (hashes : List ℕ)
      → IsUnionOf lg_k (2 ^ lg_k) MAX_THETA u hashes
      → retained_of result ≡ kmin (2 ^ lg_k) (set_of hashes) MAX_THETA

-- a call gave an intersection a sample of one stream more
abbrev pub GivesSample : {P : Type 0} → (value : Sketch ℕ) → (old new : Intersection ℕ P) → Type 0
GivesSample value old new =
    (streams : List (List ℕ)) (more : List ℕ)
    → IsIntersectionOf old streams
    → IsSampleOf value more
    → IsIntersectionOf new (streams ++ more ∷ [])

-- a call gave an intersection what a sketch was given that takes updates
abbrev pub GivesSampleOf : {P : Type 0} → (s : Updatable ℕ) → (old new : Intersection ℕ P) → Type 0
GivesSampleOf s old new =
    (lg_k start seed : ℕ) (streams : List (List ℕ)) (more : List ℕ)
    → IsIntersectionOf old streams
    → IsSketchOf lg_k start seed s more
    → IsIntersectionOf new (streams ++ more ∷ [])

-- the result of an intersection samples what its streams share, and it lists exactly the shared hashes below its theta; it has
-- the hash of the intersection's seed
pub record HasShared {P : Type 0} (i : Intersection ℕ P) (result : Compact ℕ) : Type 0 where
  pub sample : (streams : List (List ℕ)) → IsIntersectionOf i streams → IsSampleOf (value_of result) (shared_by streams)
  pub below : (streams : List (List ℕ)) → IsIntersectionOf i streams → result.entries ≡ set_below result.theta (shared_by streams)
  pub seeded : result.seed_hash ≡ i.seed_hash

-- a sketch samples what the streams of two others share, and it lists exactly the shared hashes below its theta
pub record HasCommon (first second result : Compact ℕ) : Type 0 where
  pub sample : (hashes others : List ℕ) → IsSampleOf (value_of first) hashes → IsSampleOf (value_of second) others →
      IsSampleOf (value_of result) (shared_hashes hashes others)
  pub below : (hashes others : List ℕ) → IsSampleOf (value_of first) hashes → IsSampleOf (value_of second) others →
      result.entries ≡ set_below result.theta (shared_hashes hashes others)

-- a sketch samples what the stream of a first has and that of a second lacks, and it lists exactly these hashes below its theta
pub record HasLacking (first second result : Compact ℕ) : Type 0 where
  pub sample : (hashes others : List ℕ) → IsSampleOf (value_of first) hashes → IsSampleOf (value_of second) others →
      IsSampleOf (value_of result) (lacking_hashes hashes others)
  pub below : (hashes others : List ℕ) → IsSampleOf (value_of first) hashes → IsSampleOf (value_of second) others →
      result.entries ≡ set_below result.theta (lacking_hashes hashes others)

-- bytes are read, under the seed hash of a sketch, as that sketch, if this hash isn't 0, and as no other
pub record IsReadAs (bytes : List ℕ) (s : Compact ℕ) : Type 0 where
  pub is_read : 0 < s.seed_hash → Reads bytes s.seed_hash s
  pub alone : (r : Compact ℕ) → Reads bytes s.seed_hash r → r ≡ s

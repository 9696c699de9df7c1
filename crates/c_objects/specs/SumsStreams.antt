-- What calls of C say of the streams of values, each with its hash, that sketches of sums and unions of these were given, in any
-- mode; and of what their intersections and differences were given, in folds of values.
use Rattle.std.specs.Prelude.{ℕ, ◌≡◌, ◌≢◌, ◌<◌, ◌≤◌, ◌^◌, List, [], ◌∷◌, ◌++◌, map}
use Rattle.core_images.specs.Summary.{SpellsNumber}
use Rattle.core_laws.specs.Folds.{Value, fold_key}
use Rattle.core_laws.specs.Maps.{below}
use Rattle.core_operators.specs.Intersection.{Intersection}
use Rattle.core_state.specs.Updatable.{Updatable}
use Rattle.tuple_sketches.specs.Image.{Reads}
use Rattle.tuple_sketches.specs.Streams.{Compact, Sketch, NonEmpty, Union, TupleEntry, MAX_THETA, seed_hash}
use Rattle.tuple_sketches.specs.Streams.{Given, combined_number, given_numbers, least_numbers, shared_by, without, tuple_key, value_of, retained_of}
use Rattle.tuple_sketches.specs.Streams.{IsPartOf, IsSampleOf, IsSketchOf, IsTrimmedOf, IsUnionOf, IsIntersectionOf}
use Rattle.tuple_sketches.specs.declared.numbers.SummaryMode.{SummaryMode}

-- a sketch with these settings was given a stream of values, and nothing else: of each hash it keeps what the mode says
abbrev pub IsSumsOf : SummaryMode → (lg_k start seed : ℕ) → Updatable (TupleEntry ℕ) → (stream : List (ℕ × ℕ)) → Type 0
IsSumsOf mode lg_k start seed s stream = IsSketchOf lg_k start seed s (given_numbers mode stream)

-- such a sketch that has at most its nominal entries, as after a trim
abbrev pub IsTrimmedSumsOf : SummaryMode → (lg_k start seed : ℕ) → Updatable (TupleEntry ℕ) → (stream : List (ℕ × ℕ)) → Type 0
IsTrimmedSumsOf mode lg_k start seed s stream = IsTrimmedOf lg_k start seed s (given_numbers mode stream)

-- a value is a part of a union's stream: it has the sums of its own stream, and a theta that is lawful for k and the start
abbrev pub IsSumsPartOf : SummaryMode → (k start : ℕ) → Sketch (TupleEntry ℕ) → (stream : List (ℕ × ℕ)) → Type 0
IsSumsPartOf mode k start value stream = IsPartOf k start value (given_numbers mode stream)

-- a union of 2^lg_k nominal entries was given a stream by parts that are lawful for k and the start, and nothing else
abbrev pub IsSumsUnionOf : {P : Type 0} → SummaryMode → (lg_k k start : ℕ) → Union (TupleEntry ℕ) P → (stream : List (ℕ × ℕ)) → Type 0
IsSumsUnionOf mode lg_k k start u stream = IsUnionOf lg_k k start u (given_numbers mode stream)

-- a call gave a sketch of a mode these values more, each with its hash
abbrev pub GivesValues : SummaryMode → (more : List (ℕ × ℕ)) → (old new : Updatable (TupleEntry ℕ)) → Type 0
GivesValues mode more old new =
    (lg_k start seed : ℕ) (stream : List (ℕ × ℕ))
    → IsSumsOf mode lg_k start seed old stream
    → IsSumsOf mode lg_k start seed new (stream ++ more)

-- a call gave a sketch nothing
abbrev pub GivesNoValues : (old new : Updatable (TupleEntry ℕ)) → Type 0
GivesNoValues old new =
    (mode : SummaryMode) (lg_k start seed : ℕ) (stream : List (ℕ × ℕ))
    → IsSumsOf mode lg_k start seed old stream
    → IsSumsOf mode lg_k start seed new stream

-- a call left a sketch with at most its nominal entries, and gave it nothing
abbrev pub GivesTrimmedSums : (old new : Updatable (TupleEntry ℕ)) → Type 0
GivesTrimmedSums old new =
    (mode : SummaryMode) (lg_k start seed : ℕ) (stream : List (ℕ × ℕ))
    → IsSumsOf mode lg_k start seed old stream
    → IsTrimmedSumsOf mode lg_k start seed new stream

-- a call made a sketch that was given nothing, with the settings of another
abbrev pub GivesSumsAnew : (old new : Updatable (TupleEntry ℕ)) → Type 0
GivesSumsAnew old new =
    (mode : SummaryMode) (lg_k start seed : ℕ) (stream : List (ℕ × ℕ))
    → IsSumsOf mode lg_k start seed old stream
    → IsSumsOf mode lg_k start seed new []

-- the compact form of a sketch is a part of the sketch's stream, with the hash of its seed; after a trim it has the least
-- hashes of the stream, each with the sum of its values, or the least or the greatest of them, as the mode says
pub record HasSums (s : Updatable (TupleEntry ℕ)) (form : Compact (TupleEntry ℕ)) : Type 0 where
  pub part : (mode : SummaryMode) (lg_k start seed : ℕ) (stream : List (ℕ × ℕ)) → IsSumsOf mode lg_k start seed s stream →
      IsSumsPartOf mode (2 ^ lg_k) start (value_of form) stream
  pub seeded : (mode : SummaryMode) (lg_k start seed : ℕ) (stream : List (ℕ × ℕ)) → IsSumsOf mode lg_k start seed s stream →
      form.seed_hash ≡ seed_hash seed
  pub least : (mode : SummaryMode) (lg_k start seed : ℕ) (stream : List (ℕ × ℕ)) → IsTrimmedSumsOf mode lg_k start seed s stream → stream ≢ [] →
      value_of form ≡ NonEmpty (least_numbers mode (2 ^ lg_k) stream start)
  pub kmin : (mode : SummaryMode) (lg_k seed : ℕ) (stream : List (ℕ × ℕ))
      → IsTrimmedSumsOf mode lg_k MAX_THETA seed s stream
      → retained_of form ≡ least_numbers mode (2 ^ lg_k) stream MAX_THETA

-- a union of 2^lg_k nominal entries that begins at a theta was given nothing
abbrev pub IsSumsUnionOfNone : {P : Type 0} → (lg_k from : ℕ) → Union (TupleEntry ℕ) P → Type 0
IsSumsUnionOfNone lg_k from u = (mode : SummaryMode) (k start : ℕ) → k ≤ 2 ^ lg_k → start ≤ from → IsSumsUnionOf mode lg_k k start u []

-- a call gave a union of a mode one part more
abbrev pub GivesSumsPart : {P : Type 0} → SummaryMode → (value : Sketch (TupleEntry ℕ)) → (old new : Union (TupleEntry ℕ) P) → Type 0
GivesSumsPart mode value old new =
    (lg_k k start : ℕ) (stream more : List (ℕ × ℕ))
    → IsSumsUnionOf mode lg_k k start old stream
    → IsSumsPartOf mode k start value more
    → IsSumsUnionOf mode lg_k k start new (stream ++ more)

-- a call gave a union of a mode what a sketch was given that takes updates, of at least k nominal entries
abbrev pub GivesSums : {P : Type 0} → SummaryMode → (s : Updatable (TupleEntry ℕ)) → (old new : Union (TupleEntry ℕ) P) → Type 0
GivesSums mode s old new =
    (lg_k k start own seed : ℕ) (stream more : List (ℕ × ℕ))
    → k ≤ 2 ^ own
    → IsSumsUnionOf mode lg_k k start old stream
    → IsSumsOf mode own start seed s more
    → IsSumsUnionOf mode lg_k k start new (stream ++ more)

-- a call lowered a union to 2^lg_k nominal entries, and gave it nothing
abbrev pub GivesLoweredSums : {P : Type 0} → (lg_k : ℕ) → (old new : Union (TupleEntry ℕ) P) → Type 0
GivesLoweredSums lg_k old new =
    (mode : SummaryMode) (nominal k less start : ℕ) (stream : List (ℕ × ℕ))
    → IsSumsUnionOf mode nominal k start old stream
    → less ≤ k
    → less ≤ 2 ^ lg_k
    → IsSumsUnionOf mode lg_k less start new stream

-- the result of a union is a part of the union's stream, with the hash of the union's seed, and it has the least hashes of the
-- stream, each with the sum of its values, or the least or the greatest of them
pub record HasSumsUnion {P : Type 0} (u : Union (TupleEntry ℕ) P) (result : Compact (TupleEntry ℕ)) : Type 0 where
  pub part : (mode : SummaryMode) (lg_k k start : ℕ) (stream : List (ℕ × ℕ)) → IsSumsUnionOf mode lg_k k start u stream →
      IsSumsPartOf mode k start (value_of result) stream
  pub seeded : result.seed_hash ≡ u.seed_hash
  pub least : (mode : SummaryMode) (lg_k start : ℕ) (stream : List (ℕ × ℕ)) → IsSumsUnionOf mode lg_k (2 ^ lg_k) start u stream → stream ≢ [] →
      value_of result ≡ NonEmpty (least_numbers mode (2 ^ lg_k) stream start)
  pub kmin : (mode : SummaryMode) (lg_k : ℕ) (stream : List (ℕ × ℕ))
      → IsSumsUnionOf mode lg_k (2 ^ lg_k) MAX_THETA u stream
      → retained_of result ≡ least_numbers mode (2 ^ lg_k) stream MAX_THETA

-- an intersection of a mode was given samples of these, whose numbers are combined so, and nothing else
abbrev pub IsSumsIntersectionOf : {P : Type 0} → SummaryMode → Intersection (TupleEntry ℕ) P → (givens : List (Given ℕ)) → Type 0
IsSumsIntersectionOf mode i givens = IsIntersectionOf (combined_number mode) i givens

-- a call gave an intersection a sample more
abbrev pub GivesSumsSample : {P : Type 0} → SummaryMode → (value : Sketch (TupleEntry ℕ)) → (old new : Intersection (TupleEntry ℕ) P) → Type 0
GivesSumsSample mode value old new =
    (givens : List (Given ℕ)) (more : Given ℕ)
    → IsSumsIntersectionOf mode old givens
    → IsSampleOf value more
    → IsSumsIntersectionOf mode new (givens ++ more ∷ [])

-- a call gave an intersection what a sketch was given that takes updates
abbrev pub GivesSumsSampleOf : {P : Type 0} → SummaryMode → (s : Updatable (TupleEntry ℕ)) → (old new : Intersection (TupleEntry ℕ) P) → Type 0
GivesSumsSampleOf mode s old new =
    (lg_k start seed : ℕ) (givens : List (Given ℕ)) (more : Given ℕ)
    → IsSumsIntersectionOf mode old givens
    → IsSketchOf lg_k start seed s more
    → IsSumsIntersectionOf mode new (givens ++ more ∷ [])

-- the result of an intersection samples what its sketches share, and it lists exactly the shared keys below its theta, each with
-- its combined numbers; it has the hash of the intersection's seed
pub record HasSharedSums {P : Type 0} (mode : SummaryMode) (i : Intersection (TupleEntry ℕ) P) (result : Compact (TupleEntry ℕ)) : Type 0 where
  pub sample : (givens : List (Given ℕ)) → IsSumsIntersectionOf mode i givens →
      IsSampleOf (value_of result) (shared_by (combined_number mode) givens)
  pub below : (givens : List (Given ℕ)) → IsSumsIntersectionOf mode i givens →
      map Value result.entries ≡ below (fold_key tuple_key) (shared_by (combined_number mode) givens).whole result.theta
  pub seeded : result.seed_hash ≡ i.seed_hash

-- a sketch samples what a first was given at keys that a second wasn't given, and it lists exactly these below its theta
pub record HasLackingSums (first second result : Compact (TupleEntry ℕ)) : Type 0 where
  pub sample : (given others : Given ℕ) → IsSampleOf (value_of first) given → IsSampleOf (value_of second) others →
      IsSampleOf (value_of result) (without given others)
  pub below : (given others : Given ℕ) → IsSampleOf (value_of first) given → IsSampleOf (value_of second) others →
      map Value result.entries ≡ below (fold_key tuple_key) (without given others).whole result.theta

-- bytes are read, under the seed hash of a sketch, as that sketch, if this hash isn't 0, and as no other
pub record IsSumsReadAs (bytes : List ℕ) (s : Compact (TupleEntry ℕ)) : Type 0 where
  pub is_read : 0 < s.seed_hash → Reads (SpellsNumber 8) bytes s.seed_hash s
  pub alone : (r : Compact (TupleEntry ℕ)) → Reads (SpellsNumber 8) bytes s.seed_hash r → r ≡ s

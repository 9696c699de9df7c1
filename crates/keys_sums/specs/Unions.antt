-- Unions of images of sums, by a mode: the sums of a key are added, or the least or the greatest of them is kept.
use Rattle.std.specs.Prelude.{ℕ, ◌≡◌, ◌⊎◌, ◌^◌, List, map, Option, Some, None, IfSome}
use Rattle.sketch_base.specs.Seed.{seed_hash}
use Rattle.sketch_base.specs.declared.error.ErrorKind.{ErrorKind}
use Rattle.sketch_base.specs.declared.error.ErrorKind.TheVariants.{OutOfMemory, InvalidData, Policy}
use Rattle.core_compact.specs.CompactState.{Compact, compact_value, ordered_sketch}
use Rattle.core_laws.specs.Folds.{Fold, fold_key, fold_merges, unmarked_value}
use Rattle.core_laws.specs.Operators.{unite}
use Rattle.core_laws.specs.Values.{Sketch}
use Rattle.core_laws.specs.declared.TheConstants.{MAX_THETA}
use Rattle.core_operators.specs.Union.{Union, empty_union, union_value}
use Rattle.core_policies.specs.Summaries.{combined, combine_refused}
use Rattle.core_slots.specs.Entry.{tuple_key}
use Rattle.core_slots.specs.declared.entry.TupleEntry.{TupleEntry}
use Rattle.tuple_sketches.specs.Numbers.{combined_number}
use Rattle.tuple_sketches.specs.declared.numbers.SummaryMode.{SummaryMode}
use Rattle.tuple_sketches.specs.declared.numbers.SummaryMode.TheVariants.{Sum}
use Rattle.tuple_sketches.specs.declared.numbers.NumberPolicy.{NumberPolicy}
use Rattle.keys_lines.specs.Keys.{hashing_of}
use Rattle.keys_lines.specs.Lines.{lines_of_all}
use Rattle.keys_lines.specs.declared.key.Key.{Key}
use Rattle.keys_sketches.specs.Refusals.{HasFault}
use Rattle.keys_sketches.specs.Unions.{IsReady}
use Rattle.keys_sketches.specs.declared.sketching.ReadError.{ReadError}
use Rattle.keys_sketches.specs.declared.sketching.ReadError.TheVariants.{Refused, Failed}
use Rattle.keys_sums.specs.Images.{AreReadSums, AreReadableSums, AreImagesOfTexts, image_of_sums, written_sums}
use Rattle.keys_sums.specs.Sums.{sketch_of_sums}

-- what a union is made with beside its seed
pub record UnionSettings : Type 0 where
  pub mode : SummaryMode
  pub lg_k : ℕ

-- two folds of one hash are merged: their sums are combined by the mode, and a sum of 2^64 or more is a mark
abbrev pub merge_folds : SummaryMode → Fold (TupleEntry ℕ) → Fold (TupleEntry ℕ) → Fold (TupleEntry ℕ)
merge_folds mode = fold_merges tuple_key (combined (combined_number mode)) (combine_refused (combined_number mode))

-- the values of sketches, in folds
abbrev pub folds_of_sketches : List (Compact (TupleEntry ℕ)) → List (Sketch (Fold (TupleEntry ℕ)))
folds_of_sketches sketches = map (λ s. unmarked_value (compact_value tuple_key s)) sketches

-- the union of sketches of sums, in folds
abbrev pub united_sums : SummaryMode → (lg_k : ℕ) → List (Compact (TupleEntry ℕ)) → Sketch (Fold (TupleEntry ℕ))
united_sums mode lg_k sketches = unite (fold_key tuple_key) (merge_folds mode) (2 ^ lg_k) MAX_THETA (folds_of_sketches sketches)

-- a union of 2^lg_k nominal entries, of this mode and seed, has the value of the union of the sketches of sums in these images,
-- and no sum of its value is 2^64 or more
pub record HasUnitedSums (mode : SummaryMode) (seed lg_k : ℕ) (images : List (List ℕ)) (u : Union (TupleEntry ℕ) NumberPolicy) : Type 0 where
  pub same_mode : u.policy.mode ≡ mode
  pub sketches : List (Compact (TupleEntry ℕ))
  pub are_read : AreReadSums seed images sketches
  pub value : unmarked_value (union_value tuple_key u) ≡ united_sums mode lg_k sketches
  pub made : u ≡ record (empty_union lg_k MAX_THETA (seed_hash seed) u.policy) { empty = u.empty; content = u.content }

-- a union of this mode is ready for images of this seed
pub record IsReadyToUnite (mode : SummaryMode) (seed : ℕ) (u : Union (TupleEntry ℕ) NumberPolicy) : Type 0 where
  pub same_mode : u.policy.mode ≡ mode
  pub ready : IsReady seed u

-- the ordered sketch of the union, by a mode, of the sketches of sums in images
pub record IsUnitedSums (mode : SummaryMode) (seed lg_k : ℕ) (images : List (List ℕ)) (s : Compact (TupleEntry ℕ)) : Type 0 where
  pub sketches : List (Compact (TupleEntry ℕ))
  pub are_read : AreReadSums seed images sketches
  pub value : Sketch (TupleEntry ℕ)
  pub united : unmarked_value value ≡ united_sums mode lg_k sketches
  pub sketch : s ≡ ordered_sketch value (seed_hash seed)

-- .. and its image
abbrev pub IsUnitedSumsImage : SummaryMode → (seed lg_k : ℕ) → (images : List (List ℕ)) → (bytes : List ℕ) → Type 0
IsUnitedSumsImage mode seed lg_k images bytes = (s : Compact (TupleEntry ℕ)) × IsUnitedSums mode seed lg_k images s × (bytes ≡ written_sums s)

-- for images of the sums of texts that were sketched apart, by one key, one amount and this mode, with this seed and at least
-- this lg_k, it is the sketch of the sums of all their lines
abbrev pub AreSumsOfTexts : SummaryMode → (seed lg_k : ℕ) → (images : List (List ℕ)) → Compact (TupleEntry ℕ) → Type 0
AreSumsOfTexts mode seed lg_k images s =
    (key : Key) (amount : List ℕ → ℕ) (texts : List (List ℕ))
    → AreImagesOfTexts mode (hashing_of key seed) amount lg_k images texts
    → s ≡ sketch_of_sums mode (hashing_of key seed) amount lg_k (lines_of_all texts)

-- .. and its image that of them
abbrev pub UnitesSumsOfTexts : SummaryMode → (seed lg_k : ℕ) → (images : List (List ℕ)) → List ℕ → Type 0
UnitesSumsOfTexts mode seed lg_k images bytes =
    (key : Key) (amount : List ℕ → ℕ) (texts : List (List ℕ))
    → AreImagesOfTexts mode (hashing_of key seed) amount lg_k images texts
    → bytes ≡ image_of_sums mode (hashing_of key seed) amount lg_k (lines_of_all texts)

-- the bytes are not an image of sums of this seed
abbrev pub AreNoSums : (seed : ℕ) → List ℕ → Type 0
AreNoSums seed bytes = AreReadableSums bytes (seed_hash seed) → ⊥

-- some of these are not an image of sums
abbrev pub HasNoSums : (seed : ℕ) → (texts : List (List ℕ)) → Type 0
HasNoSums seed texts = HasFault (AreNoSums seed) texts

-- merges are refused only by a mode that adds
abbrev pub merge_refusal : SummaryMode → Option ErrorKind
merge_refusal Sum = Some Policy
merge_refusal _ = None

-- images are not united: by a refusal before any is read, or because one is not added
abbrev pub IsUniteSumsRefusal : SummaryMode → (seed : ℕ) → Option ErrorKind → Option (List (List ℕ)) → ReadError → Type 0
IsUniteSumsRefusal mode seed refusal images (Refused kind) =
    (refusal ≡ Some kind)
    ⊎ ((kind ≡ OutOfMemory)
    ⊎ ((refusal ≡ None) × ((merge_refusal mode ≡ Some kind) ⊎ ((kind ≡ InvalidData) × IfSome images (HasNoSums seed)))))
IsUniteSumsRefusal mode seed refusal images (Failed error) = refusal ≡ None

-- Images of sums that are read, and united.
use Rattle.std.proofs.Common.{◌≡◌, ℕ, ◌^◌, ◌<◌, List, [], ◌∷◌, ◌++◌, map, Result, Ok, Err, arith, refl, sym, ap, subst, ◌∙◌, append-nil}
use Rattle.std.specs.Prelude.{IfOk, OnOk}
use Rattle.std.proofs.lemmas.List.{map-append}
use Rattle.sketch_base.specs.Seed.{seed_hash}
use Rattle.sketch_base.specs.declared.error.ErrorKind.{ErrorKind}
use Rattle.core_compact.specs.CompactState.{Compact, IsCompact, compact_value, ordered_sketch}
use Rattle.core_laws.specs.Cuts.{Retained}
use Rattle.core_laws.specs.Entries.{hash_key}
use Rattle.core_laws.specs.Folds.{Fold, fold_key, unmarked_value}
use Rattle.core_laws.specs.Leaf.{kmin}
use Rattle.core_laws.specs.Maps.{IsAscending}
use Rattle.core_laws.specs.Operators.{unite}
use Rattle.core_laws.specs.Values.{Sketch, NonEmpty}
use Rattle.core_laws.specs.declared.TheConstants.{MAX_THETA}
use Rattle.core_laws.proofs.maps.Ascending.{ascending-filter}
use Rattle.core_laws.proofs.maps.MapsOfLists.{ascending-from_map}
use Rattle.core_operators.specs.Union.{Union, union_value, empty_union}
use Rattle.core_slots.specs.Entry.{tuple_key, tuple_of}
use Rattle.core_slots.specs.declared.entry.TupleEntry.{TupleEntry}
use Rattle.core_table.proofs.OtherOrders.{map_of-ascending}
use Rattle.tuple_sketches.specs.Image.{HasValues}
use Rattle.keys_lines.specs.Lines.{lines_of, lines_of_all}
use Rattle.keys_lines.specs.declared.key.Hashing.{Hashing}
use Rattle.keys_sketches.specs.Keys.{key_set}
use Rattle.keys_sketches.proofs.Rereads.{seed_hash-small}
use Rattle.keys_sketches.proofs.Shards.{lines_apart, part_of}
use Rattle.keys_sketches.proofs.Unions.{made_same}
use Rattle.keys_sketches.proofs.Waiting.{all_joined, are_read-append}
use Rattle.keys_sums.specs.Images.{AreReadSums, AreImagesOfTexts, ReadsSums, ReadsSumsUnder, written_sums}
use Rattle.keys_sums.specs.Sums.{summary_at, sums_of_lines, sketch_of_sums}
use Rattle.tuple_sketches.specs.declared.numbers.SummaryMode.{SummaryMode}
use Rattle.tuple_sketches.specs.declared.numbers.NumberPolicy.{NumberPolicy}
use Rattle.keys_sums.specs.Unions.{merge_folds, folds_of_sketches, HasUnitedSums, IsUnitedSums}
use Rattle.keys_sums.proofs.Joined.{merge_keeps, AreValues, map_self, united_exact}

-- bytes are read as one sketch of sums at most
abbrev pub ReadsOneSums : Type 0
ReadsOneSums = (bytes : List ℕ) (h : ℕ) (r s : Compact (TupleEntry ℕ)) → ReadsSums bytes h r → ReadsSums bytes h s → r ≡ s

-- what is written is read
abbrev pub ReadsSumsAgain : Type 0
ReadsSumsAgain = (s : Compact (TupleEntry ℕ)) (rest : List ℕ) → IsCompact tuple_key s → HasValues (λ n. n < 2 ^ 64) s → 0 < s.seed_hash → s.seed_hash < 2 ^ 16 → ReadsSums (written_sums s ++ rest) s.seed_hash s

pub reads_sums : ReadsSumsAgain → (s : Compact (TupleEntry ℕ)) (seed : ℕ) (bytes : List ℕ) → IsCompact tuple_key s → HasValues (λ n. n < 2 ^ 64) s → s.seed_hash ≡ seed_hash seed → 0 < seed_hash seed → bytes ≡ written_sums s → ReadsSums bytes (seed_hash seed) s
reads_sums anew s seed bytes compact fits same seeded image =
    let low : 0 < s.seed_hash = omega (arith, same, seeded) in
    let small : s.seed_hash < 2 ^ 16 = omega (arith, same, seed_hash-small seed) in
    let all : written_sums s ++ [] ≡ bytes = append-nil (written_sums s) ∙ sym image in
    subst (λ (h : ℕ). ReadsSums bytes h s) same (subst (λ (bs : List ℕ). ReadsSums bs s.seed_hash s) all (anew s [] compact fits low small))

-- the image that a call returns is read
pub reads_written : ReadsSumsAgain → {V : Type 0} (items : V → List ℕ) (r : Result V ErrorKind) (s : Compact (TupleEntry ℕ)) (seed : ℕ) → OnOk r (IsCompact tuple_key s) → OnOk r (HasValues (λ n. n < 2 ^ 64) s) → s.seed_hash ≡ seed_hash seed → 0 < seed_hash seed →
    IfOk r (λ v. items v ≡ written_sums s) → IfOk r (λ v. ReadsSums (items v) (seed_hash seed) s)
reads_written anew items (Ok v) s seed compact fits same seeded image = reads_sums anew s seed (items v) compact fits same seeded image
reads_written anew items (Err e) s seed compact fits same seeded image = tt

-- ---- unions

-- the value of a union of sums, in folds
abbrev folds_in : Union (TupleEntry ℕ) NumberPolicy → Sketch (Fold (TupleEntry ℕ))
folds_in u = unmarked_value (union_value tuple_key u)

-- many images more
pub sums_more : (mode : SummaryMode) (seed lg_k : ℕ) (first others : List (List ℕ)) (waiting : List (Compact (TupleEntry ℕ))) (old new : Union (TupleEntry ℕ) NumberPolicy) → HasUnitedSums mode seed lg_k first old → AreReadSums seed others waiting →
    folds_in new ≡ unite (fold_key tuple_key) (merge_folds old.policy.mode) (2 ^ old.lg_k) old.start (folds_in old ∷ folds_of_sketches waiting) → new ≡ record old { empty = new.empty; content = new.content } → HasUnitedSums mode seed lg_k (first ++ others) new
sums_more mode seed lg_k first others waiting old new has reads joins made =
    let joins_by : folds_in new ≡ unite (fold_key tuple_key) (merge_folds mode) (2 ^ old.lg_k) old.start (folds_in old ∷ folds_of_sketches waiting) =
    joins ∙ ap (λ (m : SummaryMode). unite (fold_key tuple_key) (merge_folds m) (2 ^ old.lg_k) old.start (folds_in old ∷ folds_of_sketches waiting)) has.same_mode in
    record {
      same_mode = ap (λ (u : Union (TupleEntry ℕ) NumberPolicy). u.policy.mode) made ∙ has.same_mode;
      sketches = has.sketches ++ waiting;
      are_read = are_read-append (ReadsSumsUnder seed) first others has.sketches waiting has.are_read reads;
      value =
          all_joined (fold_key tuple_key) (merge_folds mode) (merge_keeps mode) folds_in lg_k MAX_THETA old new (folds_of_sketches has.sketches) (folds_of_sketches waiting) (ap (λ u. u.lg_k) has.made) (ap (λ u. u.start) has.made) has.value joins_by
          ∙ ap (unite (fold_key tuple_key) (merge_folds mode) (2 ^ lg_k) MAX_THETA) (sym (map-append (λ s. unmarked_value (compact_value tuple_key s)) has.sketches waiting));
      made = made_same seed lg_k old new has.made made;
    }

-- a new union has united nothing
pub no_sums_united : (mode : SummaryMode) (seed lg_k : ℕ) (u : Union (TupleEntry ℕ) NumberPolicy) → u.policy.mode ≡ mode → u ≡ empty_union lg_k MAX_THETA (seed_hash seed) u.policy → HasUnitedSums mode seed lg_k [] u
no_sums_united mode seed lg_k u same is =
    let with_policy : NumberPolicy → Union (TupleEntry ℕ) NumberPolicy = λ p. empty_union lg_k MAX_THETA (seed_hash seed) p in record {
      same_mode = same;
      sketches = [];
      are_read = tt;
      value = ap folds_in is;
      made = is ∙ (λ i. record (with_policy u.policy) { empty = sym (ap (λ v. v.empty) is) i; content = sym (ap (λ v. v.content) is) i });
    }

-- ---- sketches of texts, read from images

module _ (mode : SummaryMode) (hashing : Hashing) (amount : List ℕ → ℕ) where
  again : (lg_k : ℕ) (line : List ℕ) (lines : List (List ℕ)) → compact_value tuple_key (sketch_of_sums mode hashing amount lg_k (line ∷ lines)) ≡ sums_of_lines mode hashing amount lg_k (line ∷ lines)
  again lg_k line lines =
      let s = (part_of hashing lg_k (line ∷ lines)).sample in
      let kept : Retained ℕ = kmin (2 ^ lg_k) (key_set hashing (line ∷ lines)) MAX_THETA in
      let sum_of : ℕ → TupleEntry ℕ = λ h. tuple_of h (summary_at mode hashing amount (line ∷ lines) h) in
      let up : IsAscending hash_key kept.entries = subst (IsAscending hash_key) (sym s.all_below) (ascending-filter hash_key _ (key_set hashing (line ∷ lines)) s.ascending) in
      let rising : IsAscending tuple_key (map sum_of kept.entries) = ascending-from_map tuple_key (map sum_of kept.entries) (subst (IsAscending hash_key) (sym (map_self sum_of tuple_key (λ h. refl) kept.entries)) up) in
      ap (λ (xs : List (TupleEntry ℕ)). NonEmpty (record { entries = xs; theta = kept.theta })) (map_of-ascending tuple_key (map sum_of kept.entries) rising)

  value_again : (lg_k : ℕ) (lines : List (List ℕ)) → compact_value tuple_key (sketch_of_sums mode hashing amount lg_k lines) ≡ sums_of_lines mode hashing amount lg_k lines
  value_again lg_k [] = refl
  value_again lg_k (line ∷ lines) = again lg_k line lines

  module _ (one : ReadsOneSums) (lg_k : ℕ) where
    are_values : (images : List (List ℕ)) (sketches : List (Compact (TupleEntry ℕ))) (texts : List (List ℕ)) → AreReadSums hashing.seed images sketches → AreImagesOfTexts mode hashing amount lg_k images texts →
        AreValues mode hashing amount lg_k (map (λ s. compact_value tuple_key s) sketches) (map lines_of texts)
    are_values [] [] [] read are = tt
    are_values [] [] (t ∷ ts) read are = absurd are
    are_values [] (s ∷ ss) ts read are = absurd read
    are_values (b ∷ bs) [] ts read are = absurd read
    are_values (b ∷ bs) (s ∷ ss) [] read are = absurd are
    are_values (b ∷ bs) (s ∷ ss) (t ∷ ts) read are = (
      (are.0.0, are.0.1, ap (λ r. compact_value tuple_key r) (one b (seed_hash hashing.seed) s (sketch_of_sums mode hashing amount are.0.0 (lines_of t)) read.0 are.0.2) ∙ value_again are.0.0 (lines_of t)),
      are_values bs ss ts read.1 are.1,
    )

    folds_again : (sketches : List (Compact (TupleEntry ℕ))) → folds_of_sketches sketches ≡ map (λ v. unmarked_value v) (map (λ s. compact_value tuple_key s) sketches)
    folds_again [] = refl
    folds_again (s ∷ ss) = ap (λ vs. unmarked_value (compact_value tuple_key s) ∷ vs) (folds_again ss)

    -- the union of the images of texts is the sketch of the sums of all their lines
    pub sums_apart : (texts images : List (List ℕ)) (s : Compact (TupleEntry ℕ)) → AreImagesOfTexts mode hashing amount lg_k images texts → IsUnitedSums mode hashing.seed lg_k images s → s ≡ sketch_of_sums mode hashing amount lg_k (lines_of_all texts)
    sums_apart texts images s are united =
        let values : List (Sketch (TupleEntry ℕ)) = map (λ s. compact_value tuple_key s) united.sketches in
        let whole = united_exact mode hashing amount lg_k values (map lines_of texts) (are_values images united.sketches texts united.are_read are) united.value
        (united.united ∙ ap (unite (fold_key tuple_key) (merge_folds mode) (2 ^ lg_k) MAX_THETA) (folds_again united.sketches)) in
        united.sketch ∙ ap (λ (v : Sketch (TupleEntry ℕ)). ordered_sketch v (seed_hash hashing.seed)) (whole ∙ ap (sums_of_lines mode hashing amount lg_k) (lines_apart hashing texts))

-- Sketches, unions, intersections and differences against what they were given.
use Rattle.std.proofs.Common.{◌≡◌, ℕ, ◌≤◌, ◌≢◌, ◌^◌, Bool, true, false, cond, IsSome, List, [], ◌∷◌, ◌++◌, map, Option, Some, None, inl, inr, refl, sym, ap, ◌∙◌, subst}
use Rattle.std.specs.Prelude.{◌||◌, MatchOption}
use Rattle.std.specs.Option.{option_map}
use Rattle.sketch_base.specs.Seed.{seed_hash}
use Rattle.sketch_base.specs.declared.error.ErrorKind.{ErrorKind}
use Rattle.sketch_base.specs.declared.error.ErrorKind.TheVariants.{OutOfMemory, Policy}
use Rattle.core_laws.specs.declared.TheConstants.{MAX_THETA}
use Rattle.core_laws.specs.Cuts.{Retained}
use Rattle.core_laws.specs.Entries.{KeepsKey, hash_key}
use Rattle.core_laws.specs.Folds.{Fold, Value, fold_key, fold_merges, folded_of, unmarked, unmarked_value}
use Rattle.core_laws.specs.Insertion.{upsert_refusal}
use Rattle.core_laws.specs.Maps.{below, map_of}
use Rattle.core_laws.specs.Operators.{joined, joined_all, unite, meet, meet_next, minus}
use Rattle.core_laws.specs.Samples.{IsSample, AreSamples, AreLawful}
use Rattle.core_laws.specs.Shown.{Shown, shown_value}
use Rattle.core_laws.specs.Values.{Sketch, Empty, NonEmpty, cut_value, keys}
use Rattle.core_compact.specs.CompactState.{Compact, IsAnswer}
use Rattle.core_operators.specs.Intersection.{Intersection, IsAnswerIfAny, IsMet}
use Rattle.core_operators.specs.Union.{Union, empty_union, union_value, lowered, all_empty, UnitesSummaries, UnitesAllSummaries, IsBroken, IsUpdateError, update_refusal}
use Rattle.core_policies.specs.Summaries.{update_step, combined, combined-keeps, combine_refused}
use Rattle.core_slots.specs.Entry.{tuple_key}
use Rattle.core_slots.specs.declared.entry.TupleEntry.{TupleEntry}
use Rattle.core_state.specs.Updatable.{Updatable, sketch_value}
use Rattle.core_table.specs.HashTable.{empty_table, after_insertion, after_reset, trimmed_table}
use Rattle.core_laws.proofs.insertions.Unmarked.{fold_keeps}
use Rattle.core_laws.proofs.maps.Ascending.{ascending-nil}
use Rattle.core_laws.proofs.operators.Samples.{meet_samples, minus_samples}
use Rattle.core_compact.proofs.Answered.{answer-value, answer-seed}
use Rattle.core_streams.specs.Folds.{unmarked_table, unmarked_sketch, unmarked_union}
use Rattle.core_streams.specs.WholeMaps.{IsPart, IsUnionOfMap}
use Rattle.core_streams.proofs.Folds.{unmarked-cut_value, unmarked-insertion, unmarked-trimmed, sketch-unmarked, union-unmarked, unmarked-empty, unmarked-lowered, unmarked-minus}
use Rattle.core_streams.proofs.WholeMaps.{and_left, and_right, new-sketch, copy-given, reset-given, value-given, trimmed-given, trimmed-again, part-of, fewer-part, least-part, kmin-part, answer-retained, retained-below, retained_in, meet-one, value-empty, empty-value, empty-union, cut-empty, settings_kept, cut-sample, new-union, lowered-given, fewer-union, parts-given, sample-given}
use Rattle.tuple_sketches.specs.Streams.{Given, nothing, with_value, united, united_all, shared, shared_by, without, least_folds, value_of, retained_of, IsSampleOf, IsPartOf, IsSketchOf, IsTrimmedOf, IsUnionOf, IsUnionOfSamples, ArePartsOf, SamplesShared, IsIntersectionOf, GivesMore, GivesNothing}
use Rattle.tuple_sketches.specs.Given.{shared_by_all}
use Rattle.tuple_sketches.proofs.GivenValues.{steps-keep}

module _ {S : Type 0} (lg_k start seed : ℕ) where
  -- a new sketch was given nothing, and so was one after a reset
  pub sketch-made : (s : Updatable (TupleEntry S)) → start ≤ MAX_THETA → s.map ≡ empty_table lg_k start seed → IsSketchOf lg_k start seed s nothing
  sketch-made s high made = record { of_map = new-sketch (fold_key tuple_key) lg_k start seed (unmarked_sketch s) high (ap unmarked_table made); none = λ _. refl }

  pub sketch-reset : (old new : Updatable (TupleEntry S)) (given : Given S) → new.map ≡ after_reset old.map → IsSketchOf lg_k start seed old given → IsSketchOf lg_k start seed new nothing
  sketch-reset old new given after is = record { of_map = reset-given (fold_key tuple_key) lg_k start seed (unmarked_sketch old) (unmarked_sketch new) given.whole (ap unmarked_table after) is.of_map; none = λ _. refl }

  -- a copy was given the same
  pub sketch-copied : (old new : Updatable (TupleEntry S)) (given : Given S) → new.empty ≡ old.empty → new.map ≡ old.map → IsSketchOf lg_k start seed old given → IsSketchOf lg_k start seed new given
  sketch-copied old new given same copied is = record {
    of_map = copy-given (fold_key tuple_key) lg_k start seed (unmarked_sketch old) (unmarked_sketch new) given.whole same (ap unmarked_table copied) is.of_map;
    none = λ e. is.none (value-empty tuple_key old (sym same ∙ empty-value tuple_key new e));
  }

  -- a trim keeps what a sketch was given, and leaves no more than its nominal entries
  pub sketch-trimmed : (old new : Updatable (TupleEntry S)) (given : Given S) → new.empty ≡ old.empty → new.map ≡ trimmed_table tuple_key old.map → IsSketchOf lg_k start seed old given → IsTrimmedOf lg_k start seed new given
  sketch-trimmed old new given same after is =
      let trimmed = unmarked-trimmed tuple_key old.map new.map after in
      record {
        sketch = record {
          of_map = trimmed-given (fold_key tuple_key) lg_k start seed (unmarked_sketch old) (unmarked_sketch new) given.whole same trimmed is.of_map;
          none = λ e. is.none (value-empty tuple_key old (sym same ∙ empty-value tuple_key new e));
        };
        no_more = subst (λ value. cut_value (fold_key tuple_key) (2 ^ lg_k) value ≡ value) (sketch-unmarked tuple_key new)
            (trimmed-again (fold_key tuple_key) lg_k start seed (unmarked_sketch old) (unmarked_sketch new) given.whole trimmed is.of_map);
      }

  -- the value of a sketch is a part of what it was given
  pub sketch-part : (s : Updatable (TupleEntry S)) (given : Given S) → IsSketchOf lg_k start seed s given → IsPartOf (2 ^ lg_k) start (sketch_value s) given
  sketch-part s given is = record {
    part = subst (λ value. IsPart (fold_key tuple_key) (2 ^ lg_k) start value given.whole) (sketch-unmarked tuple_key s) (part-of (fold_key tuple_key) lg_k start seed (unmarked_sketch s) given.whole is.of_map);
    none = is.none;
  }

-- a sketch was given a value more
pub gives-value : {S U : Type 0} (creates : Option S) (updates : S → U → Option S) (h : ℕ) (value : U) (old new : Updatable (TupleEntry S)) → upsert_refusal tuple_key h (update_step creates updates h value) old.map.kept ≡ None → new.empty ≡ false → new.map ≡ after_insertion tuple_key h (update_step creates updates h value) old.map → GivesMore old new (λ _ given. with_value creates updates h value given)
gives-value creates updates h value old new allowed nonempty after lg_k start seed given is = record {
  of_map = value-given (fold_key tuple_key) (folded_of tuple_key (update_step creates updates)) (steps-keep creates updates) lg_k start seed h value (unmarked_sketch old) (unmarked_sketch new) given.whole nonempty
      (unmarked-insertion tuple_key h (update_step creates updates h value) old.map new.map allowed after) is.of_map;
  none = λ e. absurd (let empty : new.empty ≡ true = empty-value tuple_key new e in cc);
}

pub gives-nothing : {S : Type 0} (old new : Updatable (TupleEntry S)) → new.empty ≡ old.empty → new.map ≡ old.map → GivesNothing old new
gives-nothing old new same copied lg_k start seed given is = sketch-copied lg_k start seed old new given same copied is

-- the seed of a sketch, and its hash
pub seed-is : {S : Type 0} (lg_k start seed : ℕ) (s : Updatable (TupleEntry S)) (given : Given S) → IsSketchOf lg_k start seed s given → s.map.seed ≡ seed
seed-is lg_k start seed s given is = ap (λ t. t.seed) is.of_map.made_with

pub seeded : {S : Type 0} (lg_k start seed : ℕ) (s : Updatable (TupleEntry S)) (given : Given S) (requested : Bool) (r : Compact (TupleEntry S)) → IsAnswer tuple_key (sketch_value s) s.map.seed_hash requested r → IsSketchOf lg_k start seed s given → r.seed_hash ≡ seed_hash seed
seeded lg_k start seed s given requested r answer is = answer-seed tuple_key (sketch_value s) s.map.seed_hash requested r answer ∙ ap (λ t. t.seed_hash) is.of_map.made_with

-- what is united with nothing
or_false : (a b : Bool) → b ≡ false → (a || b) ≡ a
or_false true b e = refl
or_false false b e = e

module _ {S : Type 0} (combines : S → S → Option S) where
  abbrev merges : Fold (TupleEntry S) → Fold (TupleEntry S) → Fold (TupleEntry S)
  merges = fold_merges tuple_key (combined combines) (combine_refused combines)

  keeps : KeepsKey (fold_key tuple_key) merges
  keeps = fold_keeps tuple_key (combined combines) (combine_refused combines) (combined-keeps combines)

  united-nothing : (given more : Given S) → more.whole ≡ [] → more.any ≡ false → united combines given more ≡ given
  united-nothing given more none unused =
      let whole : joined (fold_key tuple_key) merges given.whole more.whole ≡ given.whole = ap (λ w. joined (fold_key tuple_key) merges given.whole w) none in
      let any : (given.any || more.any) ≡ given.any = or_false given.any more.any unused in
      λ i. record { whole = whole i; any = any i }

  -- the value of a union in folds after an update
  in-folds : {P : Type 0} (old new : Union (TupleEntry S) P) (values : List (Sketch (Fold (TupleEntry S)))) →
      unmarked_value (union_value tuple_key new) ≡ unite (fold_key tuple_key) merges (2 ^ old.lg_k) old.start (unmarked_value (union_value tuple_key old) ∷ values) →
      union_value (fold_key tuple_key) (unmarked_union new) ≡ unite (fold_key tuple_key) merges (2 ^ old.lg_k) old.start (union_value (fold_key tuple_key) (unmarked_union old) ∷ values)
  in-folds old new values united_is =
      union-unmarked tuple_key new ∙ united_is ∙ ap (λ value. unite (fold_key tuple_key) merges (2 ^ old.lg_k) old.start (value ∷ values)) (sym (union-unmarked tuple_key old))

  -- a union that was given one part more
  pub union-given : {P : Type 0} (lg_k k start : ℕ) (old new : Union (TupleEntry S) P) (s : Shown) (listing : List (TupleEntry S)) (given more : Given S) → (s.empty ≡ true → new ≡ old) → UnitesSummaries combines old new s listing → (s.empty ≡ false → new ≡ record old { empty = false; content = new.content }) →
      IsUnionOf lg_k k start old given → IsPartOf k start (shown_value tuple_key s listing) more → IsUnionOf lg_k k start new (united combines given more)
  union-given lg_k k start old new s listing given more skipped united_is made is part =
      (elim s.empty as (λ b. s.empty ≡ b → IsPartOf k start (cond b Empty (NonEmpty (record { entries = map_of tuple_key listing; theta = s.theta }))) more → IsUnionOf lg_k k start new (united combines given more)) [
        | true ↦ λ e p. rw (skipped e, united-nothing given more p.part.sample.all_below (p.none refl)) is
        | false ↦ λ e p. record {
          of_map = parts-given (fold_key tuple_key) merges keeps lg_k k start (unmarked_union old) (unmarked_union new) (unmarked_value (shown_value tuple_key s listing) ∷ []) given.whole (more.whole ∷ []) (in-folds old new (unmarked_value (shown_value tuple_key s listing) ∷ []) (united_is e)) (ap (λ u. u.lg_k) (made e)) (ap (λ u. u.start) (made e)) is.of_map (part.part.sample, tt) (part.part.lawful, tt);
          none = λ none. absurd (let filled : new.empty ≡ false = ap (λ u. u.empty) (made e) in let bare : new.empty ≡ true = empty-union tuple_key new none in cc);
        }
      ]) refl part

  -- parts as samples whose thetas are lawful, and their whole maps
  samples-of : (k start : ℕ) (values : List (Sketch (TupleEntry S))) (givens : List (Given S)) → ArePartsOf k start values givens →
      AreSamples (fold_key tuple_key) (map (λ v. unmarked_value v) values) (map (λ g. g.whole) givens) × AreLawful (fold_key tuple_key) k start (map (λ v. unmarked_value v) values) (map (λ g. g.whole) givens)
  samples-of k start [] [] parts = (tt, tt)
  samples-of k start [] (given ∷ givens) parts = absurd parts
  samples-of k start (value ∷ values) [] parts = absurd parts
  samples-of k start (value ∷ values) (given ∷ givens) parts = let rest = samples-of k start values givens parts.1 in ((parts.0.part.sample, rest.0), (parts.0.part.lawful, rest.1))

  whole-united_all : (given : Given S) (givens : List (Given S)) → joined_all (fold_key tuple_key) merges given.whole (map (λ g. g.whole) givens) ≡ (united_all combines given givens).whole
  whole-united_all given [] = refl
  whole-united_all given (more ∷ givens) = whole-united_all (united combines given more) givens

  -- parts that are all Empty give nothing
  nothing-given : {V : Type 0} (k start : ℕ) (shown : V → Shown) (listing : V → List (TupleEntry S)) (views : List V) (given : Given S) (givens : List (Given S)) → all_empty shown views ≡ true → ArePartsOf k start (map (λ v. shown_value tuple_key (shown v) (listing v)) views) givens → united_all combines given givens ≡ given
  nothing-given k start shown listing [] given [] e parts = refl
  nothing-given k start shown listing [] given (more ∷ givens) e parts = absurd parts
  nothing-given k start shown listing (v ∷ views) given [] e parts = absurd parts
  nothing-given k start shown listing (v ∷ views) given (more ∷ givens) e parts =
      let empty : (shown v).empty ≡ true = and_left _ _ e in
      let value : shown_value tuple_key (shown v) (listing v) ≡ Empty = ap (λ b. cond b Empty (NonEmpty (record { entries = map_of tuple_key (listing v); theta = (shown v).theta }))) empty in
      let part : IsPartOf k start Empty more = subst (λ u. IsPartOf k start u more) value parts.0 in
      let same : united combines given more ≡ given = united-nothing given more part.part.sample.all_below (part.none refl) in
      ap (λ g. united_all combines g givens) same ∙ nothing-given k start shown listing views given givens (and_right _ _ e) parts.1

  map-values : {V : Type 0} (f : V → Sketch (TupleEntry S)) (views : List V) → map (λ v. unmarked_value v) (map f views) ≡ map (λ v. unmarked_value (f v)) views
  map-values f [] = refl
  map-values f (v ∷ views) = ap (λ vs. unmarked_value (f v) ∷ vs) (map-values f views)

  -- a union that was given many parts more, at once
  pub union-given-all : {V P : Type 0} (lg_k k start : ℕ) (old new : Union (TupleEntry S) P) (shown : V → Shown) (listing : V → List (TupleEntry S)) (views : List V) (given : Given S) (givens : List (Given S)) → (all_empty shown views ≡ true → new ≡ old) →
      UnitesAllSummaries combines old new shown listing views → (all_empty shown views ≡ false → new ≡ record old { empty = false; content = new.content }) →
      IsUnionOf lg_k k start old given → ArePartsOf k start (map (λ v. shown_value tuple_key (shown v) (listing v)) views) givens → IsUnionOf lg_k k start new (united_all combines given givens)
  union-given-all {V} {P} lg_k k start old new shown listing views given givens skipped united_is made is parts =
      let kept = settings_kept old new (all_empty shown views) skipped made in
      let values : List (Sketch (TupleEntry S)) = map (λ (v : V). shown_value tuple_key (shown v) (listing v)) views in
      let laws = samples-of k start values givens parts in
      let is_united : unmarked_value (union_value tuple_key new) ≡ unite (fold_key tuple_key) merges (2 ^ old.lg_k) old.start (unmarked_value (union_value tuple_key old) ∷ map (λ v. unmarked_value v) values) =
      united_is ∙ ap (λ vs. unite (fold_key tuple_key) merges (2 ^ old.lg_k) old.start (unmarked_value (union_value tuple_key old) ∷ vs)) (sym (map-values (λ (v : V). shown_value tuple_key (shown v) (listing v)) views)) in
      (elim (all_empty shown views) as (λ b. all_empty shown views ≡ b → IsUnionOf lg_k k start new (united_all combines given givens)) [
        | true ↦ λ e. rw (skipped e, nothing-given k start shown listing views given givens e parts) is
        | false ↦ λ e. record {
          of_map = subst (IsUnionOfMap (fold_key tuple_key) lg_k k start (unmarked_union new)) (whole-united_all given givens)
              (parts-given (fold_key tuple_key) merges keeps lg_k k start (unmarked_union old) (unmarked_union new) (map (λ v. unmarked_value v) values) given.whole (map (λ g. g.whole) givens) (in-folds old new (map (λ v. unmarked_value v) values) is_united) kept.0 kept.1 is.of_map laws.0 laws.1);
          none = λ none. absurd (let filled : new.empty ≡ false = ap (λ u. u.empty) (made e) in let bare : new.empty ≡ true = empty-union tuple_key new none in cc);
        }
      ]) refl

  -- a union that was given a sample more
  pub samples-given : {P : Type 0} (old new : Union (TupleEntry S) P) (s : Shown) (listing : List (TupleEntry S)) (given more : Given S) → (s.empty ≡ true → new ≡ old) → UnitesSummaries combines old new s listing → IsUnionOfSamples old given → IsSampleOf (shown_value tuple_key s listing) more → IsUnionOfSamples new (united combines given more)
  samples-given old new s listing given more skipped united_is is sample =
      (elim s.empty as (λ b. s.empty ≡ b → IsSampleOf (cond b Empty (NonEmpty (record { entries = map_of tuple_key listing; theta = s.theta }))) more → IsUnionOfSamples new (united combines given more)) [
        | true ↦ λ e p.
            let same : given.whole ≡ joined (fold_key tuple_key) merges given.whole more.whole = sym (ap (λ w. joined (fold_key tuple_key) merges given.whole w) p.sample.all_below) in
            rw (skipped e) (record { sampled = record { sample = subst (IsSample (fold_key tuple_key) (unmarked_value (union_value tuple_key old))) same is.sampled.sample } })
        | false ↦ λ e p. record {
          sampled = record {
            sample = subst (λ value. IsSample (fold_key tuple_key) value (joined (fold_key tuple_key) merges given.whole more.whole)) (union-unmarked tuple_key new)
                (sample-given (fold_key tuple_key) merges keeps (unmarked_union old) (unmarked_union new) (unmarked_value (shown_value tuple_key s listing)) given.whole more.whole (in-folds old new (unmarked_value (shown_value tuple_key s listing) ∷ []) (united_is e))
                (subst (λ value. IsSample (fold_key tuple_key) value given.whole) (sym (union-unmarked tuple_key old)) is.sampled.sample) sample.sample);
          };
        }
      ]) refl sample

module _ {S P : Type 0} where
  pub union-made : (lg_k k start from hash : ℕ) (policy : P) (u : Union (TupleEntry S) P) → k ≤ 2 ^ lg_k → start ≤ from → u ≡ empty_union lg_k from hash policy → IsUnionOf lg_k k start u nothing
  union-made lg_k k start from hash policy u enough starts made = record { of_map = new-union (fold_key tuple_key) lg_k k start from hash policy (unmarked_union u) enough starts (ap unmarked_union made); none = λ _. refl }

  pub union-lowered : (lg_k k start lg less : ℕ) (old new : Union (TupleEntry S) P) (given : Given S) → new ≡ lowered tuple_key lg old → union_value tuple_key new ≡ cut_value tuple_key (2 ^ lg) (union_value tuple_key old) → less ≤ k → less ≤ 2 ^ lg → IsUnionOf lg_k k start old given → IsUnionOf lg less start new given
  union-lowered lg_k k start lg less old new given after value fewer enough is =
      let in_folds : union_value (fold_key tuple_key) (unmarked_union new) ≡ cut_value (fold_key tuple_key) (2 ^ lg) (union_value (fold_key tuple_key) (unmarked_union old)) =
      union-unmarked tuple_key new ∙ ap unmarked_value value ∙ sym (unmarked-cut_value tuple_key (2 ^ lg) (union_value tuple_key old)) ∙ ap (cut_value (fold_key tuple_key) (2 ^ lg)) (sym (union-unmarked tuple_key old)) in
      record {
        of_map = lowered-given (fold_key tuple_key) lg_k k start lg less (unmarked_union old) (unmarked_union new) given.whole (ap unmarked_union after ∙ unmarked-lowered tuple_key lg old) in_folds fewer enough is.of_map;
        none = λ none. is.none (cut-empty tuple_key (2 ^ lg) (union_value tuple_key old) (sym value ∙ none));
      }

  pub fewer-of : (lg_k k more start : ℕ) (u : Union (TupleEntry S) P) (given : Given S) → k ≤ more → IsUnionOf lg_k more start u given → IsUnionOf lg_k k start u given
  fewer-of lg_k k more start u given le is = record { of_map = fewer-union (fold_key tuple_key) lg_k more start k (unmarked_union u) given.whole le is.of_map; none = is.none }

  -- the same of samples
  pub samples-made : (lg_k from hash : ℕ) (policy : P) (u : Union (TupleEntry S) P) → u ≡ empty_union lg_k from hash policy → IsUnionOfSamples u nothing
  samples-made lg_k from hash policy u made = record { sampled = record { sample = rw made (record { ascending = ascending-nil (fold_key tuple_key); carried = tt; all_below = refl }) } }

  pub samples-lowered : (lg : ℕ) (old new : Union (TupleEntry S) P) (given : Given S) → union_value tuple_key new ≡ cut_value tuple_key (2 ^ lg) (union_value tuple_key old) → IsUnionOfSamples old given → IsUnionOfSamples new given
  samples-lowered lg old new given value is =
      let in_folds : cut_value (fold_key tuple_key) (2 ^ lg) (unmarked_value (union_value tuple_key old)) ≡ unmarked_value (union_value tuple_key new) = unmarked-cut_value tuple_key (2 ^ lg) (union_value tuple_key old) ∙ ap unmarked_value (sym value) in
      record { sampled = record { sample = subst (λ v. IsSample (fold_key tuple_key) v given.whole) in_folds (cut-sample (fold_key tuple_key) (2 ^ lg) (unmarked_value (union_value tuple_key old)) given.whole is.sampled.sample) } }

  -- an error but those of memory and of the policy leaves a union unchanged
  pub unchanged-union : (refuses : TupleEntry S → TupleEntry S → Bool) (old new : Union (TupleEntry S) P) (s : Shown) (listing : List (TupleEntry S)) (e : ErrorKind) → e ≢ OutOfMemory → e ≢ Policy → IsUpdateError tuple_key refuses old new s listing e → new ≡ old
  unchanged-union refuses old new s listing e memory policy =
      elim (update_refusal old s) as (λ o. MatchOption o (IsBroken tuple_key refuses old new s listing e) (λ kind. (e ≡ kind) × (new ≡ old)) → new ≡ old) [
        | None ↦ λ broken. elim broken.why [ inl out ↦ absurd (memory out) | inr refused ↦ absurd (policy refused.0) ]
        | Some kind ↦ λ refused. refused.1
      ]

  -- the value of a union is a part of what it was given, and has no more than its nominal entries
  pub union-part : (lg_k k start : ℕ) (u : Union (TupleEntry S) P) (given : Given S) → IsUnionOf lg_k k start u given → IsPartOf k start (union_value tuple_key u) given
  union-part lg_k k start u given is = record { part = subst (λ value. IsPart (fold_key tuple_key) k start value given.whole) (union-unmarked tuple_key u) is.of_map.part; none = is.none }

  pub union-no_more : (lg_k k start : ℕ) (u : Union (TupleEntry S) P) (given : Given S) → IsUnionOf lg_k k start u given → cut_value (fold_key tuple_key) (2 ^ lg_k) (unmarked_value (union_value tuple_key u)) ≡ unmarked_value (union_value tuple_key u)
  union-no_more lg_k k start u given is = subst (λ value. cut_value (fold_key tuple_key) (2 ^ lg_k) value ≡ value) (union-unmarked tuple_key u) is.of_map.no_more

module _ {S : Type 0} where
  -- a result of a part is a part
  pub answer-part : (k start h : ℕ) (requested : Bool) (value : Sketch (TupleEntry S)) (s : Compact (TupleEntry S)) (given : Given S) → IsAnswer tuple_key value h requested s → IsPartOf k start value given → IsPartOf k start (value_of s) given
  answer-part k start h requested value s given answer is = subst (λ v. IsPartOf k start v given) (sym (answer-value tuple_key value h requested s answer)) is

  -- the result of a part that isn't Empty and has no more than k entries has the k folds of least hash
  pub answer-least : (k start h : ℕ) (requested : Bool) (value : Sketch (TupleEntry S)) (s : Compact (TupleEntry S)) (given : Given S) → IsAnswer tuple_key value h requested s → cut_value (fold_key tuple_key) k (unmarked_value value) ≡ unmarked_value value → IsPartOf k start value given → given.any ≡ true → unmarked_value (value_of s) ≡ NonEmpty (least_folds k given start)
  answer-least k start h requested value s given answer same is some =
      ap unmarked_value (answer-value tuple_key value h requested s answer)
      ∙ least-part (fold_key tuple_key) k start (unmarked_value value) given.whole same is.part (λ none. let unused : given.any ≡ false = is.none (unmarked-empty value none) in (cc))

  unmarked-retained : (value : Sketch (TupleEntry S)) → unmarked (retained_in tuple_key value) ≡ retained_in (fold_key tuple_key) (unmarked_value value)
  unmarked-retained Empty = refl
  unmarked-retained (NonEmpty v) = refl

  -- and if the start is the greatest, an ordered result has them also if it is Empty
  pub answer-kmin : (k h : ℕ) (requested : Bool) (value : Sketch (TupleEntry S)) (s : Compact (TupleEntry S)) (given : Given S) → IsAnswer tuple_key value h requested s → requested ≡ true → cut_value (fold_key tuple_key) k (unmarked_value value) ≡ unmarked_value value → IsPartOf k MAX_THETA value given → unmarked (retained_of s) ≡ least_folds k given MAX_THETA
  answer-kmin k h requested value s given answer ordered same is =
      ap unmarked (answer-retained tuple_key value h requested s answer ordered) ∙ unmarked-retained value ∙ kmin-part (fold_key tuple_key) k (unmarked_value value) given.whole same is.part

  -- a result of a sample is a sample; an ordered one lists it
  pub answer-sample : (h : ℕ) (requested : Bool) (value : Sketch (TupleEntry S)) (s : Compact (TupleEntry S)) (given : Given S) → IsAnswer tuple_key value h requested s → IsSampleOf value given → IsSampleOf (value_of s) given
  answer-sample h requested value s given answer is = subst (λ v. IsSampleOf v given) (sym (answer-value tuple_key value h requested s answer)) is

  pub answer-below : (h : ℕ) (requested : Bool) (value : Sketch (TupleEntry S)) (s : Compact (TupleEntry S)) (given : Given S) → IsAnswer tuple_key value h requested s → requested ≡ true → IsSampleOf value given → map Value s.entries ≡ below (fold_key tuple_key) given.whole s.theta
  answer-below h requested value s given answer ordered is =
      let retained : unmarked (retained_of s) ≡ retained_in (fold_key tuple_key) (unmarked_value value) = ap unmarked (answer-retained tuple_key value h requested s answer ordered) ∙ unmarked-retained value in
      ap (λ (r : Retained (Fold (TupleEntry S))). r.entries) retained
      ∙ retained-below (fold_key tuple_key) (unmarked_value value) given.whole is.sample
      ∙ ap (λ (r : Retained (Fold (TupleEntry S))). below (fold_key tuple_key) given.whole r.theta) (sym retained)

  -- a part is a sample, and a part for some k is one for fewer
  pub sample-of : (k start : ℕ) (value : Sketch (TupleEntry S)) (given : Given S) → IsPartOf k start value given → IsSampleOf value given
  sample-of k start value given is = record { sample = is.part.sample }

  pub fewer : (k more start : ℕ) (value : Sketch (TupleEntry S)) (given : Given S) → k ≤ more → IsPartOf more start value given → IsPartOf k start value given
  fewer k more start value given le is = record { part = fewer-part (fold_key tuple_key) k more start (unmarked_value value) given.whole le is.part; none = is.none }

-- what one more sketch shares with others
module _ {S : Type 0} (combines : S → S → Option S) where
  shared_more : (given : Given S) (givens : List (Given S)) (more : Given S) → shared_by_all combines given (givens ++ more ∷ []) ≡ shared combines (shared_by_all combines given givens) more
  shared_more given [] more = refl
  shared_more given (other ∷ givens) more = shared_more (shared combines given other) givens more

  some_same : {X : Type 0} {x y : X} → Some x ≡ Some y → x ≡ y
  some_same e = cc

  met : (new old : Option (Sketch (TupleEntry S))) (v : Sketch (Fold (TupleEntry S))) (givens : List (Given S)) (more : Given S) →
      option_map unmarked_value new ≡ Some (meet_next (fold_key tuple_key) (merges combines) (option_map unmarked_value old) v) →
      SamplesShared combines old givens → IsSample (fold_key tuple_key) v more.whole → SamplesShared combines new (givens ++ more ∷ [])
  met None old v givens more after is sample = absurd (cc)
  met (Some n) None v givens more after none sample =
      let same : v ≡ unmarked_value n = sym (some_same after ∙ meet-one (fold_key tuple_key) (merges combines) v) in
      rw none ((λ e. absurd (cc)), record { sample = subst (λ u. IsSample (fold_key tuple_key) u more.whole) same sample })
  met (Some n) (Some o) v [] more after some sample = absurd (some.0 refl)
  met (Some n) (Some o) v (given ∷ givens) more after some sample =
      let all : Given S = shared_by_all combines given givens in
      let meets : IsSample (fold_key tuple_key) (meet (fold_key tuple_key) (merges combines) (unmarked_value o ∷ v ∷ [])) (shared combines all more).whole =
      meet_samples (fold_key tuple_key) (merges combines) (keeps combines) (unmarked_value o) (v ∷ []) all.whole (more.whole ∷ []) some.1.sample (sample, tt) in
      let is_met : IsSampleOf n (shared combines all more) = record { sample = subst (λ u. IsSample (fold_key tuple_key) u (shared combines all more).whole) (sym (some_same after)) meets } in
      ((λ e. absurd (cc)), subst (λ g. IsSampleOf n g) (sym (shared_more given givens more)) is_met)

  pub intersection-made : {P : Type 0} (i : Intersection (TupleEntry S) P) → i.result ≡ None → IsIntersectionOf combines i []
  intersection-made i none = record { shared = rw none refl }

  pub intersection-given : {P : Type 0} (old new : Intersection (TupleEntry S) P) (s : Shown) (listing : List (TupleEntry S)) (givens : List (Given S)) (more : Given S) →
      IsMet tuple_key (combined combines) (combine_refused combines) old new s listing → IsIntersectionOf combines old givens → IsSampleOf (shown_value tuple_key s listing) more → IsIntersectionOf combines new (givens ++ more ∷ [])
  intersection-given old new s listing givens more after is sample = record { shared = met new.result old.result (unmarked_value (shown_value tuple_key s listing)) givens more after is.shared sample.sample }

  -- the result of an intersection
  pub shared-found : (o : Option (Sketch (TupleEntry S))) (h : ℕ) (requested : Bool) (r : Option (Compact (TupleEntry S))) (givens : List (Given S)) → IsAnswerIfAny tuple_key o h requested r → SamplesShared combines o givens → givens ≢ [] → IsSome r
  shared-found None h requested None givens answer is some = absurd (some is)
  shared-found None h requested (Some s) givens answer is some = absurd answer
  shared-found (Some v) h requested None givens answer is some = absurd answer
  shared-found (Some v) h requested (Some s) givens answer is some = refl

  pub shared-sample : (o : Option (Sketch (TupleEntry S))) (h : ℕ) (requested : Bool) (s : Compact (TupleEntry S)) (givens : List (Given S)) → IsAnswerIfAny tuple_key o h requested (Some s) → SamplesShared combines o givens → IsSampleOf (value_of s) (shared_by combines givens)
  shared-sample None h requested s givens answer is = absurd answer
  shared-sample (Some v) h requested s givens answer is = answer-sample h requested v s (shared_by combines givens) answer is.1

  pub shared-below : (o : Option (Sketch (TupleEntry S))) (h : ℕ) (requested : Bool) (s : Compact (TupleEntry S)) (givens : List (Given S)) → IsAnswerIfAny tuple_key o h requested (Some s) → requested ≡ true → SamplesShared combines o givens → map Value s.entries ≡ below (fold_key tuple_key) (shared_by combines givens).whole s.theta
  shared-below None h requested s givens answer ordered is = absurd answer
  shared-below (Some v) h requested s givens answer ordered is = answer-below h requested v s (shared_by combines givens) answer ordered is.1

-- the difference of samples samples what the other wasn't given
pub minus-sample : {S T : Type 0} (a : Sketch (TupleEntry S)) (b : Sketch (TupleEntry T)) (given : Given S) (others : Given T) → IsSampleOf a given → IsSampleOf b others → IsSampleOf (minus tuple_key hash_key a (keys tuple_key b)) (without given others)
minus-sample a b given others sa sb = record {
  sample = subst (λ value. IsSample (fold_key tuple_key) value (without given others).whole) (unmarked-minus tuple_key tuple_key a b) (minus_samples (fold_key tuple_key) (fold_key tuple_key) (unmarked_value a) (unmarked_value b) given.whole others.whole sa.sample sb.sample);
}

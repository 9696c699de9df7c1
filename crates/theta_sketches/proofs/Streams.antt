-- Sketches, unions, intersections and differences against streams of hashes.
use Rattle.std.proofs.Common.{◌≡◌, ℕ, ◌≤◌, ◌≢◌, ◌^◌, Bool, true, false, cond, is_some, is_none, IsSome, List, [], ◌∷◌, ◌++◌, map, length, Option, Some, None, inl, inr, refl, sym, ap, ◌∙◌, subst, arith, append-nil}
use Rattle.std.specs.Prelude.{◌&&◌, ◌==◌, not, MatchOption}
use Rattle.std.specs.List.{concat}
use Rattle.std.specs.Option.{option_map_or}
use Rattle.std.proofs.lemmas.List.{append_assoc}
use Rattle.std.proofs.lemmas.Bool.Decides.{nat_tests}
use Rattle.sketch_base.specs.Seed.{seed_hash}
use Rattle.sketch_base.specs.declared.error.ErrorKind.{ErrorKind}
use Rattle.sketch_base.specs.declared.error.ErrorKind.TheVariants.{OutOfMemory}
use Rattle.core_laws.specs.declared.TheConstants.{MAX_THETA}
use Rattle.core_laws.specs.Cuts.{Retained}
use Rattle.core_laws.specs.Entries.{is_carried, hash_key, hash_step, first_hash}
use Rattle.core_laws.specs.Insertion.{whole_upsert, after_upsert, after_upserts}
use Rattle.core_laws.specs.Lawful.{IsWithin}
use Rattle.core_laws.specs.Leaf.{kmin, hash_step_of}
use Rattle.core_laws.proofs.insertions.Leaves.{hash_keeps}
use Rattle.core_laws.specs.Maps.{entry_at, with_entry, map_of, below}
use Rattle.core_laws.specs.Operators.{joined, joined_all, unite, common, lacking, both, meet, meet_next, minus}
use Rattle.core_laws.specs.Parts.{StopsAt}
use Rattle.core_laws.specs.Samples.{IsSample, AreSamples, AreLawful}
use Rattle.core_laws.specs.Shown.{Shown, shown_value}
use Rattle.core_laws.specs.Values.{Sketch, Empty, NonEmpty, cut_value}
use Rattle.core_compact.specs.CompactState.{Compact, IsAnswer}
use Rattle.core_operators.specs.Intersection.{Intersection, IsAnswerIfAny}
use Rattle.core_operators.specs.Union.{Union, empty_union, union_value, lowered, all_empty, UnitesHashes, IsBroken, IsUpdateError, update_refusal}
use Rattle.core_state.specs.Updatable.{Updatable, sketch_value, StopsUpdates}
use Rattle.core_table.specs.HashTable.{empty_table, after_hashes, after_reset, trimmed_table}
use Rattle.core_laws.proofs.maps.Ascending.{ascending-nil, ascending-filter}
use Rattle.core_laws.proofs.maps.LookUps.{entry_at-append, same_map}
use Rattle.core_laws.proofs.maps.MapsOfLists.{ascending-apart}
use Rattle.core_laws.proofs.cuts.WithinWholeMaps.{found_key}
use Rattle.core_laws.proofs.operators.JoinedMaps.{either, ascending-joined, entry_at-joined}
use Rattle.core_laws.proofs.operators.CommonMaps.{ascending-common, entry_at-common}
use Rattle.core_laws.proofs.operators.Samples.{meet_samples, minus_samples}
use Rattle.core_compact.proofs.Answered.{answer-value, answer-seed}
use Rattle.theta_sketches.specs.Streams.{set_of, set_below, has, shared_hashes, lacking_hashes, shared_by_all, shared_by, value_of, retained_of, IsSampleOf, IsPartOf, IsSketchOf, IsTrimmedOf, IsUnionOf, IsUnionOfSamples, ArePartsOf, SamplesShared, IsIntersectionOf, GivesMore, GivesNothing}
use Rattle.core_streams.specs.WholeMaps.{IsUnionOfMap}
use Rattle.core_streams.proofs.HashSets.{at-filter, at-set_of, ascending-set_of, carried-set_of, none-set_of}
use Rattle.core_streams.proofs.WholeMaps.{and_left, and_right, made_again, new-sketch, copy-given, reset-given, trimmed-given, trimmed-again, part-of, fewer-part, least-part, kmin-part, answer-retained, meet-one, value-empty, empty-value, empty-union, cut-empty, settings_kept, within-add, cut-sample, new-union, lowered-given, fewer-union, parts-given, sample-given}

-- the sets of two streams, joined, are the set of both
either_cond : (b : Bool) (o p : Option ℕ) → either first_hash (cond b o None) (cond b p None) ≡ cond b (option_map_or Some o p) None
either_cond true None None = refl
either_cond true (Some x) None = refl
either_cond true None (Some y) = refl
either_cond true (Some x) (Some y) = refl
either_cond false o p = refl

pub sets_joined : (xs ys : List ℕ) → joined hash_key first_hash (set_of xs) (set_of ys) ≡ set_of (xs ++ ys)
sets_joined xs ys =
    same_map hash_key _ _ (ascending-joined hash_key first_hash (λ x y same. same) (set_of ys) (set_of xs) (ascending-set_of xs)) (ascending-set_of (xs ++ ys))
    (λ q.
    entry_at-joined hash_key first_hash (λ x y same. same) (set_of ys) (set_of xs) q (ascending-apart hash_key (set_of ys) (ascending-set_of ys))
    ∙ ap (λ o. either first_hash o (entry_at hash_key (set_of ys) q)) (at-set_of xs q)
    ∙ ap (λ p. either first_hash (cond (is_carried q) (entry_at hash_key xs q) None) p) (at-set_of ys q)
    ∙ either_cond (is_carried q) (entry_at hash_key xs q) (entry_at hash_key ys q)
    ∙ ap (λ o. cond (is_carried q) o None) (sym (entry_at-append hash_key xs ys q))
    ∙ sym (at-set_of (xs ++ ys) q))

pub sets_joined_all : (hashes : List ℕ) (streams : List (List ℕ)) → joined_all hash_key first_hash (set_of hashes) (map set_of streams) ≡ set_of (hashes ++ concat streams)
sets_joined_all hashes [] = ap set_of (sym (append-nil hashes))
sets_joined_all hashes (more ∷ streams) =
    ap (λ w. joined_all hash_key first_hash w (map set_of streams)) (sets_joined hashes more)
    ∙ sets_joined_all (hashes ++ more) streams
    ∙ ap set_of (append_assoc hashes more (concat streams))

-- what two sets share, and what one lacks
both_cond : (b : Bool) (o p : Option ℕ) → both first_hash (cond b o None) (cond b p None) ≡ cond b (cond (is_some p) o None) None
both_cond true None None = refl
both_cond true (Some x) None = refl
both_cond true None (Some y) = refl
both_cond true (Some x) (Some y) = refl
both_cond false o p = refl

pub sets_shared : (xs ys : List ℕ) → common hash_key first_hash (set_of xs) (set_of ys) ≡ set_of (shared_hashes xs ys)
sets_shared xs ys =
    same_map hash_key _ _ (ascending-common hash_key first_hash (λ x y same. same) (set_of xs) (set_of ys) (ascending-set_of xs)) (ascending-set_of (shared_hashes xs ys))
    (λ q.
    entry_at-common hash_key first_hash (λ x y same. same) (set_of xs) (set_of ys) q
    ∙ ap (λ o. both first_hash o (entry_at hash_key (set_of ys) q)) (at-set_of xs q)
    ∙ ap (λ p. both first_hash (cond (is_carried q) (entry_at hash_key xs q) None) p) (at-set_of ys q)
    ∙ both_cond (is_carried q) (entry_at hash_key xs q) (entry_at hash_key ys q)
    ∙ ap (λ o. cond (is_carried q) o None) (sym (at-filter (λ h. has ys h) xs q))
    ∙ sym (at-set_of (shared_hashes xs ys) q))

lack_cond : (b : Bool) (o p : Option ℕ) → cond (is_none (cond b p None)) (cond b o None) None ≡ cond b (cond (not (is_some p)) o None) None
lack_cond true o None = refl
lack_cond true o (Some y) = refl
lack_cond false o p = refl

pub sets_lack : (xs ys : List ℕ) → lacking hash_key hash_key (set_of xs) (set_of ys) ≡ set_of (lacking_hashes xs ys)
sets_lack xs ys =
    same_map hash_key _ _ (ascending-filter hash_key (λ h. is_none (entry_at hash_key (set_of ys) h)) (set_of xs) (ascending-set_of xs)) (ascending-set_of (lacking_hashes xs ys))
    (λ q.
    at-filter (λ h. is_none (entry_at hash_key (set_of ys) h)) (set_of xs) q
    ∙ ap (λ p. cond (is_none p) (entry_at hash_key (set_of xs) q) None) (at-set_of ys q)
    ∙ ap (λ o. cond (is_none (cond (is_carried q) (entry_at hash_key ys q) None)) o None) (at-set_of xs q)
    ∙ lack_cond (is_carried q) (entry_at hash_key xs q) (entry_at hash_key ys q)
    ∙ ap (λ o. cond (is_carried q) o None) (sym (at-filter (λ h. not (has ys h)) xs q))
    ∙ sym (at-set_of (lacking_hashes xs ys) q))

-- streams that have the same hashes have one set
has_entry : (xs : List ℕ) (q : ℕ) → entry_at hash_key xs q ≡ cond (has xs q) (Some q) None
has_entry xs q =
    (elim (entry_at hash_key xs q) as (λ o. entry_at hash_key xs q ≡ o → o ≡ cond (is_some o) (Some q) None) [
      | Some x ↦ λ found. ap Some (found_key hash_key xs q x found)
      | None ↦ λ found. refl
    ]) refl

pub same_sets : (xs ys : List ℕ) → ((h : ℕ) → has xs h ≡ has ys h) → set_of xs ≡ set_of ys
same_sets xs ys same =
    same_map hash_key _ _ (ascending-set_of xs) (ascending-set_of ys)
    (λ q.
    at-set_of xs q
    ∙ ap (λ o. cond (is_carried q) o None) (has_entry xs q ∙ ap (λ b. cond b (Some q) None) (same q) ∙ sym (has_entry ys q))
    ∙ sym (at-set_of ys q))

-- a set of hashes with one more, if an entry may have it
abbrev with_hash : ℕ → List ℕ → List ℕ
with_hash h whole = cond (is_carried h) (whole_upsert hash_key h (hash_step h) whole) whole

upsert-hash : (h : ℕ) (w : List ℕ) → whole_upsert hash_key h (hash_step h) w ≡ joined hash_key first_hash w (h ∷ [])
upsert-hash h w =
    elim (entry_at hash_key w h) as (λ o. option_map_or (λ x. with_entry hash_key w x) o (with_entry hash_key w h) ≡ with_entry hash_key w (option_map_or (λ x. first_hash x h) o h)) [
      | Some x ↦ refl
      | None ↦ refl
    ]

one_more : (hs : List ℕ) (h : ℕ) → with_hash h (set_of hs) ≡ set_of (hs ++ h ∷ [])
unfolding set_of
one_more hs h =
    elim (is_carried h) as (λ b. cond b (whole_upsert hash_key h (hash_step h) (set_of hs)) (set_of hs) ≡ joined hash_key first_hash (set_of hs) (map_of hash_key (cond b (h ∷ []) []))) [
      | true ↦ upsert-hash h (set_of hs)
      | false ↦ refl
    ]
    ∙ sets_joined hs (h ∷ [])

-- one hash more, and many in turn
within-hash : (k start h : ℕ) (v : Retained ℕ) (w : List ℕ) → start ≤ MAX_THETA → IsWithin hash_key k start v w → IsWithin hash_key k start (after_upsert hash_key k h (hash_step h) v) (with_hash h w)
within-hash k start h v w high within = within-add hash_key (hash_step_of {V = Unit {0}}) hash_keeps k start h tt v w high within

within-hashes : (k start : ℕ) (hs before : List ℕ) (v : Retained ℕ) → start ≤ MAX_THETA → IsWithin hash_key k start v (set_of before) → IsWithin hash_key k start (after_upserts hash_key k hash_step hs v) (set_of (before ++ hs))
within-hashes k start [] before v high within = rw (append-nil before) within
within-hashes k start (h ∷ hs) before v high within =
    let one : IsWithin hash_key k start (after_upsert hash_key k h (hash_step h) v) (set_of (before ++ h ∷ [])) = subst (IsWithin hash_key k start (after_upsert hash_key k h (hash_step h) v)) (one_more before h) (within-hash k start h v (set_of before) high within) in
    subst (λ hashes. IsWithin hash_key k start (after_upserts hash_key k hash_step hs (after_upsert hash_key k h (hash_step h) v)) (set_of hashes)) (append_assoc before (h ∷ []) hs)
    (within-hashes k start hs (before ++ h ∷ []) (after_upsert hash_key k h (hash_step h) v) high one)

module _ (lg_k start seed : ℕ) where
  -- a new sketch was given nothing, and so was one after a reset
  pub sketch-made : (s : Updatable ℕ) → start ≤ MAX_THETA → s.map ≡ empty_table lg_k start seed → IsSketchOf lg_k start seed s []
  sketch-made s high made = record { of_map = rw none-set_of (new-sketch hash_key lg_k start seed s high made); none = λ _. refl }

  pub sketch-reset : (old new : Updatable ℕ) (hashes : List ℕ) → new.map ≡ after_reset old.map → IsSketchOf lg_k start seed old hashes → IsSketchOf lg_k start seed new []
  sketch-reset old new hashes after is = record { of_map = rw none-set_of (reset-given hash_key lg_k start seed old new (set_of hashes) after is.of_map); none = λ _. refl }

  -- a copy was given the same
  pub sketch-copied : (old new : Updatable ℕ) (hashes : List ℕ) → new.empty ≡ old.empty → new.map ≡ old.map → IsSketchOf lg_k start seed old hashes → IsSketchOf lg_k start seed new hashes
  sketch-copied old new hashes same copied is = record {
    of_map = copy-given hash_key lg_k start seed old new (set_of hashes) same copied is.of_map;
    none = λ e. is.none (value-empty hash_key old (sym same ∙ empty-value hash_key new e));
  }

  -- a trim keeps what a sketch was given, and leaves no more than its nominal entries
  pub sketch-trimmed : (old new : Updatable ℕ) (hashes : List ℕ) → new.empty ≡ old.empty → new.map ≡ trimmed_table hash_key old.map → IsSketchOf lg_k start seed old hashes → IsTrimmedOf lg_k start seed new hashes
  sketch-trimmed old new hashes same after is = record {
    sketch = record {
      of_map = trimmed-given hash_key lg_k start seed old new (set_of hashes) same after is.of_map;
      none = λ e. is.none (value-empty hash_key old (sym same ∙ empty-value hash_key new e));
    };
    no_more = trimmed-again hash_key lg_k start seed old new (set_of hashes) after is.of_map;
  }

  -- a sketch that was given more hashes, in turn
  pub hashes-given : (more : List ℕ) (old new : Updatable ℕ) (hashes : List ℕ) → (new.empty ≡ true → (old.empty ≡ true) × (more ≡ [])) → new.map ≡ after_hashes more old.map → IsSketchOf lg_k start seed old hashes → IsSketchOf lg_k start seed new (hashes ++ more)
  hashes-given more old new hashes empty after is =
      let m = is.of_map in
      let lg : old.map.lg_nom ≡ lg_k = ap (λ t. t.lg_nom) m.made_with in
      let kept : new.map.kept ≡ after_upserts hash_key (2 ^ lg_k) hash_step more old.map.kept = ap (λ t. t.kept) after ∙ ap (λ (n : ℕ). after_upserts hash_key (2 ^ n) hash_step more old.map.kept) lg in
      let none : new.empty ≡ true → hashes ++ more ≡ [] = λ e. rw ((empty e).1, append-nil hashes) (is.none (value-empty hash_key old (empty e).0)) in
      record {
        of_map = record {
          made_with = made_again lg_k start seed old.map new.map m.made_with (after ∙ ap (λ v. record old.map { kept = v }) (sym (ap (λ t. t.kept) after)));
          start_high = m.start_high;
          carried = carried-set_of (hashes ++ more);
          kept = rw kept (within-hashes (2 ^ lg_k) start more hashes old.map.kept m.start_high m.kept);
          none = λ e. ap set_of (none e) ∙ none-set_of;
        };
        none = λ e. none (empty-value hash_key new e);
      }

  -- the value of a sketch is a part of its stream
  pub sketch-part : (s : Updatable ℕ) (hashes : List ℕ) → IsSketchOf lg_k start seed s hashes → IsPartOf (2 ^ lg_k) start (sketch_value s) hashes
  sketch-part s hashes is = record { part = part-of hash_key lg_k start seed s (set_of hashes) is.of_map; none = is.none }

-- hashes were inserted, or inserting them stopped at one
no_hashes : (b : Bool) (hs : List ℕ) → (b && (length hs == 0)) ≡ true → (b ≡ true) × (hs ≡ [])
no_hashes true [] e = (refl, refl)
no_hashes true (h ∷ hs) e = absurd (grind (arith, nat_tests))
no_hashes false hs e = absurd (cc)

pub gives-hashes : (more : List ℕ) (old new : Updatable ℕ) → new.map ≡ after_hashes more old.map → new.empty ≡ (old.empty && (length more == 0)) → GivesMore old new (λ _. more)
gives-hashes more old new after empty lg_k start seed hashes is = hashes-given lg_k start seed more old new hashes (λ e. no_hashes old.empty more (sym empty ∙ e)) after is

pub stops-given : (hashes : List ℕ) (old new : Updatable ℕ) → StopsUpdates hashes old new → StopsAt hashes (λ front _. GivesMore old new (λ _. front))
stops-given hashes old new stops = (stops.0, stops.1, stops.2, stops.3, gives-hashes stops.0 old new stops.4.0 stops.4.1)

pub gives-hash : (h : ℕ) (old new : Updatable ℕ) → new.empty ≡ false → new.map ≡ after_hashes (h ∷ []) old.map → GivesMore old new (λ _. h ∷ [])
gives-hash h old new nonempty after lg_k start seed hashes is = hashes-given lg_k start seed (h ∷ []) old new hashes (λ e. absurd (cc)) after is

pub gives-nothing : (old new : Updatable ℕ) → new.empty ≡ old.empty → new.map ≡ old.map → GivesNothing old new
gives-nothing old new same copied lg_k start seed hashes is = sketch-copied lg_k start seed old new hashes same copied is

-- the seed of a sketch, and its hash
pub seed-is : (lg_k start seed : ℕ) (s : Updatable ℕ) (hashes : List ℕ) → IsSketchOf lg_k start seed s hashes → s.map.seed ≡ seed
seed-is lg_k start seed s hashes is = ap (λ t. t.seed) is.of_map.made_with

pub seeded : (lg_k start seed : ℕ) (s : Updatable ℕ) (hashes : List ℕ) (requested : Bool) (r : Compact ℕ) → IsAnswer hash_key (sketch_value s) s.map.seed_hash requested r → IsSketchOf lg_k start seed s hashes → r.seed_hash ≡ seed_hash seed
seeded lg_k start seed s hashes requested r answer is = answer-seed hash_key (sketch_value s) s.map.seed_hash requested r answer ∙ ap (λ t. t.seed_hash) is.of_map.made_with

-- parts as samples whose thetas are lawful
samples-of : (k start : ℕ) (values : List (Sketch ℕ)) (streams : List (List ℕ)) → ArePartsOf k start values streams → AreSamples hash_key values (map set_of streams) × AreLawful hash_key k start values (map set_of streams)
samples-of k start [] [] parts = (tt, tt)
samples-of k start [] (hashes ∷ streams) parts = absurd parts
samples-of k start (value ∷ values) [] parts = absurd parts
samples-of k start (value ∷ values) (hashes ∷ streams) parts = let rest = samples-of k start values streams parts.1 in ((parts.0.part.sample, rest.0), (parts.0.part.lawful, rest.1))

-- parts that are all Empty have no hashes
none-given : {V : Type 0} (k start : ℕ) (shown : V → Shown) (listing : V → List ℕ) (views : List V) (streams : List (List ℕ)) → all_empty shown views ≡ true → ArePartsOf k start (map (λ v. shown_value hash_key (shown v) (listing v)) views) streams → concat streams ≡ []
none-given k start shown listing [] [] e parts = refl
none-given k start shown listing [] (hashes ∷ streams) e parts = absurd parts
none-given k start shown listing (v ∷ views) [] e parts = absurd parts
none-given k start shown listing (v ∷ views) (hashes ∷ streams) e parts =
    let empty : (shown v).empty ≡ true = and_left _ _ e in
    let none : hashes ≡ [] = parts.0.none (ap (λ b. cond b Empty (NonEmpty (record { entries = map_of hash_key (listing v); theta = (shown v).theta }))) empty) in
    rw none (none-given k start shown listing views streams (and_right _ _ e) parts.1)

module _ {P : Type 0} where
  pub union-made : (lg_k k start from hash : ℕ) (policy : P) (u : Union ℕ P) → k ≤ 2 ^ lg_k → start ≤ from → u ≡ empty_union lg_k from hash policy → IsUnionOf lg_k k start u []
  union-made lg_k k start from hash policy u enough starts made = record { of_map = rw none-set_of (new-union hash_key lg_k k start from hash policy u enough starts made); none = λ _. refl }

  -- a union that was given one part more
  pub union-given : (lg_k k start : ℕ) (old new : Union ℕ P) (s : Shown) (listing hashes more : List ℕ) → (s.empty ≡ true → new ≡ old) → UnitesHashes old new s listing → (s.empty ≡ false → new ≡ record old { empty = false; content = new.content }) →
      IsUnionOf lg_k k start old hashes → IsPartOf k start (shown_value hash_key s listing) more → IsUnionOf lg_k k start new (hashes ++ more)
  union-given lg_k k start old new s listing hashes more skipped united made is part =
      (elim s.empty as (λ b. s.empty ≡ b → IsPartOf k start (cond b Empty (NonEmpty (record { entries = map_of hash_key listing; theta = s.theta }))) more → IsUnionOf lg_k k start new (hashes ++ more)) [
        | true ↦ λ e p. rw (skipped e, p.none refl, append-nil hashes) is
        | false ↦ λ e p. record {
          of_map = subst (IsUnionOfMap hash_key lg_k k start new) (sets_joined hashes more)
              (parts-given hash_key first_hash (λ x y same. same) lg_k k start old new (shown_value hash_key s listing ∷ []) (set_of hashes) (set_of more ∷ []) (united e) (ap (λ u. u.lg_k) (made e)) (ap (λ u. u.start) (made e)) is.of_map (part.part.sample, tt) (part.part.lawful, tt));
          none = λ none. absurd (let filled : new.empty ≡ false = ap (λ u. u.empty) (made e) in let bare : new.empty ≡ true = empty-union hash_key new none in cc);
        }
      ]) refl part

  -- a union that was given many parts more, at once
  pub union-given-all : {V : Type 0} (lg_k k start : ℕ) (old new : Union ℕ P) (shown : V → Shown) (listing : V → List ℕ) (views : List V) (hashes : List ℕ) (streams : List (List ℕ)) → (all_empty shown views ≡ true → new ≡ old) →
      union_value hash_key new ≡ unite hash_key first_hash (2 ^ old.lg_k) old.start (union_value hash_key old ∷ map (λ v. shown_value hash_key (shown v) (listing v)) views) → (all_empty shown views ≡ false → new ≡ record old { empty = false; content = new.content }) →
      IsUnionOf lg_k k start old hashes → ArePartsOf k start (map (λ v. shown_value hash_key (shown v) (listing v)) views) streams → IsUnionOf lg_k k start new (hashes ++ concat streams)
  union-given-all {V} lg_k k start old new shown listing views hashes streams skipped united made is parts =
      let kept = settings_kept old new (all_empty shown views) skipped made in
      let values : List (Sketch ℕ) = map (λ (v : V). shown_value hash_key (shown v) (listing v)) views in
      let laws = samples-of k start values streams parts in
      record {
        of_map = subst (IsUnionOfMap hash_key lg_k k start new) (sets_joined_all hashes streams) (parts-given hash_key first_hash (λ x y same. same) lg_k k start old new values (set_of hashes) (map set_of streams) united kept.0 kept.1 is.of_map laws.0 laws.1);
        none = λ none.
            (elim (all_empty shown views) as (λ b. all_empty shown views ≡ b → hashes ++ concat streams ≡ []) [
              | true ↦ λ e. rw (none-given k start shown listing views streams e parts, append-nil hashes) (is.none (ap (λ u. union_value hash_key u) (sym (skipped e)) ∙ none))
              | false ↦ λ e. absurd (let filled : new.empty ≡ false = ap (λ u. u.empty) (made e) in let bare : new.empty ≡ true = empty-union hash_key new none in cc)
            ]) refl;
      }

  pub union-lowered : (lg_k k start lg less : ℕ) (old new : Union ℕ P) (hashes : List ℕ) → new ≡ lowered hash_key lg old → union_value hash_key new ≡ cut_value hash_key (2 ^ lg) (union_value hash_key old) → less ≤ k → less ≤ 2 ^ lg → IsUnionOf lg_k k start old hashes → IsUnionOf lg less start new hashes
  union-lowered lg_k k start lg less old new hashes after value fewer enough is = record {
    of_map = lowered-given hash_key lg_k k start lg less old new (set_of hashes) after value fewer enough is.of_map;
    none = λ none. is.none (cut-empty hash_key (2 ^ lg) (union_value hash_key old) (sym value ∙ none));
  }

  -- the same of samples
  pub samples-made : (lg_k from hash : ℕ) (policy : P) (u : Union ℕ P) → u ≡ empty_union lg_k from hash policy → IsUnionOfSamples u []
  samples-made lg_k from hash policy u made = record { sampled = record { sample = rw (made, none-set_of) (record { ascending = ascending-nil hash_key; carried = tt; all_below = refl }) } }

  pub samples-given : (old new : Union ℕ P) (s : Shown) (listing hashes more : List ℕ) → (s.empty ≡ true → new ≡ old) → UnitesHashes old new s listing → IsUnionOfSamples old hashes → IsSampleOf (shown_value hash_key s listing) more → IsUnionOfSamples new (hashes ++ more)
  samples-given old new s listing hashes more skipped united is sample =
      (elim s.empty as (λ b. s.empty ≡ b → IsSampleOf (cond b Empty (NonEmpty (record { entries = map_of hash_key listing; theta = s.theta }))) more → IsUnionOfSamples new (hashes ++ more)) [
        | true ↦ λ e p.
            let same : set_of hashes ≡ set_of (hashes ++ more) = sym (ap (λ w. joined hash_key first_hash (set_of hashes) w) p.sample.all_below) ∙ sets_joined hashes more in
            rw (skipped e) (record { sampled = record { sample = subst (IsSample hash_key (union_value hash_key old)) same is.sampled.sample } })
        | false ↦ λ e p. record { sampled = record { sample = subst (IsSample hash_key (union_value hash_key new)) (sets_joined hashes more) (sample-given hash_key first_hash (λ x y same. same) old new (shown_value hash_key s listing) (set_of hashes) (set_of more) (united e) is.sampled.sample sample.sample) } }
      ]) refl sample

  pub samples-lowered : (lg : ℕ) (old new : Union ℕ P) (hashes : List ℕ) → union_value hash_key new ≡ cut_value hash_key (2 ^ lg) (union_value hash_key old) → IsUnionOfSamples old hashes → IsUnionOfSamples new hashes
  samples-lowered lg old new hashes value is = record { sampled = record { sample = rw value (cut-sample hash_key (2 ^ lg) (union_value hash_key old) (set_of hashes) is.sampled.sample) } }

  -- an error but that of memory leaves a union unchanged
  pub unchanged-union : (old new : Union ℕ P) (s : Shown) (listing : List ℕ) (e : ErrorKind) → e ≢ OutOfMemory → IsUpdateError hash_key (λ x y. false) old new s listing e → new ≡ old
  unchanged-union old new s listing e other =
      elim (update_refusal old s) as (λ o. MatchOption o (IsBroken hash_key (λ x y. false) old new s listing e) (λ kind. (e ≡ kind) × (new ≡ old)) → new ≡ old) [
        | None ↦ λ broken. elim broken.why [ inl out ↦ absurd (other out) | inr policy ↦ absurd (let never = policy.1.refused in cc) ]
        | Some kind ↦ λ refused. refused.1
      ]

  -- the value of a union is a part of its stream
  pub union-part : (lg_k k start : ℕ) (u : Union ℕ P) (hashes : List ℕ) → IsUnionOf lg_k k start u hashes → IsPartOf k start (union_value hash_key u) hashes
  union-part lg_k k start u hashes is = record { part = is.of_map.part; none = is.none }

-- a result of a part is a part
pub answer-part : (k start h : ℕ) (requested : Bool) (value : Sketch ℕ) (s : Compact ℕ) (hashes : List ℕ) → IsAnswer hash_key value h requested s → IsPartOf k start value hashes → IsPartOf k start (value_of s) hashes
answer-part k start h requested value s hashes answer is = subst (λ v. IsPartOf k start v hashes) (sym (answer-value hash_key value h requested s answer)) is

-- the result of a part that isn't Empty and has no more than k hashes has the k least
pub answer-least : (k start h : ℕ) (requested : Bool) (value : Sketch ℕ) (s : Compact ℕ) (hashes : List ℕ) → IsAnswer hash_key value h requested s → cut_value hash_key k value ≡ value → IsPartOf k start value hashes → hashes ≢ [] → value_of s ≡ NonEmpty (kmin k (set_of hashes) start)
answer-least k start h requested value s hashes answer same is some = answer-value hash_key value h requested s answer ∙ least-part hash_key k start value (set_of hashes) same is.part (λ none. some (is.none none))

-- and if the start is the greatest, an ordered result has them also if it is Empty
pub answer-kmin : (k h : ℕ) (requested : Bool) (value : Sketch ℕ) (s : Compact ℕ) (hashes : List ℕ) → IsAnswer hash_key value h requested s → requested ≡ true → cut_value hash_key k value ≡ value → IsPartOf k MAX_THETA value hashes → retained_of s ≡ kmin k (set_of hashes) MAX_THETA
answer-kmin k h requested value s hashes answer ordered same is = answer-retained hash_key value h requested s answer ordered ∙ kmin-part hash_key k value (set_of hashes) same is.part

-- a result of a sample is a sample; an ordered one lists it
pub answer-sample : (h : ℕ) (requested : Bool) (value : Sketch ℕ) (s : Compact ℕ) (hashes : List ℕ) → IsAnswer hash_key value h requested s → IsSampleOf value hashes → IsSampleOf (value_of s) hashes
answer-sample h requested value s hashes answer is = subst (λ v. IsSampleOf v hashes) (sym (answer-value hash_key value h requested s answer)) is

pub answer-below : (h : ℕ) (requested : Bool) (value : Sketch ℕ) (s : Compact ℕ) (hashes : List ℕ) → IsAnswer hash_key value h requested s → requested ≡ true → IsSampleOf value hashes → s.entries ≡ set_below s.theta hashes
answer-below h requested Empty s hashes answer ordered is = rw (answer, is.sample.all_below) refl
answer-below h requested (NonEmpty v) s hashes answer ordered is =
    let listed : s.ordered ≡ true = answer.ordered_if ∙ rw ordered refl in
    answer.in_order listed ∙ is.sample.all_below ∙ ap (λ (t : ℕ). below hash_key (set_of hashes) t) (sym answer.same_theta)

-- a part is a sample, and a part for some k is one for fewer
pub sample-of : (k start : ℕ) (value : Sketch ℕ) (hashes : List ℕ) → IsPartOf k start value hashes → IsSampleOf value hashes
sample-of k start value hashes is = record { sample = is.part.sample }

pub fewer : (k more start : ℕ) (value : Sketch ℕ) (hashes : List ℕ) → k ≤ more → IsPartOf more start value hashes → IsPartOf k start value hashes
fewer k more start value hashes le is = record { part = fewer-part hash_key k more start value (set_of hashes) le is.part; none = is.none }

pub fewer-of : {P : Type 0} (lg_k k more start : ℕ) (u : Union ℕ P) (hashes : List ℕ) → k ≤ more → IsUnionOf lg_k more start u hashes → IsUnionOf lg_k k start u hashes
fewer-of lg_k k more start u hashes le is = record { of_map = fewer-union hash_key lg_k more start k u (set_of hashes) le is.of_map; none = is.none }

-- what one more stream shares with others
shared_more : (hashes : List ℕ) (streams : List (List ℕ)) (more : List ℕ) → shared_by_all hashes (streams ++ more ∷ []) ≡ shared_hashes (shared_by_all hashes streams) more
shared_more hashes [] more = refl
shared_more hashes (others ∷ streams) more = shared_more (shared_hashes hashes others) streams more

met : (o : Option (Sketch ℕ)) (v : Sketch ℕ) (streams : List (List ℕ)) (more : List ℕ) → SamplesShared o streams → IsSampleOf v more → SamplesShared (Some (meet_next hash_key first_hash o v)) (streams ++ more ∷ [])
met None v streams more none sample = rw (none, meet-one hash_key first_hash v) ((λ e. absurd (cc)), sample)
met (Some u) v [] more some sample = absurd (some.0 refl)
met (Some u) v (hashes ∷ streams) more some sample = (
  (λ e. absurd (cc)),
  record {
    sample = subst (IsSample hash_key (meet hash_key first_hash (u ∷ v ∷ []))) (sets_shared (shared_by_all hashes streams) more ∙ ap set_of (sym (shared_more hashes streams more)))
        (meet_samples hash_key first_hash (λ x y same. same) u (v ∷ []) (set_of (shared_by_all hashes streams)) (set_of more ∷ []) some.1.sample (sample.sample, tt));
  },
)

module _ {P : Type 0} where
  pub intersection-made : (i : Intersection ℕ P) → i.result ≡ None → IsIntersectionOf i []
  intersection-made i none = record { shared = rw none refl }

  pub intersection-given : (old new : Intersection ℕ P) (v : Sketch ℕ) (streams : List (List ℕ)) (more : List ℕ) → new.result ≡ Some (meet_next hash_key first_hash old.result v) → IsIntersectionOf old streams → IsSampleOf v more → IsIntersectionOf new (streams ++ more ∷ [])
  intersection-given old new v streams more after is sample = record { shared = rw after (met old.result v streams more is.shared sample) }

-- the result of an intersection
pub shared-found : (o : Option (Sketch ℕ)) (h : ℕ) (requested : Bool) (r : Option (Compact ℕ)) (streams : List (List ℕ)) → IsAnswerIfAny hash_key o h requested r → SamplesShared o streams → streams ≢ [] → IsSome r
shared-found None h requested None streams answer is some = absurd (some is)
shared-found None h requested (Some s) streams answer is some = absurd answer
shared-found (Some v) h requested None streams answer is some = absurd answer
shared-found (Some v) h requested (Some s) streams answer is some = refl

pub shared-sample : (o : Option (Sketch ℕ)) (h : ℕ) (requested : Bool) (s : Compact ℕ) (streams : List (List ℕ)) → IsAnswerIfAny hash_key o h requested (Some s) → SamplesShared o streams → IsSampleOf (value_of s) (shared_by streams)
shared-sample None h requested s streams answer is = absurd answer
shared-sample (Some v) h requested s streams answer is = answer-sample h requested v s (shared_by streams) answer is.1

pub shared-below : (o : Option (Sketch ℕ)) (h : ℕ) (requested : Bool) (s : Compact ℕ) (streams : List (List ℕ)) → IsAnswerIfAny hash_key o h requested (Some s) → requested ≡ true → SamplesShared o streams → s.entries ≡ set_below s.theta (shared_by streams)
shared-below None h requested s streams answer ordered is = absurd answer
shared-below (Some v) h requested s streams answer ordered is = answer-below h requested v s (shared_by streams) answer ordered is.1

-- the difference of samples samples what the other lacks
pub minus-sample : (a b : Sketch ℕ) (hashes others : List ℕ) → IsSampleOf a hashes → IsSampleOf b others → IsSampleOf (minus hash_key hash_key a b) (lacking_hashes hashes others)
minus-sample a b hashes others sa sb = record { sample = subst (IsSample hash_key (minus hash_key hash_key a b)) (sets_lack hashes others) (minus_samples hash_key hash_key a b (set_of hashes) (set_of others) sa.sample sb.sample) }

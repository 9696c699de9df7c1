-- Sketches that are gathered in a batch, by the streams that they were given.
use Rattle.std.proofs.Common.{◌≡◌, ◌^◌, ℕ, List, [], ◌∷◌, ◌++◌, map, refl, sym, ap, subst, ◌∙◌}
use Rattle.std.specs.List.{concat}
use Rattle.std.proofs.lemmas.List.{map-append, append_assoc, append-nil}
use Rattle.core_compact.specs.CompactState.{Compact}
use Rattle.core_operators.specs.Union.{Union}
use Rattle.core_state.specs.Updatable.{Updatable}
use Rattle.theta_sketches.specs.Streams.{Sketch, value_of, IsPartOf, IsUnionOf, ArePartsOf}
use Rattle.theta_sketches.proofs.Streams.{fewer}
use Rattle.c_objects.specs.Streams.{HasSketch, IsBatchOf, IsBatchOfNone, GathersPart, GathersSketch}

pub none : (sketches : List (Compact ℕ)) → sketches ≡ [] → IsBatchOfNone sketches
none sketches is k start = rw is (record { streams = []; parts = tt; joined = refl })

-- parts, and one more
parts_more : (k start : ℕ) (values : List (Sketch ℕ)) (streams : List (List ℕ)) (value : Sketch ℕ) (more : List ℕ)
    → ArePartsOf k start values streams → IsPartOf k start value more → ArePartsOf k start (values ++ value ∷ []) (streams ++ more ∷ [])
parts_more k start [] [] value more parts part = (part, tt)
parts_more k start [] (hashes ∷ streams) value more parts part = absurd parts
parts_more k start (v ∷ values) [] value more parts part = absurd parts
parts_more k start (v ∷ values) (hashes ∷ streams) value more parts part = (parts.0, parts_more k start values streams value more parts.1 part)

joined_more : (streams : List (List ℕ)) (more : List ℕ) → concat (streams ++ more ∷ []) ≡ concat streams ++ more
joined_more [] more = append-nil more
joined_more (hashes ∷ streams) more = ap (λ xs. hashes ++ xs) (joined_more streams more) ∙ sym (append_assoc hashes (concat streams) more)

module _ (old new : List (Compact ℕ)) (s : Compact ℕ) (is : new ≡ old ++ s ∷ []) where
  pub one_more : GathersPart (value_of s) old new
  one_more k start hashes more batch part = record {
    streams = batch.streams ++ more ∷ [];
    parts =
        subst (λ values. ArePartsOf k start values (batch.streams ++ more ∷ []))
        (sym (ap (map value_of) is ∙ map-append value_of old (s ∷ [])))
        (parts_more k start (map value_of old) batch.streams (value_of s) more batch.parts part);
    joined = joined_more batch.streams more ∙ ap (λ xs. xs ++ more) batch.joined;
  }

  -- the compact form of a sketch that takes updates
  pub form_more : (t : Updatable ℕ) → HasSketch t s → GathersSketch t old new
  form_more t has k start own seed hashes more enough batch given =
      one_more k start hashes more batch (fewer k (2 ^ own) start (value_of s) more enough (has.part own start seed more given))

-- a union that was given parts was given what a batch of them was given
pub all_given : {P : Type 0} (new : Union ℕ P) (sketches : List (Compact ℕ)) (lg_k k start : ℕ) (hashes more : List ℕ)
    → ((streams : List (List ℕ)) → ArePartsOf k start (map value_of sketches) streams → IsUnionOf lg_k k start new (hashes ++ concat streams))
    → IsBatchOf k start sketches more → IsUnionOf lg_k k start new (hashes ++ more)
all_given new sketches lg_k k start hashes more given batch =
    subst (λ xs. IsUnionOf lg_k k start new (hashes ++ xs)) batch.joined (given batch.streams batch.parts)

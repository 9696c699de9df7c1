-- How many hashes the intersection and the differences of two sketches retain, by the whole sets of which these are samples.
use Rattle.std.proofs.Common.{◌≡◌, ℕ, ◌≤◌, min, Bool, true, false, List, [], ◌∷◌, length, refl, sym, ap, ◌∙◌, subst, arith}
use Rattle.std.specs.Prelude.{if◌then◌else◌, Option, Some, None, Result, Ok, Err, IfOk, IfSome}
use Rattle.core_compact.specs.CompactState.{Compact, compact_value, ordered_sketch}
use Rattle.core_laws.specs.Cuts.{Retained}
use Rattle.core_laws.specs.Entries.{hash_key, first_hash}
use Rattle.core_laws.specs.Maps.{below, map_of}
use Rattle.core_laws.specs.Operators.{common, lacking, meet, minus, shared, is_disjoint}
use Rattle.core_laws.specs.Samples.{IsSample, AreSamples}
use Rattle.core_laws.specs.Values.{Sketch, Empty, NonEmpty}
use Rattle.core_laws.specs.declared.TheConstants.{MAX_THETA}
use Rattle.core_laws.proofs.operators.Samples.{meet_samples, minus_samples}
use Rattle.core_images.specs.Entry.{SpellsHash}
use Rattle.core_images.specs.declared.preamble.Preamble.{Preamble}
use Rattle.core_images.specs.Read.{ReadsFlagged, empty_image, single_image, exact_image, estimating_image}
use Rattle.sketch_base.specs.Seed.{seed_hash}
use Rattle.theta_sketches.specs.Image.{SpellsSketch, version_3, version_2_empty, version_2_exact, version_2_estimating, version_1}
use Rattle.theta_sketches.specs.Image.{ReadsUnflagged, vacant_image, filled_image}
use Rattle.keys_sketches.specs.Shards.{values_of_sketches, AreRead}
use Rattle.distinct_messages.specs.declared.failure.Failure.{Failure}
use Rattle.distinct_arguments.specs.Settings.{OptionValues}
use Rattle.distinct_commands.specs.Similarity.{overlap_of, similarity_text, Counts, IsCompared}

-- the theta of a value that isn't Empty
abbrev HasTheta : (t : ℕ) → Sketch ℕ → Type 0
HasTheta t Empty = Unit {0}
HasTheta t (NonEmpty v) = v.theta ≡ t

unless : (empty : Bool) (v : Retained ℕ) (t : ℕ) → v.theta ≡ t → HasTheta t (if empty then Empty else NonEmpty v)
unless true v t is = tt
unless false v t is = is

-- a value with a theta, which is Empty or not
abbrev value : Bool → List ℕ → ℕ → Sketch ℕ
value empty entries theta = if empty then Empty else NonEmpty (record { entries = entries; theta = theta })

meet_theta : (e f : Bool) (xs ys : List ℕ) (t u : ℕ) → HasTheta (min t u) (meet hash_key first_hash (value e xs t ∷ value f ys u ∷ []))
meet_theta true f xs ys t u = tt
meet_theta false true xs ys t u = tt
meet_theta false false xs ys t u = unless (is_disjoint hash_key first_hash (record { entries = xs; theta = t }) (record { entries = ys; theta = u })) (shared hash_key first_hash (record { entries = xs; theta = t }) (record { entries = ys; theta = u })) (min t u) refl

minus_theta : (e f : Bool) (xs ys : List ℕ) (t u : ℕ) → t ≤ MAX_THETA → (f ≡ true → u ≡ MAX_THETA) → HasTheta (min t u) (minus hash_key hash_key (value e xs t) (value f ys u))
minus_theta true f xs ys t u high greatest = tt
minus_theta false true xs ys t u high greatest = omega (arith, high, greatest refl)
minus_theta false false xs ys t u high greatest = unless _ _ (min t u) refl

-- a sample that isn't Empty retains all hashes below its theta, and a whole set that is sampled by Empty has none
counted : (v : Sketch ℕ) (whole : List ℕ) (t h : ℕ) → IsSample hash_key v whole → HasTheta t v → length (ordered_sketch v h).entries ≡ length (below hash_key whole t)
counted Empty whole t h sample theta = ap (λ xs. length (below hash_key xs t)) (sym sample.all_below)
counted (NonEmpty v) whole t h sample theta = ap length sample.all_below ∙ ap (λ u. length (below hash_key whole u)) theta

-- what every sketch that is read knows of its theta
pub record ThetaFacts (s : Compact ℕ) : Type 0 where
  pub greatest : s.empty ≡ true → s.theta ≡ MAX_THETA
  pub high : s.theta ≤ MAX_THETA

flagged_theta : (bytes : List ℕ) (longs h : ℕ) (s : Compact ℕ) → ReadsFlagged hash_key SpellsHash bytes longs h s → ThetaFacts s
flagged_theta bytes longs h _ (empty_image empty) = record { greatest = λ is. refl; high = omega arith }
flagged_theta bytes longs h _ (single_image xs nonempty same is has) = record { greatest = has.lawful.greatest; high = has.lawful.theta_high }
flagged_theta bytes longs h _ (exact_image xs nonempty same is has) = record { greatest = has.lawful.greatest; high = has.lawful.theta_high }
flagged_theta bytes longs h _ (estimating_image xs nonempty same is has) = record { greatest = has.lawful.greatest; high = has.lawful.theta_high }

unflagged_theta : (bytes : List ℕ) (p : Preamble) (i h : ℕ) (s : Compact ℕ) → ReadsUnflagged bytes p i h s → ThetaFacts s
unflagged_theta bytes p i h _ (vacant_image whole vacant) = record { greatest = λ is. refl; high = omega arith }
unflagged_theta bytes p i h _ (filled_image xs filled same has) = record { greatest = has.lawful.greatest; high = has.lawful.theta_high }

pub spelled_theta : (bytes : List ℕ) (h : ℕ) (s : Compact ℕ) → SpellsSketch bytes h s → ThetaFacts s
spelled_theta bytes h _ (version_3 longs s begins reads) = flagged_theta bytes longs h s reads
spelled_theta bytes h _ (version_2_empty begins) = record { greatest = λ is. refl; high = omega arith }
spelled_theta bytes h _ (version_2_exact s begins reads) = unflagged_theta bytes _ _ h s reads
spelled_theta bytes h _ (version_2_estimating s begins reads) = unflagged_theta bytes _ _ h s reads
spelled_theta bytes h _ (version_1 longs s begins reads) = unflagged_theta bytes _ _ h s reads

module _ (seed : ℕ) where
  pub counts_of : (a b : Compact ℕ) (xs ys : List ℕ) → ThetaFacts a → ThetaFacts b → AreSamples hash_key (values_of_sketches (a ∷ b ∷ [])) (xs ∷ ys ∷ []) → Counts (overlap_of seed a b) xs ys
  counts_of a b xs ys of_a of_b samples =
      let h = seed_hash seed in
      let es = map_of hash_key a.entries in
      let fs = map_of hash_key b.entries in
      let v = compact_value hash_key a in
      let w = compact_value hash_key b in
      let same : min b.theta a.theta ≡ min a.theta b.theta = omega arith in
      record {
        shared = counted (meet hash_key first_hash (v ∷ w ∷ [])) (common hash_key first_hash xs ys) (min a.theta b.theta) h
            (meet_samples hash_key first_hash (λ x y is. is) v (w ∷ []) xs (ys ∷ []) samples.0 samples.1)
            (meet_theta a.empty b.empty es fs a.theta b.theta);
        first = counted (minus hash_key hash_key v w) (lacking hash_key hash_key xs ys) (min a.theta b.theta) h
            (minus_samples hash_key hash_key v w xs ys samples.0 samples.1.0)
            (minus_theta a.empty b.empty es fs a.theta b.theta of_a.high of_b.greatest);
        second = counted (minus hash_key hash_key w v) (lacking hash_key hash_key ys xs) (min a.theta b.theta) h
            (minus_samples hash_key hash_key w v ys xs samples.1.0 samples.0)
            (subst (λ t. HasTheta t (minus hash_key hash_key w v)) same (minus_theta b.empty a.empty fs es b.theta a.theta of_b.high of_a.greatest));
      }

  -- the similarity of two sketches that images have
  module _ (options : OptionValues) where
    compared : (images : List (List ℕ)) (a b : Compact ℕ) (out : List ℕ) → AreRead seed images (a ∷ b ∷ []) → out ≡ similarity_text options seed a b → IsCompared options seed images out
    compared [] a b out read printed = absurd read
    compared (i ∷ []) a b out read printed = absurd read.1
    compared (i ∷ j ∷ images) a b out read printed = record {
      first = a;
      second = b;
      read = read;
      printed = printed;
      whole = λ xs ys samples. counts_of a b xs ys (spelled_theta i (seed_hash seed) a read.0.spelled) (spelled_theta j (seed_hash seed) b read.1.0.spelled) samples;
    }

    on_ok_compared : {V : Type 0} (r : Result V Failure) (items : V → List ℕ) (all : List (List ℕ)) (a b : Compact ℕ) → AreRead seed all (a ∷ b ∷ []) → IfOk r (λ v. items v ≡ similarity_text options seed a b) → IfOk r (λ v. IsCompared options seed all (items v))
    on_ok_compared (Ok v) items all a b read printed = compared all a b (items v) read printed
    on_ok_compared (Err f) items all a b read printed = tt

    pub compared_if_known : {V : Type 0} (r : Result V Failure) (items : V → List ℕ) (known : Option (List (List ℕ))) (sketches : List (Compact ℕ)) (a b : Compact ℕ) → IfSome known (λ all. AreRead seed all sketches) → sketches ≡ a ∷ b ∷ [] → IfOk r (λ v. items v ≡ similarity_text options seed a b) →
        IfSome known (λ all. IfOk r (λ v. IsCompared options seed all (items v)))
    compared_if_known r items None sketches a b read two printed = tt
    compared_if_known r items (Some all) sketches a b read two printed = on_ok_compared r items all a b (subst (AreRead seed all) two read) printed

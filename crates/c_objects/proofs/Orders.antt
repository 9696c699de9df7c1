-- Compact forms, results and differences in an order of choice, by what the library says of both orders.
use Rattle.std.proofs.Common.{◌≡◌, ◌≢◌, ℕ, Bool, true, false, List, [], Option, Some, None, refl, subst}
use Rattle.std.specs.Prelude.{◌^◌, IfSome}
use Rattle.core_compact.specs.CompactState.{Compact, IsAnswer, shown_of}
use Rattle.core_laws.specs.Entries.{hash_key}
use Rattle.core_laws.specs.Shown.{Shown}
use Rattle.core_laws.specs.Values.{Sketch}
use Rattle.core_operators.specs.ANotB.{IsHashDifference}
use Rattle.core_operators.specs.Intersection.{IsAnswerIfAny}
use Rattle.core_operators.specs.Union.{union_value, failure}
use Rattle.core_state.specs.Updatable.{sketch_value}
use Rattle.sketch_base.specs.Seed.{seed_hash}
use Rattle.theta_sketches.specs.Streams.{NonEmpty, MAX_THETA, kmin, set_of, value_of, retained_of, IsSketchOf, IsTrimmedOf, IsUnionOf}
use Rattle.theta_sketches.specs.Streams.{set_below, shared_by, lacking_hashes, IsSampleOf, IsIntersectionOf}
use Rattle.c_objects.specs.Orders.{IsPartOfSketch, IsPartOfUnion, IsCompactFormIn, IsUnionResultIn, IsIntersectionResultIn, IsDifferenceIn}
use Rattle.c_objects.specs.declared.compact.CompactSketch.{CompactSketch}
use Rattle.c_objects.specs.declared.intersection.SeededIntersection.{SeededIntersection}
use Rattle.c_objects.specs.declared.theta.SeededSketch.{SeededSketch}
use Rattle.c_objects.specs.declared.union.SeededUnion.{SeededUnion}
use Rattle.c_objects.proofs.Merges.{has_union}
use Rattle.c_objects.proofs.Sampled.{has_shared, has_lacking}

-- a compact form
pub compact_in : (ordered : Bool) (t : SeededSketch) (s : CompactSketch)
    → IsAnswer hash_key (sketch_value t.sketch) t.sketch.map.seed_hash ordered s.sketch
    → IsPartOfSketch t.sketch s.sketch
    → ((lg_k start seed : ℕ) (hashes : List ℕ) → IsSketchOf lg_k start seed t.sketch hashes → s.sketch.seed_hash ≡ seed_hash seed)
    → ((lg_k start seed : ℕ) (hashes : List ℕ) → IsTrimmedOf lg_k start seed t.sketch hashes → hashes ≢ [] → value_of s.sketch ≡ NonEmpty (kmin (2 ^ lg_k) (set_of hashes) start))
    → ((lg_k seed : ℕ) (hashes : List ℕ) → IsTrimmedOf lg_k MAX_THETA seed t.sketch hashes → ordered ≡ true → retained_of s.sketch ≡ kmin (2 ^ lg_k) (set_of hashes) MAX_THETA)
    → IsCompactFormIn ordered t s
compact_in true t s ok part seeded least least_of_all = (
  ok,
  record {
    part = part;
    seeded = seeded;
    least = least;
    kmin = λ lg_k seed hashes is. least_of_all lg_k seed hashes is refl;
  },
)
compact_in false t s ok part seeded least least_of_all = (ok, part)

-- the result of a union
pub union_in : (ordered : Bool) (u : SeededUnion) (s : CompactSketch)
    → failure u.union.failed ≡ None
    → IsAnswer hash_key (union_value hash_key u.union) u.union.seed_hash ordered s.sketch
    → IsPartOfUnion u.union s.sketch
    → ((lg_k start : ℕ) (hashes : List ℕ) → IsUnionOf lg_k (2 ^ lg_k) start u.union hashes → hashes ≢ [] → value_of s.sketch ≡ NonEmpty (kmin (2 ^ lg_k) (set_of hashes) start))
    → ((lg_k : ℕ) (hashes : List ℕ) → IsUnionOf lg_k (2 ^ lg_k) MAX_THETA u.union hashes → ordered ≡ true → retained_of s.sketch ≡ kmin (2 ^ lg_k) (set_of hashes) MAX_THETA)
    → IsUnionResultIn ordered u s
union_in true u s sound ok part least least_of_all = (sound, ok, has_union u.union s.sketch ok part least least_of_all)
union_in false u s sound ok part least least_of_all = (sound, ok, part)

-- the result of an intersection
pub intersection_in : (ordered : Bool) (i : SeededIntersection) (o : Option (Compact ℕ)) (s : CompactSketch)
    → o ≡ Some s.sketch
    → IsAnswerIfAny hash_key i.intersection.result i.intersection.seed_hash ordered o
    → IfSome o (λ r. (streams : List (List ℕ)) → IsIntersectionOf i.intersection streams → IsSampleOf (value_of r) (shared_by streams))
    → IfSome o (λ r. (streams : List (List ℕ)) → IsIntersectionOf i.intersection streams → ordered ≡ true → r.entries ≡ set_below r.theta (shared_by streams))
    → IsIntersectionResultIn ordered i s
intersection_in true i o s is ok sample below = has_shared i.intersection o s.sketch is ok sample below
intersection_in false i o s is ok sample below = subst (λ q. IsAnswerIfAny hash_key i.intersection.result i.intersection.seed_hash false q) is ok

-- the difference of sketches that show and list the same as others
pub difference_as : (ordered : Bool) (a c b d : Shown) (la lc lb ld : List ℕ) (s : Compact ℕ) → a ≡ c → la ≡ lc → b ≡ d → lb ≡ ld
    → IsHashDifference a la b lb ordered s → IsHashDifference c lc d ld ordered s
difference_as ordered a c b d la lc lb ld s first firsts second seconds is =
    subst (λ xs. IsHashDifference c lc d xs ordered s) seconds
    (subst (λ x. IsHashDifference c lc x lb ordered s) second
    (subst (λ xs. IsHashDifference c xs b lb ordered s) firsts
    (subst (λ x. IsHashDifference x la b lb ordered s) first is)))

-- the difference of compact sketches
pub difference_in : (ordered : Bool) (first second s : CompactSketch) (a b : Sketch ℕ)
    → IsHashDifference (shown_of hash_key first.sketch) first.sketch.entries (shown_of hash_key second.sketch) second.sketch.entries ordered s.sketch
    → ((hashes : List ℕ) → IsSampleOf (value_of first.sketch) hashes → IsSampleOf a hashes)
    → ((hashes : List ℕ) → IsSampleOf (value_of second.sketch) hashes → IsSampleOf b hashes)
    → ((hashes others : List ℕ) → IsSampleOf a hashes → IsSampleOf b others → IsSampleOf (value_of s.sketch) (lacking_hashes hashes others))
    → ((hashes others : List ℕ) → IsSampleOf a hashes → IsSampleOf b others → ordered ≡ true → s.sketch.entries ≡ set_below s.sketch.theta (lacking_hashes hashes others))
    → IsDifferenceIn ordered first second s
difference_in true first second s a b ok first_viewed second_viewed sample below =
    (ok, has_lacking a b first.sketch second.sketch s.sketch first_viewed second_viewed sample below)
difference_in false first second s a b ok first_viewed second_viewed sample below = ok

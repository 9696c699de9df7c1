-- Compact forms, results and differences of sums in an order of choice, by what the library says of both orders.
use Rattle.std.proofs.Common.{◌≡◌, ℕ, Bool, true, false, List, map, Option, Some, None, subst}
use Rattle.std.specs.Prelude.{◌^◌, IfSome}
use Rattle.core_compact.specs.CompactState.{IsAnswer, shown_of}
use Rattle.core_laws.specs.Folds.{Value, fold_key, unmarked, unmarked_value}
use Rattle.core_laws.specs.Maps.{below}
use Rattle.core_operators.specs.ANotB.{IsDifference}
use Rattle.core_operators.specs.Intersection.{IsAnswerIfAny}
use Rattle.core_operators.specs.Union.{union_value, failure}
use Rattle.core_state.specs.Updatable.{sketch_value}
use Rattle.tuple_sketches.specs.Streams.{NonEmpty, Given, MAX_THETA, tuple_key, seed_hash, least_folds, value_of, retained_of}
use Rattle.tuple_sketches.specs.Streams.{Compact, Sketch, TupleEntry, combined_number, shared_by, without}
use Rattle.tuple_sketches.specs.Streams.{IsPartOf, IsSampleOf, IsSketchOf, IsTrimmedOf, IsUnionOf}
use Rattle.c_objects.specs.Orders.{IsCompactFormOfSumsIn, IsSumsUnionResultIn, IsSumsIntersectionResultIn, IsDifferenceOfSumsIn}
use Rattle.c_objects.specs.Sums.{sums_sketch}
use Rattle.c_objects.specs.SumsIntersection.{sums_intersection_of, sums_intersection_mode}
use Rattle.c_objects.specs.SumsStreams.{IsSumsIntersectionOf}
use Rattle.c_objects.specs.SumsUnion.{sums_union_of}
use Rattle.c_objects.specs.declared.compact_sums.CompactSums.{CompactSums}
use Rattle.c_objects.specs.declared.sums.SeededSums.{SeededSums}
use Rattle.c_objects.specs.declared.sums_intersection.SeededSumsIntersection.{SeededSumsIntersection}
use Rattle.c_objects.specs.declared.sums_union.SeededSumsUnion.{SeededSumsUnion}
use Rattle.c_objects.proofs.SharedSums.{has_shared, has_lacking}
use Rattle.c_objects.proofs.Summed.{has_sums, has_sums_union}

-- a compact form
pub sums_in : (ordered : Bool) (t : SeededSums) (s : CompactSums)
    → IsAnswer tuple_key (sketch_value (sums_sketch t)) (sums_sketch t).map.seed_hash ordered s.sketch
    → ((lg_k start seed : ℕ) (given : Given ℕ) → IsSketchOf lg_k start seed (sums_sketch t) given → IsPartOf (2 ^ lg_k) start (value_of s.sketch) given)
    → ((lg_k start seed : ℕ) (given : Given ℕ) → IsSketchOf lg_k start seed (sums_sketch t) given → s.sketch.seed_hash ≡ seed_hash seed)
    → ((lg_k start seed : ℕ) (given : Given ℕ) → IsTrimmedOf lg_k start seed (sums_sketch t) given → given.any ≡ true → unmarked_value (value_of s.sketch) ≡ NonEmpty (least_folds (2 ^ lg_k) given start))
    → ((lg_k seed : ℕ) (given : Given ℕ) → IsTrimmedOf lg_k MAX_THETA seed (sums_sketch t) given → ordered ≡ true → unmarked (retained_of s.sketch) ≡ least_folds (2 ^ lg_k) given MAX_THETA)
    → IsCompactFormOfSumsIn ordered t s
sums_in true t s ok part seeded least kmin = (ok, has_sums (sums_sketch t) s.sketch part seeded least kmin)
sums_in false t s ok part seeded least kmin = ok

-- the result of a union
pub sums_union_in : (ordered : Bool) (u : SeededSumsUnion) (s : CompactSums)
    → failure (sums_union_of u).failed ≡ None
    → IsAnswer tuple_key (union_value tuple_key (sums_union_of u)) (sums_union_of u).seed_hash ordered s.sketch
    → ((lg_k k start : ℕ) (given : Given ℕ) → IsUnionOf lg_k k start (sums_union_of u) given → IsPartOf k start (value_of s.sketch) given)
    → ((lg_k start : ℕ) (given : Given ℕ) → IsUnionOf lg_k (2 ^ lg_k) start (sums_union_of u) given → given.any ≡ true → unmarked_value (value_of s.sketch) ≡ NonEmpty (least_folds (2 ^ lg_k) given start))
    → ((lg_k : ℕ) (given : Given ℕ) → IsUnionOf lg_k (2 ^ lg_k) MAX_THETA (sums_union_of u) given → ordered ≡ true → unmarked (retained_of s.sketch) ≡ least_folds (2 ^ lg_k) given MAX_THETA)
    → IsSumsUnionResultIn ordered u s
sums_union_in true u s sound ok part least kmin = (sound, ok, has_sums_union (sums_union_of u) s.sketch ok part least kmin)
sums_union_in false u s sound ok part least kmin = (sound, ok)

-- the result of an intersection
pub sums_intersection_in : (ordered : Bool) (i : SeededSumsIntersection) (o : Option (Compact (TupleEntry ℕ))) (s : CompactSums)
    → o ≡ Some s.sketch
    → IsAnswerIfAny tuple_key (sums_intersection_of i).result (sums_intersection_of i).seed_hash ordered o
    → IfSome o (λ r. (givens : List (Given ℕ)) → IsSumsIntersectionOf (sums_intersection_mode i) (sums_intersection_of i) givens → IsSampleOf (value_of r) (shared_by (combined_number (sums_intersection_mode i)) givens))
    → IfSome o (λ r. (givens : List (Given ℕ)) → IsSumsIntersectionOf (sums_intersection_mode i) (sums_intersection_of i) givens → ordered ≡ true → map Value r.entries ≡ below (fold_key tuple_key) (shared_by (combined_number (sums_intersection_mode i)) givens).whole r.theta)
    → IsSumsIntersectionResultIn ordered i s
sums_intersection_in true i o s is ok sample lists = has_shared (sums_intersection_mode i) (sums_intersection_of i) o s.sketch is ok sample lists
sums_intersection_in false i o s is ok sample lists =
    subst (λ q. IsAnswerIfAny tuple_key (sums_intersection_of i).result (sums_intersection_of i).seed_hash false q) is ok

-- the difference of compact sketches
pub sums_difference_in : (ordered : Bool) (first second s : CompactSums) (a b : Sketch (TupleEntry ℕ))
    → IsDifference tuple_key (shown_of tuple_key first.sketch) first.sketch.entries (shown_of tuple_key second.sketch) ordered s.sketch
    → ((given : Given ℕ) → IsSampleOf (value_of first.sketch) given → IsSampleOf a given)
    → ((given : Given ℕ) → IsSampleOf (value_of second.sketch) given → IsSampleOf b given)
    → ((given others : Given ℕ) → IsSampleOf a given → IsSampleOf b others → IsSampleOf (value_of s.sketch) (without given others))
    → ((given others : Given ℕ) → IsSampleOf a given → IsSampleOf b others → ordered ≡ true → map Value s.sketch.entries ≡ below (fold_key tuple_key) (without given others).whole s.sketch.theta)
    → IsDifferenceOfSumsIn ordered first second s
sums_difference_in true first second s a b ok first_viewed second_viewed sample lists =
    (ok, has_lacking a b first.sketch second.sketch s.sketch first_viewed second_viewed sample lists)
sums_difference_in false first second s a b ok first_viewed second_viewed sample lists = ok

-- The keys of an intersection: those of all values, whatever their order.
use Rattle.std.proofs.Common.{◌≡◌, ◌≢◌, ℕ, ◌<◌, min, Bool, true, false, cond, ltb, eqb, IsSome, is_some, List, [], ◌∷◌, map, length, Option, Some, None, refl, sym, ap, subst, ◌∙◌, arith}
use Rattle.std.specs.Prelude.{◌&&◌, not, IsPermutation}
use Rattle.std.specs.List.{All, AllByRecursion}
use Rattle.std.specs.Option.{option_map}
use Rattle.std.proofs.lemmas.Bool.{true≢false}
use Rattle.std.proofs.lemmas.Bool.Decides.{nat_tests}
use Rattle.std.proofs.lemmas.List.Elements.{All-head, All-tail}
use Rattle.std.proofs.lemmas.List.Sorted.{All-permutation, IsPermutation-sym, length_permutation}
use Rattle.core_laws.specs.declared.TheConstants.{MAX_THETA}
use Rattle.core_laws.specs.Cuts.{Retained}
use Rattle.core_laws.specs.Entries.{hash_key, KeepsKey}
use Rattle.core_laws.specs.KeysOfValues.{entries_of, keys_of, IsKeyOf, IsBelowTheta}
use Rattle.core_laws.specs.Maps.{IsAscending, entry_at}
use Rattle.core_laws.specs.Operators.{common, shared, is_disjoint, meet, meet_from, both}
use Rattle.core_laws.specs.Values.{Sketch, Empty, NonEmpty, IsAscendingValue}
use Rattle.core_laws.proofs.maps.Ascending.{each-get_or, ascending-nil, ascending-filter}
use Rattle.core_laws.proofs.maps.LookUps.{same_map}
use Rattle.core_laws.proofs.maps.MapsOfLists.{ascending-map}
use Rattle.core_laws.proofs.maps.MappedEntries.{entry_at-map}
use Rattle.core_laws.proofs.cuts.WithinWholeMaps.{found_key}
use Rattle.core_laws.proofs.operators.CommonMaps.{ascending-common}
use Rattle.core_laws.proofs.operators.Meets.{shared_look}

-- two tests that follow from each other
alike : (a b : Bool) → (a ≡ true → b ≡ true) → (b ≡ true → a ≡ true) → a ≡ b
alike true b there back = sym (there refl)
alike false true there back = back refl
alike false false there back = refl

last_of : (a b c d : Bool) → (a && (b && (c && d))) ≡ true → d ≡ true
last_of true true true d e = e
last_of true true false d e = absurd (cc)
last_of true false c d e = absurd (cc)
last_of false b c d e = absurd (cc)

module _ {Y : Type 0} (P : Y → Type 0) where
  each-from : (ys : List Y) → All P ys → AllByRecursion P ys
  each-from [] all = tt
  each-from (y ∷ ys) all = (All-head P y ys all, each-from ys (All-tail P y ys all))

  each-permuted : (xs ys : List Y) → IsPermutation xs ys → AllByRecursion P xs → AllByRecursion P ys
  each-permuted xs ys permuted all = each-from ys (All-permutation P xs ys permuted (λ k d lt. each-get_or P xs k d lt all))

permuted_nothing : {Y : Type 0} (xs ys : List Y) → IsPermutation xs ys → xs ≢ [] → ys ≢ []
permuted_nothing [] ys permuted some = absurd (some refl)
permuted_nothing (x ∷ xs) [] permuted some = absurd (let same = length_permutation (x ∷ xs) [] permuted in omega (arith, same))
permuted_nothing (x ∷ xs) (y ∷ ys) permuted some = λ none. absurd (cc)

module _ {X : Type 0} (key : X → ℕ) where
  -- a key of entries below a theta is below it
  low_key : (t : ℕ) (xs : List X) (q : ℕ) → AllByRecursion (λ x. key x < t) xs → IsSome (entry_at key xs q) → q < t
  low_key t [] q all found = absurd (true≢false (sym found))
  low_key t (x ∷ xs) q all found =
      (elim (eqb (key x) q) as (λ b. eqb (key x) q ≡ b → IsSome (cond b (Some x) (entry_at key xs q)) → q < t) [
        | true ↦ λ e f. let same : key x ≡ q = grind (arith, nat_tests) in subst (λ (h : ℕ). h < t) same all.0
        | false ↦ λ e f. low_key t xs q all.1 f
      ]) refl found

  nothing_found : (xs : List X) (q : ℕ) → eqb (length xs) 0 ≡ true → IsSome (entry_at key xs q) → ⊥
  nothing_found [] q none found = true≢false (sym found)
  nothing_found (x ∷ xs) q none found = absurd (grind (arith, nat_tests))

  -- equal keys make equal lists
  key_found : (xs : List X) (q : ℕ) → entry_at hash_key (map key xs) q ≡ cond (is_some (entry_at key xs q)) (Some q) None
  key_found xs q =
      entry_at-map key key hash_key (λ y. refl) xs q
      ∙ (elim (entry_at key xs q) as (λ o. entry_at key xs q ≡ o → option_map key o ≡ cond (is_some o) (Some q) None) [
        | Some x ↦ λ e. ap Some (found_key key xs q x e)
        | None ↦ λ e. refl
      ]) refl

  same_keys : (xs ys : List X) → IsAscending key xs → IsAscending key ys → ((q : ℕ) → IsSome (entry_at key xs q) → IsSome (entry_at key ys q)) → ((q : ℕ) → IsSome (entry_at key ys q) → IsSome (entry_at key xs q)) → map key xs ≡ map key ys
  same_keys xs ys upx upy there back =
      same_map hash_key (map key xs) (map key ys) (ascending-map key xs upx) (ascending-map key ys upy)
      (λ q. key_found xs q ∙ ap (λ b. cond b (Some q) None) (alike (is_some (entry_at key xs q)) (is_some (entry_at key ys q)) (there q) (back q)) ∙ sym (key_found ys q))

module _ {X : Type 0} (key : X → ℕ) (merges : X → X → X) (keeps : KeepsKey key merges) where
  some_both : (o p : Option X) → IsSome (both merges o p) → IsSome o × IsSome p
  some_both None p found = absurd (true≢false (sym found))
  some_both (Some x) None found = absurd (true≢false (sym found))
  some_both (Some x) (Some y) found = (refl, refl)

  both_some : (o p : Option X) → IsSome o → IsSome p → IsSome (both merges o p)
  both_some None p a b = absurd (true≢false (sym a))
  both_some (Some x) None a b = absurd (true≢false (sym b))
  both_some (Some x) (Some y) a b = refl

  in_both : (u v : Retained X) (q : ℕ) → IsSome (entry_at key (shared key merges u v).entries q) → IsSome (entry_at key u.entries q) × IsSome (entry_at key v.entries q)
  in_both u v q found =
      (elim (ltb q (min u.theta v.theta)) as (λ b. is_some (cond b (both merges (entry_at key u.entries q) (entry_at key v.entries q)) None) ≡ true → IsSome (entry_at key u.entries q) × IsSome (entry_at key v.entries q)) [
        | true ↦ λ some. some_both (entry_at key u.entries q) (entry_at key v.entries q) some
        | false ↦ λ none. absurd (true≢false (sym none))
      ]) (ap is_some (sym (shared_look key merges keeps u v q)) ∙ found)

  both_in : (u v : Retained X) (q : ℕ) → q < min u.theta v.theta → IsSome (entry_at key u.entries q) → IsSome (entry_at key v.entries q) → IsSome (entry_at key (shared key merges u v).entries q)
  both_in u v q lt a b =
      let low : ltb q (min u.theta v.theta) ≡ true = grind (arith, nat_tests) in
      ap is_some (shared_look key merges keeps u v q ∙ ap (λ t. cond t (both merges (entry_at key u.entries q) (entry_at key v.entries q)) None) low) ∙ both_some _ _ a b

  from_keys : (values : List (Sketch X)) (u : Retained X) (q : ℕ) → IsKeyOf key q (meet_from key merges u values) → IsSome (entry_at key u.entries q) × AllByRecursion (IsKeyOf key q) values
  from_keys [] u q found = (found, tt)
  from_keys (Empty ∷ values) u q found = absurd (true≢false (sym found))
  from_keys (NonEmpty v ∷ values) u q found =
      (elim (is_disjoint key merges u v) as (λ b. IsKeyOf key q (cond b Empty (meet_from key merges (shared key merges u v) values)) → IsSome (entry_at key u.entries q) × AllByRecursion (IsKeyOf key q) (NonEmpty v ∷ values)) [
        | true ↦ λ none. absurd (true≢false (sym none))
        | false ↦ λ some. let rest = from_keys values (shared key merges u v) q some in let both = in_both u v q rest.0 in (both.0, (both.1, rest.1))
      ]) found

  keys_from : (values : List (Sketch X)) (u : Retained X) (q : ℕ) → q < u.theta → AllByRecursion (IsBelowTheta key) values → IsSome (entry_at key u.entries q) → AllByRecursion (IsKeyOf key q) values → IsKeyOf key q (meet_from key merges u values)
  keys_from [] u q lt below own all = own
  keys_from (Empty ∷ values) u q lt below own all = absurd (true≢false (sym all.0))
  keys_from (NonEmpty v ∷ values) u q lt below own all =
      let low : q < v.theta = low_key key v.theta v.entries q below.0 all.0 in
      let less : q < min u.theta v.theta = omega (arith, lt, low) in
      let present : IsSome (entry_at key (shared key merges u v).entries q) = both_in u v q less own all.0 in
      (elim (is_disjoint key merges u v) as (λ b. is_disjoint key merges u v ≡ b → IsKeyOf key q (cond b Empty (meet_from key merges (shared key merges u v) values))) [
        | true ↦ λ e. absurd (nothing_found key (shared key merges u v).entries q (last_of (eqb (min u.theta v.theta) MAX_THETA) (not (eqb (length u.entries) 0)) (not (eqb (length v.entries) 0)) (eqb (length (shared key merges u v).entries) 0) e) present)
        | false ↦ λ e. keys_from values (shared key merges u v) q less below.1 present all.1
      ]) refl

  -- a hash is a key of a meet if it is a key of every value
  pub meet_has : (values : List (Sketch X)) (q : ℕ) → AllByRecursion (IsBelowTheta key) values → values ≢ [] → AllByRecursion (IsKeyOf key q) values → IsKeyOf key q (meet key merges values)
  meet_has [] q below some all = absurd (some refl)
  meet_has (Empty ∷ values) q below some all = absurd (true≢false (sym all.0))
  meet_has (NonEmpty v ∷ values) q below some all = keys_from values v q (low_key key v.theta v.entries q below.0 all.0) below.1 all.0 all.1

  -- and nowhere else
  pub has_meet : (values : List (Sketch X)) (q : ℕ) → IsKeyOf key q (meet key merges values) → (values ≢ []) × AllByRecursion (IsKeyOf key q) values
  has_meet [] q found = absurd (true≢false (sym found))
  has_meet (Empty ∷ values) q found = absurd (true≢false (sym found))
  has_meet (NonEmpty v ∷ values) q found = (λ none. absurd (cc), from_keys values v q found)

  ascending_from : (values : List (Sketch X)) (u : Retained X) → IsAscending key u.entries → IsAscending key (entries_of (meet_from key merges u values))
  ascending_from [] u up = up
  ascending_from (Empty ∷ values) u up = ascending-nil key
  ascending_from (NonEmpty v ∷ values) u up =
      elim (is_disjoint key merges u v) as (λ b. IsAscending key (entries_of (cond b Empty (meet_from key merges (shared key merges u v) values)))) [
        | true ↦ ascending-nil key
        | false ↦ ascending_from values (shared key merges u v) (ascending-filter key _ (common key merges u.entries v.entries) (ascending-common key merges keeps u.entries v.entries up))
      ]

  ascending_meet : (values : List (Sketch X)) → AllByRecursion (IsAscendingValue key) values → IsAscending key (entries_of (meet key merges values))
  ascending_meet [] up = ascending-nil key
  ascending_meet (Empty ∷ values) up = ascending-nil key
  ascending_meet (NonEmpty v ∷ values) up = ascending_from values v up.0

  moved : (xs ys : List (Sketch X)) → IsPermutation xs ys → AllByRecursion (IsBelowTheta key) ys → (q : ℕ) → IsKeyOf key q (meet key merges xs) → IsKeyOf key q (meet key merges ys)
  moved xs ys permuted below q found =
      let have = has_meet xs q found in
      meet_has ys q below (permuted_nothing xs ys permuted have.0) (each-permuted (IsKeyOf key q) xs ys permuted have.1)

  -- the order of values doesn't matter
  pub permuted_keys : (values others : List (Sketch X)) → AllByRecursion (IsAscendingValue key) values → AllByRecursion (IsBelowTheta key) values → IsPermutation values others → keys_of key (meet key merges values) ≡ keys_of key (meet key merges others)
  permuted_keys values others up below permuted =
      same_keys key (entries_of (meet key merges values)) (entries_of (meet key merges others)) (ascending_meet values up) (ascending_meet others (each-permuted (IsAscendingValue key) values others permuted up))
      (λ q found. moved values others permuted (each-permuted (IsBelowTheta key) values others permuted below) q found)
      (λ q found. moved others values (IsPermutation-sym values others permuted) below q found)

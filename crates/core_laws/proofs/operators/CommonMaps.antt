-- The common part of maps, and their difference.
use Rattle.std.proofs.Common.{◌≡◌, ℕ, ◌<◌, ◌≤◌, ◌≢◌, Bool, true, false, cond, ltb, eqb, is_none, List, [], ◌∷◌, Option, Some, None, refl, sym, ap, ◌∙◌, subst, arith}
use Rattle.std.specs.Prelude.{◌&&◌}
use Rattle.std.specs.List.{filter, AllByRecursion}
use Rattle.std.proofs.lemmas.Bool.Decides.{nat_tests}
use Rattle.core_laws.specs.Maps.{IsAscending, below, entry_at}
use Rattle.core_laws.specs.Operators.{common, lacking, both}
use Rattle.core_laws.proofs.maps.Ascending.{each-weaker, ascending-head, ascending-tail, ascending-nil, ascending-cons, ascending-filter}
use Rattle.core_laws.proofs.maps.LookUps.{entry_at-below, entry_at_head, entry_at_rest, same_map}
use Rattle.core_laws.proofs.cuts.WithinWholeMaps.{found_key}
use Rattle.core_laws.specs.Entries.{KeepsKey}

and_false : (b : Bool) → (b && false) ≡ false
and_false true = refl
and_false false = refl

module _ {X : Type 0} (key : X → ℕ) (merges : X → X → X) (keeps : KeepsKey key merges) where
  shared_key : (x : X) (ys : List X) (y : X) → entry_at key ys (key x) ≡ Some y → key (merges x y) ≡ key x
  shared_key x ys y e = let same : key y ≡ key x = found_key key ys (key x) y e in keeps x y (sym same) ∙ same

  both_none : (o : Option X) → both merges o None ≡ None
  both_none None = refl
  both_none (Some x) = refl

  pub entry_at-common : (xs ys : List X) (q : ℕ) → entry_at key (common key merges xs ys) q ≡ both merges (entry_at key xs q) (entry_at key ys q)
  entry_at-common [] ys q = refl
  entry_at-common (x ∷ xs) ys q =
      let rest = entry_at-common xs ys q in
      (elim (eqb (key x) q) as (λ b. eqb (key x) q ≡ b → entry_at key (common key merges (x ∷ xs) ys) q ≡ both merges (cond b (Some x) (entry_at key xs q)) (entry_at key ys q)) [
        | true ↦ λ e.
            let same : key x ≡ q = grind (arith, nat_tests) in
            (elim (entry_at key ys (key x)) as (λ o. entry_at key ys (key x) ≡ o → entry_at key (common key merges (x ∷ xs) ys) q ≡ both merges (Some x) (entry_at key ys q)) [
              | Some y ↦ λ f.
                  let found : entry_at key ys q ≡ Some y = subst (λ (h : ℕ). entry_at key ys h ≡ Some y) same f in
                  rw (f, found) (entry_at_head key (merges x y) (common key merges xs ys) q (shared_key x ys y f ∙ same))
              | None ↦ λ f.
                  let absent : entry_at key ys q ≡ None = subst (λ (h : ℕ). entry_at key ys h ≡ None) same f in
                  rw (f, absent) (rest ∙ ap (λ o. both merges (entry_at key xs q) o) absent ∙ both_none (entry_at key xs q))
            ]) refl
        | false ↦ λ e.
            let differs : key x ≢ q = grind (arith, nat_tests) in
            (elim (entry_at key ys (key x)) as (λ o. entry_at key ys (key x) ≡ o → entry_at key (common key merges (x ∷ xs) ys) q ≡ both merges (entry_at key xs q) (entry_at key ys q)) [
              | Some y ↦ λ f. rw f (entry_at_rest key (merges x y) (common key merges xs ys) q (λ (tie : key (merges x y) ≡ q). differs (sym (shared_key x ys y f) ∙ tie)) ∙ rest)
              | None ↦ λ f. rw f rest
            ]) refl
      ]) refl

  -- a property of keys
  pub each-common : (P : ℕ → Type 0) (xs ys : List X) → AllByRecursion (λ x. P (key x)) xs → AllByRecursion (λ x. P (key x)) (common key merges xs ys)
  each-common P [] ys all = tt
  each-common P (x ∷ xs) ys all =
      (elim (entry_at key ys (key x)) as (λ o. entry_at key ys (key x) ≡ o → AllByRecursion (λ z. P (key z)) (common key merges (x ∷ xs) ys)) [
        | Some y ↦ λ f. rw f (subst P (sym (shared_key x ys y f)) all.0, each-common P xs ys all.1)
        | None ↦ λ f. rw f (each-common P xs ys all.1)
      ]) refl

  pub ascending-common : (xs ys : List X) → IsAscending key xs → IsAscending key (common key merges xs ys)
  ascending-common [] ys up = ascending-nil key
  ascending-common (x ∷ xs) ys up =
      let rest : IsAscending key (common key merges xs ys) = ascending-common xs ys (ascending-tail key x xs up) in
      (elim (entry_at key ys (key x)) as (λ o. entry_at key ys (key x) ≡ o → IsAscending key (common key merges (x ∷ xs) ys)) [
        | Some y ↦ λ f.
            let head : AllByRecursion (λ z. key (merges x y) < key z) (common key merges xs ys) =
            each-common (λ h. key (merges x y) < h) xs ys (each-weaker _ _ (λ z less. omega (arith, less, shared_key x ys y f)) xs (ascending-head key x xs up)) in
            rw f (ascending-cons key (merges x y) (common key merges xs ys) head rest)
        | None ↦ λ f. rw f rest
      ]) refl

  -- below the lesser theta nothing that was cut away before is lost
  pub below-common : (xs ys : List X) (u v t : ℕ) → IsAscending key xs → t ≤ u → t ≤ v → below key (common key merges (below key xs u) (below key ys v)) t ≡ below key (common key merges xs ys) t
  below-common xs ys u v t up le_u le_v =
      same_map key _ _ (ascending-filter key _ _ (ascending-common (below key xs u) (below key ys v) (ascending-filter key _ xs up))) (ascending-filter key _ _ (ascending-common xs ys up))
      (λ q. entry_at-below key (common key merges (below key xs u) (below key ys v)) t q
      ∙ (elim (ltb q t) as (λ b. ltb q t ≡ b → cond b (entry_at key (common key merges (below key xs u) (below key ys v)) q) None ≡ cond b (entry_at key (common key merges xs ys) q) None) [
        | true ↦ λ e.
            let low_u : ltb q u ≡ true = grind (arith, nat_tests) in
            let low_v : ltb q v ≡ true = grind (arith, nat_tests) in
            entry_at-common (below key xs u) (below key ys v) q
            ∙ ap (λ o. both merges o (entry_at key (below key ys v) q)) (entry_at-below key xs u q ∙ ap (λ b. cond b (entry_at key xs q) None) low_u)
            ∙ ap (λ o. both merges (entry_at key xs q) o) (entry_at-below key ys v q ∙ ap (λ b. cond b (entry_at key ys q) None) low_v)
            ∙ sym (entry_at-common xs ys q)
        | false ↦ λ e. refl
      ]) refl
      ∙ sym (entry_at-below key (common key merges xs ys) t q))

  pub common-nil : (xs : List X) → common key merges xs [] ≡ []
  common-nil [] = refl
  common-nil (x ∷ xs) = common-nil xs

module _ {X : Type 0} where
  pub filter-and : (p q : X → Bool) (xs : List X) → filter p (filter q xs) ≡ filter (λ x. q x && p x) xs
  filter-and p q [] = refl
  filter-and p q (x ∷ xs) =
      elim (q x) as (λ b. filter p (cond b (x ∷ filter q xs) (filter q xs)) ≡ cond (b && p x) (x ∷ filter (λ y. q y && p y) xs) (filter (λ y. q y && p y) xs)) [
        | true ↦ ap (λ zs. cond (p x) (x ∷ zs) zs) (filter-and p q xs)
        | false ↦ filter-and p q xs
      ]

  pub filter-agree : (p q : X → Bool) (xs : List X) → ((x : X) → p x ≡ q x) → filter p xs ≡ filter q xs
  filter-agree p q [] same = refl
  filter-agree p q (x ∷ xs) same = ap (λ b. cond b (x ∷ filter p xs) (filter p xs)) (same x) ∙ ap (λ zs. cond (q x) (x ∷ zs) zs) (filter-agree p q xs same)

module _ {X Y : Type 0} (key : X → ℕ) (other : Y → ℕ) where
  -- below a theta, the difference depends only on the parts of both maps below it
  pub below-lacking : (xs : List X) (ys : List Y) (u v t : ℕ) → t ≤ u → t ≤ v → below key (lacking key other (below key xs u) (below other ys v)) t ≡ below key (lacking key other xs ys) t
  below-lacking xs ys u v t le_u le_v =
      ap (λ zs. below key zs t) (filter-and (λ x. is_none (entry_at other (below other ys v) (key x))) (λ x. ltb (key x) u) xs)
      ∙ filter-and (λ x. ltb (key x) t) (λ x. ltb (key x) u && is_none (entry_at other (below other ys v) (key x))) xs
      ∙ filter-agree _ (λ x. is_none (entry_at other ys (key x)) && ltb (key x) t) xs (λ x.
      (elim (ltb (key x) t) as (λ b. ltb (key x) t ≡ b → ((ltb (key x) u && is_none (entry_at other (below other ys v) (key x))) && b) ≡ (is_none (entry_at other ys (key x)) && b)) [
        | true ↦ λ e.
            let low_u : ltb (key x) u ≡ true = grind (arith, nat_tests) in
            let low_v : ltb (key x) v ≡ true = grind (arith, nat_tests) in
            let same : entry_at other (below other ys v) (key x) ≡ entry_at other ys (key x) = entry_at-below other ys v (key x) ∙ ap (λ b. cond b (entry_at other ys (key x)) None) low_v in
            rw (low_u, same) refl
        | false ↦ λ e. and_false (ltb (key x) u && is_none (entry_at other (below other ys v) (key x))) ∙ sym (and_false (is_none (entry_at other ys (key x))))
      ]) refl)
      ∙ sym (filter-and (λ x. ltb (key x) t) (λ x. is_none (entry_at other ys (key x))) xs)

  pub lacking-nil : (xs : List X) → lacking key other xs [] ≡ xs
  lacking-nil [] = refl
  lacking-nil (x ∷ xs) = ap (λ zs. x ∷ zs) (lacking-nil xs)

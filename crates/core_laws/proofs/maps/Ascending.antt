-- Lists of entries that ascend by key, their parts, and places in them.
use Rattle.std.proofs.Common.{◌≡◌, ℕ, zero, suc, ◌<◌, ◌≤◌, Bool, true, false, cond, List, [], ◌∷◌, ◌++◌, length, get_or, take, drop, refl, sym, ap, ◌∙◌, arith}
use Rattle.std.specs.List.{filter, AllByRecursion}
use Rattle.std.proofs.lemmas.Bool.Decides.{nat_tests}
use Rattle.std.proofs.lemmas.Bool.{ltb-true}
use Rattle.std.proofs.lemmas.List.{length-take-le, get_or_default}
use Rattle.std.proofs.lemmas.List.Sums.{length-filter}
use Rattle.core_laws.specs.Maps.{IsAscending, below, above, with_entry, rank}

module _ {X : Type 0} where
  -- a property of each element is one of each element that passes
  pub each-filter : (P : X → Type 0) (p : X → Bool) (xs : List X) → AllByRecursion P xs → AllByRecursion P (filter p xs)
  each-filter P p [] all = tt
  each-filter P p (x ∷ xs) all =
      elim (p x) as (λ b. AllByRecursion P (cond b (x ∷ filter p xs) (filter p xs))) [ true ↦ (all.0, each-filter P p xs all.1) | false ↦ each-filter P p xs all.1 ]

  pub each-weaker : (P Q : X → Type 0) → ((x : X) → P x → Q x) → (xs : List X) → AllByRecursion P xs → AllByRecursion Q xs
  each-weaker P Q f [] all = tt
  each-weaker P Q f (x ∷ xs) all = (f x all.0, each-weaker P Q f xs all.1)

  pub each-append : (P : X → Type 0) (xs ys : List X) → AllByRecursion P xs → AllByRecursion P ys → AllByRecursion P (xs ++ ys)
  each-append P [] ys a b = b
  each-append P (x ∷ xs) ys a b = (a.0, each-append P xs ys a.1 b)

  pub each-get_or : (P : X → Type 0) (xs : List X) (i : ℕ) (d : X) → i < length xs → AllByRecursion P xs → P (get_or xs i d)
  each-get_or P [] i d lt all = absurd (omega arith)
  each-get_or P (x ∷ xs) zero d lt all = all.0
  each-get_or P (x ∷ xs) (suc i) d lt all = each-get_or P xs i d (omega arith) all.1

  -- each element that passes passes
  pub each-passes : (P : X → Type 0) (p : X → Bool) → ((x : X) → p x ≡ true → P x) → (xs : List X) → AllByRecursion P (filter p xs)
  each-passes P p f [] = tt
  each-passes P p f (x ∷ xs) =
      (elim (p x) as (λ b. p x ≡ b → AllByRecursion P (cond b (x ∷ filter p xs) (filter p xs))) [ true ↦ λ e. (f x e, each-passes P p f xs) | false ↦ λ _. each-passes P p f xs ]) refl

  -- a list all of whose elements pass is its own filter
  pub filter_each : (p : X → Bool) (xs : List X) → AllByRecursion (λ x. p x ≡ true) xs → filter p xs ≡ xs
  filter_each p [] all = refl
  filter_each p (x ∷ xs) all = rw all.0 (ap (λ ys. x ∷ ys) (filter_each p xs all.1))

module _ {X : Type 0} (key : X → ℕ) where
  pub ascending-head : (x : X) (xs : List X) → IsAscending key (x ∷ xs) → AllByRecursion (λ y. key x < key y) xs
  unfolding IsAscending
  ascending-head x xs up = up.0

  pub ascending-tail : (x : X) (xs : List X) → IsAscending key (x ∷ xs) → IsAscending key xs
  unfolding IsAscending
  ascending-tail x xs up = up.1

  pub ascending-nil : IsAscending key []
  unfolding IsAscending
  ascending-nil = tt

  pub ascending-cons : (x : X) (xs : List X) → AllByRecursion (λ y. key x < key y) xs → IsAscending key xs → IsAscending key (x ∷ xs)
  unfolding IsAscending
  ascending-cons x xs head tail = (head, tail)

  -- a later key is greater
  pub ascending_at : (xs : List X) (i j : ℕ) (d : X) → IsAscending key xs → i < j → j < length xs → key (get_or xs i d) < key (get_or xs j d)
  ascending_at [] i j d up lt in_range = absurd (omega arith)
  ascending_at (x ∷ xs) i zero d up lt in_range = absurd (omega arith)
  ascending_at (x ∷ xs) zero (suc j) d up lt in_range = each-get_or (λ y. key x < key y) xs j d (omega arith) (ascending-head x xs up)
  ascending_at (x ∷ xs) (suc i) (suc j) d up lt in_range = ascending_at xs i j d (ascending-tail x xs up) (omega arith) (omega arith)

  pub ascending-filter : (p : X → Bool) (xs : List X) → IsAscending key xs → IsAscending key (filter p xs)
  ascending-filter p [] up = up
  ascending-filter p (x ∷ xs) up =
      elim (p x) as (λ b. IsAscending key (cond b (x ∷ filter p xs) (filter p xs))) [
        | true ↦ ascending-cons x _ (each-filter _ p xs (ascending-head x xs up)) (ascending-filter p xs (ascending-tail x xs up))
        | false ↦ ascending-filter p xs (ascending-tail x xs up)
      ]

  -- keys below h, and then keys from h on
  pub ascending-append : (h : ℕ) (xs ys : List X) → IsAscending key xs → IsAscending key ys → AllByRecursion (λ x. key x < h) xs → AllByRecursion (λ y. h ≤ key y) ys → IsAscending key (xs ++ ys)
  ascending-append h [] ys upx upy lo hi = upy
  ascending-append h (x ∷ xs) ys upx upy lo hi =
      let later : AllByRecursion (λ y. key x < key y) ys = each-weaker _ _ (λ y le. omega (arith, lo.0, le)) ys hi in
      ascending-cons x _ (each-append _ xs ys (ascending-head x xs upx) later) (ascending-append h xs ys (ascending-tail x xs upx) upy lo.1 hi)

  -- the map with one more entry, or another at its key, ascends
  pub ascending-with_entry : (xs : List X) (x : X) → IsAscending key xs → IsAscending key (with_entry key xs x)
  ascending-with_entry xs x up =
      let higher : AllByRecursion (λ y. key x < key y) (above key xs (key x)) = each-passes _ _ (λ y e. ltb-true _ _ e) xs in
      let lower : AllByRecursion (λ y. key y < key x) (below key xs (key x)) = each-passes _ _ (λ y e. ltb-true _ _ e) xs in
      let rest : AllByRecursion (λ y. key x ≤ key y) (x ∷ above key xs (key x)) = (omega arith, each-weaker _ _ (λ y lt. omega (arith, lt)) _ higher) in
      ascending-append (key x) _ _ (ascending-filter _ xs up) (ascending-cons x _ higher (ascending-filter _ xs up)) lower rest

  pub each-with_entry : (P : X → Type 0) (xs : List X) (x : X) → AllByRecursion P xs → P x → AllByRecursion P (with_entry key xs x)
  each-with_entry P xs x all p = each-append P _ _ (each-filter P _ xs all) (p, each-filter P _ xs all)

  -- keys below h are before place i, and the others from it on
  pub record Parts (xs : List X) (h i : ℕ) : Type 0 where
    pub within : i ≤ length xs
    pub smaller : (k : ℕ) (d : X) → k < i → key (get_or xs k d) < h
    pub others : (k : ℕ) (d : X) → i ≤ k → k < length xs → h ≤ key (get_or xs k d)

  parts-tail : (x : X) (xs : List X) (h i : ℕ) → Parts (x ∷ xs) h (suc i) → Parts xs h i
  parts-tail x xs h i parts =
      record { within = omega (arith, parts.within); smaller = λ k d lt. parts.smaller (suc k) d (omega arith); others = λ k d le lt. parts.others (suc k) d (omega arith) (omega arith) }

  parts-none : (x : X) (xs : List X) (h : ℕ) → Parts (x ∷ xs) h zero → Parts xs h zero
  parts-none x xs h parts =
      record { within = omega arith; smaller = λ k d lt. absurd (omega arith); others = λ k d le lt. parts.others (suc k) d (omega arith) (omega arith) }

  pub below_parts : (xs : List X) (h i : ℕ) → Parts xs h i → below key xs h ≡ take i xs
  below_parts [] h zero parts = refl
  below_parts [] h (suc i) parts = refl
  below_parts (x ∷ xs) h zero parts = grind (arith, nat_tests, parts.others zero x (omega arith) (omega arith), below_parts xs h zero (parts-none x xs h parts))
  below_parts (x ∷ xs) h (suc i) parts = grind (arith, nat_tests, parts.smaller zero x (omega arith), below_parts xs h i (parts-tail x xs h i parts))

  pub above_parts : (xs : List X) (h i : ℕ) → Parts xs (suc h) i → above key xs h ≡ drop i xs
  above_parts [] h zero parts = refl
  above_parts [] h (suc i) parts = refl
  above_parts (x ∷ xs) h zero parts = grind (arith, nat_tests, parts.others zero x (omega arith) (omega arith), above_parts xs h zero (parts-none x xs (suc h) parts))
  above_parts (x ∷ xs) h (suc i) parts = grind (arith, nat_tests, parts.smaller zero x (omega arith), above_parts xs h i (parts-tail x xs (suc h) i parts))

  pub rank_parts : (xs : List X) (h i : ℕ) → Parts xs h i → rank key xs h ≡ i
  rank_parts xs h i parts = sym (length-filter _ xs) ∙ ap length (below_parts xs h i parts) ∙ length-take-le i xs parts.within

  -- if the key at place i is h
  pub parts_at : (xs : List X) (i : ℕ) (d : X) → IsAscending key xs → i < length xs → Parts xs (key (get_or xs i d)) i
  parts_at xs i d up lt = record {
    within = omega arith;
    smaller = λ k e less. rw (get_or_default xs i d e lt) (ascending_at xs k i e up less lt);
    others = λ k e le in_range. rw (get_or_default xs i d e lt) (grind (arith, ascending_at xs i k e up, λ (same : i ≡ k). ap (λ j. key (get_or xs j e)) same));
  }

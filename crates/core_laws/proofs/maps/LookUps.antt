-- A map by its entry at each key.
use Rattle.std.proofs.Common.{◌≡◌, ℕ, ◌<◌, ◌≢◌, Bool, true, false, cond, ltb, eqb, List, [], ◌∷◌, ◌++◌, Option, Some, None, inl, inr, refl, sym, ap, ◌∙◌, subst, arith}
use Rattle.std.specs.List.{filter, AllByRecursion}
use Rattle.std.specs.Option.{option_map_or}
use Rattle.std.proofs.lemmas.Bool.{cases_lt}
use Rattle.std.proofs.lemmas.Bool.Decides.{nat_tests}
use Rattle.core_laws.specs.Maps.{IsAscending, below, above, entry_at, with_entry}
use Rattle.core_laws.proofs.maps.Ascending.{each-weaker, ascending-head, ascending-tail}

module _ {X : Type 0} (key : X → ℕ) where
  pub entry_at-append : (xs ys : List X) (q : ℕ) → entry_at key (xs ++ ys) q ≡ option_map_or Some (entry_at key xs q) (entry_at key ys q)
  entry_at-append [] ys q = refl
  entry_at-append (x ∷ xs) ys q =
      elim (eqb (key x) q) as (λ b. cond b (Some x) (entry_at key (xs ++ ys) q) ≡ option_map_or Some (cond b (Some x) (entry_at key xs q)) (entry_at key ys q)) [ true ↦ refl | false ↦ entry_at-append xs ys q ]

  -- if the entries that have the key pass
  pub entry_at-filter_in : (p : X → Bool) (xs : List X) (q : ℕ) → ((x : X) → key x ≡ q → p x ≡ true) → entry_at key (filter p xs) q ≡ entry_at key xs q
  entry_at-filter_in p [] q passes = refl
  entry_at-filter_in p (x ∷ xs) q passes =
      (elim (eqb (key x) q) as (λ b. eqb (key x) q ≡ b → entry_at key (cond (p x) (x ∷ filter p xs) (filter p xs)) q ≡ cond b (Some x) (entry_at key xs q)) [
        | true ↦ λ e. rw (passes x (grind (arith, nat_tests)), e) refl
        | false ↦ λ e. elim (p x) as (λ b. entry_at key (cond b (x ∷ filter p xs) (filter p xs)) q ≡ entry_at key xs q) [ true ↦ rw e (entry_at-filter_in p xs q passes) | false ↦ entry_at-filter_in p xs q passes ]
      ]) refl

  -- if they do not
  pub entry_at-filter_out : (p : X → Bool) (xs : List X) (q : ℕ) → ((x : X) → key x ≡ q → p x ≡ false) → entry_at key (filter p xs) q ≡ None
  entry_at-filter_out p [] q fails = refl
  entry_at-filter_out p (x ∷ xs) q fails =
      (elim (eqb (key x) q) as (λ b. eqb (key x) q ≡ b → entry_at key (cond (p x) (x ∷ filter p xs) (filter p xs)) q ≡ None) [
        | true ↦ λ e. rw (fails x (grind (arith, nat_tests))) (entry_at-filter_out p xs q fails)
        | false ↦ λ e. elim (p x) as (λ b. entry_at key (cond b (x ∷ filter p xs) (filter p xs)) q ≡ None) [ true ↦ rw e (entry_at-filter_out p xs q fails) | false ↦ entry_at-filter_out p xs q fails ]
      ]) refl

  pub entry_at-below : (xs : List X) (t q : ℕ) → entry_at key (below key xs t) q ≡ cond (ltb q t) (entry_at key xs q) None
  entry_at-below xs t q =
      (elim (ltb q t) as (λ b. ltb q t ≡ b → entry_at key (below key xs t) q ≡ cond b (entry_at key xs q) None) [
        | true ↦ λ e. entry_at-filter_in (λ x. ltb (key x) t) xs q (λ x f. grind (arith, nat_tests))
        | false ↦ λ e. entry_at-filter_out (λ x. ltb (key x) t) xs q (λ x f. grind (arith, nat_tests))
      ]) refl

  pub option_itself : (o : Option X) → option_map_or Some o None ≡ o
  option_itself None = refl
  option_itself (Some x) = refl

  pub entry_at-with_entry : (xs : List X) (x : X) (q : ℕ) → entry_at key (with_entry key xs x) q ≡ cond (eqb (key x) q) (Some x) (entry_at key xs q)
  entry_at-with_entry xs x q =
      entry_at-append (below key xs (key x)) (x ∷ above key xs (key x)) q ∙
      (elim (eqb (key x) q) as (λ b. eqb (key x) q ≡ b → option_map_or Some (entry_at key (below key xs (key x)) q) (cond b (Some x) (entry_at key (above key xs (key x)) q)) ≡ cond b (Some x) (entry_at key xs q)) [
        | true ↦ λ e. rw (entry_at-filter_out (λ y. ltb (key y) (key x)) xs q (λ y f. grind (arith, nat_tests))) refl
        | false ↦ λ e.
            elim (cases_lt q (key x)) [
              | inl lt ↦
                  rw (entry_at-filter_in (λ y. ltb (key y) (key x)) xs q (λ y f. grind (arith, nat_tests)), entry_at-filter_out (λ y. ltb (key x) (key y)) xs q (λ y f. grind (arith, nat_tests)))
                  (option_itself (entry_at key xs q))
              | inr le ↦
                  rw (entry_at-filter_out (λ y. ltb (key y) (key x)) xs q (λ y f. grind (arith, nat_tests)), entry_at-filter_in (λ y. ltb (key x) (key y)) xs q (λ y f. grind (arith, nat_tests))) refl
            ]
      ]) refl

  -- no key above q is q
  pub entry_at_past : (xs : List X) (q : ℕ) → AllByRecursion (λ y. q < key y) xs → entry_at key xs q ≡ None
  entry_at_past [] q all = refl
  entry_at_past (x ∷ xs) q all = let e : eqb (key x) q ≡ false = grind (arith, nat_tests, all.0) in rw e (entry_at_past xs q all.1)

  -- the first entry is found at its key
  pub entry_at_head : (x : X) (xs : List X) (q : ℕ) → key x ≡ q → entry_at key (x ∷ xs) q ≡ Some x
  entry_at_head x xs q same = let e : eqb (key x) q ≡ true = grind (arith, nat_tests) in rw e refl

  -- at another key than that of the first entry the others decide
  pub entry_at_rest : (x : X) (xs : List X) (q : ℕ) → key x ≢ q → entry_at key (x ∷ xs) q ≡ entry_at key xs q
  entry_at_rest x xs q differs = let e : eqb (key x) q ≡ false = grind (arith, nat_tests) in rw e refl

  -- nothing is found below the first key of a map
  pub past : (x : X) (xs : List X) (q : ℕ) → IsAscending key (x ∷ xs) → q < key x → entry_at key (x ∷ xs) q ≡ None
  past x xs q up lt = entry_at_past (x ∷ xs) q (lt, each-weaker _ _ (λ y less. omega (arith, lt, less)) xs (ascending-head key x xs up))

  -- two ascending lists that have the same entry at each key are equal
  pub same_map : (xs ys : List X) → IsAscending key xs → IsAscending key ys → ((q : ℕ) → entry_at key xs q ≡ entry_at key ys q) → xs ≡ ys
  same_map [] [] upx upy same = refl
  same_map [] (y ∷ ys) upx upy same = absurd (let a = same (key y) in let b = entry_at_head y ys (key y) refl in cc)
  same_map (x ∷ xs) [] upx upy same = absurd (let a = same (key x) in let b = entry_at_head x xs (key x) refl in cc)
  same_map (x ∷ xs) (y ∷ ys) upx upy same =
      elim (cases_lt (key x) (key y)) [
        | inl lt ↦ absurd (let a = same (key x) in let b = entry_at_head x xs (key x) refl in let c = past y ys (key x) upy lt in cc)
        | inr ge ↦ elim (cases_lt (key y) (key x)) [
          | inl gt ↦ absurd (let a = same (key y) in let b = entry_at_head y ys (key y) refl in let c = past x xs (key y) upx gt in cc)
          | inr le ↦
              let tie : key y ≡ key x = omega arith in
              let head : x ≡ y = let a = same (key x) in let b = entry_at_head x xs (key x) refl in let c = entry_at_head y ys (key x) tie in cc in
              let later : AllByRecursion (λ z. key x < key z) ys = each-weaker _ _ (λ z less. omega (arith, less)) ys (ascending-head key y ys upy) in
              let tails : (q : ℕ) → entry_at key xs q ≡ entry_at key ys q = λ q.
              (elim (eqb (key x) q) as (λ b. eqb (key x) q ≡ b → entry_at key xs q ≡ entry_at key ys q) [
                | true ↦ λ e. let present : key x ≡ q = grind (arith, nat_tests) in subst (λ (u : ℕ). entry_at key xs u ≡ entry_at key ys u) present (entry_at_past xs (key x) (ascending-head key x xs upx) ∙ sym (entry_at_past ys (key x) later))
                | false ↦ λ e.
                    let nx : key x ≢ q = grind (arith, nat_tests) in
                    let ny : key y ≢ q = grind (arith, nat_tests) in
                    sym (entry_at_rest x xs q nx) ∙ same q ∙ entry_at_rest y ys q ny
              ]) refl in
              rw head (ap (λ zs. y ∷ zs) (same_map xs ys (ascending-tail key x xs upx) (ascending-tail key y ys upy) tails))
        ]
      ]

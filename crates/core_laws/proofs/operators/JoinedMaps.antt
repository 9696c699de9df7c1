-- Joined, common and lacking maps at each key.
use Rattle.std.proofs.Common.{◌≡◌, ℕ, ◌<◌, ◌≤◌, ◌≢◌, true, false, cond, ltb, eqb, IsSome, is_some, min, List, [], ◌∷◌, length, Option, Some, None, inl, inr, refl, sym, ap, ◌∙◌, subst, arith}
use Rattle.std.specs.Option.{option_map_or}
use Rattle.std.proofs.lemmas.Bool.{cases_lt}
use Rattle.std.proofs.lemmas.Bool.Decides.{nat_tests}
use Rattle.core_laws.specs.Maps.{IsAscending, below, rank, entry_at, with_entry, IsApart}
use Rattle.core_laws.specs.Lawful.{IsLawful}
use Rattle.core_laws.specs.Operators.{join, joined}
use Rattle.core_laws.proofs.maps.Ascending.{ascending-head, ascending-tail, ascending-nil, ascending-filter, ascending-with_entry}
use Rattle.core_laws.proofs.cuts.Cuts.{length-below}
use Rattle.core_laws.proofs.maps.LookUps.{entry_at-below, entry_at-with_entry, entry_at_past, entry_at_head, entry_at_rest, past, same_map}
use Rattle.core_laws.proofs.cuts.WithinWholeMaps.{found_key, below-with_entry_high, below-with_entry_low, has-with_entry, length-with_entry}
use Rattle.core_laws.proofs.maps.MapsOfLists.{ascending-apart}
use Rattle.core_laws.specs.Entries.{KeepsKey}

module _ {X : Type 0} where
  -- the entry at a key of two joined maps
  abbrev pub either : (X → X → X) → Option X → Option X → Option X
  either merges o None = o
  either merges o (Some x) = Some (option_map_or (λ w. merges w x) o x)

module _ {X : Type 0} (key : X → ℕ) where
  -- one map has the keys of another
  pub record Extends (xs ys : List X) : Type 0 where
    pub has : (q : ℕ) → IsSome (entry_at key xs q) → IsSome (entry_at key ys q)
    pub ranks : (t : ℕ) → rank key xs t ≤ rank key ys t

  pub rank-with_entry : (xs : List X) (x : X) (t : ℕ) → IsAscending key xs → rank key xs t ≤ rank key (with_entry key xs x) t
  rank-with_entry xs x t up =
      let before = length-below key xs t in
      let after = length-below key (with_entry key xs x) t in
      elim (cases_lt (key x) t) [
        | inl lt ↦ omega (arith, before, after, ap length (below-with_entry_low key xs x t lt), length-with_entry key (below key xs t) x (ascending-filter key (λ y. ltb (key y) t) xs up))
        | inr le ↦ omega (arith, before, after, ap length (below-with_entry_high key xs x t le))
      ]

  some_none : {o : Option X} → o ≡ None → IsSome o → ⊥
  some_none none found = (cc)

  both_below : (t q : ℕ) (xs ys : List X) → (IsSome (entry_at key xs q) → IsSome (entry_at key ys q)) → IsSome (cond (ltb q t) (entry_at key xs q) None) → IsSome (cond (ltb q t) (entry_at key ys q) None)
  both_below t q xs ys has = elim (ltb q t) as (λ b. IsSome (cond b (entry_at key xs q) None) → IsSome (cond b (entry_at key ys q) None)) [ true ↦ has | false ↦ λ found. found ]

  -- a map whose keys another has is no longer
  length_subset : (xs ys : List X) → IsAscending key xs → IsAscending key ys → ((q : ℕ) → IsSome (entry_at key xs q) → IsSome (entry_at key ys q)) → length xs ≤ length ys
  length_subset [] ys upx upy has = omega arith
  length_subset (x ∷ xs) [] upx upy has = absurd (let a = has (key x) (ap is_some (entry_at_head key x xs (key x) refl)) in cc)
  length_subset (x ∷ xs) (y ∷ ys) upx upy has =
      elim (cases_lt (key y) (key x)) [
        | inl lt ↦
            let fewer : length (x ∷ xs) ≤ length ys = length_subset (x ∷ xs) ys upx (ascending-tail key y ys upy) (λ q found.
            let differs : key y ≢ q = λ (tie : key y ≡ q). (let none : entry_at key (x ∷ xs) q ≡ None = past key x xs q upx (omega (arith, lt, tie)) in some_none none found) in
            rw (← entry_at_rest key y ys q differs) (has q found)) in
            omega (arith, fewer)
        | inr ge ↦ elim (cases_lt (key x) (key y)) [
          | inl gt ↦ absurd (some_none (past key y ys (key x) upy gt) (has (key x) (ap is_some (entry_at_head key x xs (key x) refl))))
          | inr le ↦
              let fewer : length xs ≤ length ys = length_subset xs ys (ascending-tail key x xs upx) (ascending-tail key y ys upy) (λ q found.
              let differs : key x ≢ q = λ (tie : key x ≡ q). (let none : entry_at key xs q ≡ None = subst (λ (h : ℕ). entry_at key xs h ≡ None) tie (entry_at_past key xs (key x) (ascending-head key x xs upx)) in some_none none found) in
              let differs_y : key y ≢ q = λ (tie : key y ≡ q). differs (omega (arith, ge, le, tie)) in
              rw (← entry_at_rest key y ys q differs_y) (has q (rw (entry_at_rest key x xs q differs) found))) in
              omega (arith, fewer)
        ]
      ]

  pub extends-keys : (xs ys : List X) → IsAscending key xs → IsAscending key ys → ((q : ℕ) → IsSome (entry_at key xs q) → IsSome (entry_at key ys q)) → Extends xs ys
  extends-keys xs ys upx upy has = record {
    has = has;
    ranks = λ t.
        let fewer = length_subset (below key xs t) (below key ys t) (ascending-filter key _ xs upx) (ascending-filter key _ ys upy) (λ q found.
        rw (entry_at-below key ys t q) (both_below t q xs ys (has q) (rw (entry_at-below key xs t q) at found))) in
        omega (arith, fewer, length-below key xs t, length-below key ys t);
  }

module _ {X : Type 0} (key : X → ℕ) (merges : X → X → X) (keeps : KeepsKey key merges) where
  -- an entry that is merged in keeps its key
  pub join_key : (whole : List X) (x : X) → key (option_map_or (λ w. merges w x) (entry_at key whole (key x)) x) ≡ key x
  join_key whole x =
      (elim (entry_at key whole (key x)) as (λ o. entry_at key whole (key x) ≡ o → key (option_map_or (λ w. merges w x) o x) ≡ key x) [
        | Some w ↦ λ e. keeps w x (found_key key whole (key x) w e)
        | None ↦ λ e. refl
      ]) refl

  pub entry_at-join : (whole : List X) (x : X) (q : ℕ) → entry_at key (join key merges whole x) q ≡ cond (eqb (key x) q) (either merges (entry_at key whole q) (Some x)) (entry_at key whole q)
  entry_at-join whole x q =
      entry_at-with_entry key whole (option_map_or (λ w. merges w x) (entry_at key whole (key x)) x) q
      ∙ ap (λ (h : ℕ). cond (eqb h q) (Some (option_map_or (λ w. merges w x) (entry_at key whole (key x)) x)) (entry_at key whole q)) (join_key whole x)
      ∙ (elim (eqb (key x) q) as (λ b. eqb (key x) q ≡ b → cond b (Some (option_map_or (λ w. merges w x) (entry_at key whole (key x)) x)) (entry_at key whole q) ≡ cond b (Some (option_map_or (λ w. merges w x) (entry_at key whole q) x)) (entry_at key whole q)) [
        | true ↦ λ e. let same : key x ≡ q = grind (arith, nat_tests) in ap (λ (h : ℕ). Some (option_map_or (λ w. merges w x) (entry_at key whole h) x)) same
        | false ↦ λ e. refl
      ]) refl

  pub entry_at-joined : (xs whole : List X) (q : ℕ) → IsApart key xs → entry_at key (joined key merges whole xs) q ≡ either merges (entry_at key whole q) (entry_at key xs q)
  entry_at-joined [] whole q apart = refl
  entry_at-joined (x ∷ xs) whole q apart =
      entry_at-joined xs (join key merges whole x) q apart.1
      ∙ ap (λ o. either merges o (entry_at key xs q)) (entry_at-join whole x q)
      ∙ (elim (eqb (key x) q) as (λ b. eqb (key x) q ≡ b → either merges (cond b (either merges (entry_at key whole q) (Some x)) (entry_at key whole q)) (entry_at key xs q) ≡ either merges (entry_at key whole q) (cond b (Some x) (entry_at key xs q))) [
        | true ↦ λ e. let same : key x ≡ q = grind (arith, nat_tests) in let none : entry_at key xs q ≡ None = subst (λ (h : ℕ). entry_at key xs h ≡ None) same apart.0 in rw none refl
        | false ↦ λ e. refl
      ]) refl

  either_none : (o : Option X) → either merges None o ≡ o
  either_none None = refl
  either_none (Some x) = refl

  pub ascending-joined : (xs whole : List X) → IsAscending key whole → IsAscending key (joined key merges whole xs)
  ascending-joined [] whole up = up
  ascending-joined (x ∷ xs) whole up = ascending-joined xs (join key merges whole x) (ascending-with_entry key whole _ up)

  -- the entries below a theta of joined maps
  pub below-joined : (xs whole : List X) (t : ℕ) → below key (joined key merges whole xs) t ≡ joined key merges (below key whole t) (below key xs t)
  below-joined [] whole t = refl
  below-joined (x ∷ xs) whole t =
      below-joined xs (join key merges whole x) t ∙
      (elim (ltb (key x) t) as (λ b. ltb (key x) t ≡ b → joined key merges (below key (join key merges whole x) t) (below key xs t) ≡ joined key merges (below key whole t) (cond b (x ∷ below key xs t) (below key xs t))) [
        | true ↦ λ e.
            let lt : key x < t = grind (arith, nat_tests) in
            let z : X = option_map_or (λ w. merges w x) (entry_at key whole (key x)) x in
            let low : key z < t = rw (join_key whole x) lt in
            let found : entry_at key (below key whole t) (key x) ≡ entry_at key whole (key x) = entry_at-below key whole t (key x) ∙ rw e refl in
            ap (λ ys. joined key merges ys (below key xs t)) (below-with_entry_low key whole z t low ∙ ap (λ o. with_entry key (below key whole t) (option_map_or (λ w. merges w x) o x)) (sym found))
        | false ↦ λ e.
            let le : t ≤ key x = grind (arith, nat_tests) in
            let z : X = option_map_or (λ w. merges w x) (entry_at key whole (key x)) x in
            let high : t ≤ key z = rw (join_key whole x) le in
            ap (λ ys. joined key merges ys (below key xs t)) (below-with_entry_high key whole z t high)
      ]) refl

  join-extends : (whole : List X) (x : X) → IsAscending key whole → Extends key whole (join key merges whole x)
  join-extends whole x up = record {
    has = λ q has. has-with_entry key whole _ q has;
    ranks = λ t. rank-with_entry key whole _ t up;
  }

  pub joined-extends : (xs whole : List X) → IsAscending key whole → Extends key whole (joined key merges whole xs)
  joined-extends [] whole up = record { has = λ q has. has; ranks = λ t. omega arith }
  joined-extends (x ∷ xs) whole up =
      let first = join-extends whole x up in
      let rest = joined-extends xs (join key merges whole x) (ascending-with_entry key whole _ up) in
      record { has = λ q has. rest.has q (first.has q has); ranks = λ t. omega (arith, first.ranks t, rest.ranks t) }

  some_either : (o p : Option X) → IsSome p → IsSome (either merges o p)
  some_either o None some = absurd (cc)
  some_either o (Some x) some = refl

  pub joined-extends_right : (xs whole : List X) → IsAscending key xs → IsAscending key whole → Extends key xs (joined key merges whole xs)
  joined-extends_right xs whole upx up =
      extends-keys key xs (joined key merges whole xs) upx (ascending-joined xs whole up)
      (λ q found. rw (entry_at-joined xs whole q (ascending-apart key xs upx)) (some_either (entry_at key whole q) (entry_at key xs q) found))

  -- a map joined to an empty one
  pub joined-nil : (xs : List X) → IsAscending key xs → joined key merges [] xs ≡ xs
  joined-nil xs up = same_map key (joined key merges [] xs) xs (ascending-joined xs [] (ascending-nil key)) up (λ q. entry_at-joined xs [] q (ascending-apart key xs up) ∙ either_none (entry_at key xs q))

  -- a lawful theta stays lawful, or is replaced by a lesser one
  pub lawful-joined : (k m u t : ℕ) (whole xs : List X) → IsAscending key whole → IsLawful key whole k m u → IsLawful key (joined key merges whole xs) k (min m t) (min u t)
  lawful-joined k m u t whole xs up (inl e) = inl (omega arith)
  lawful-joined k m u t whole xs up (inr low) =
      elim (cases_lt u t) [
        | inl lt ↦
            let same : min u t ≡ u = omega arith in
            let more = joined-extends xs whole up in
            rw same (inr (record { below_start = omega (arith, low.below_start); is_key = more.has u low.is_key; ranked = omega (arith, low.ranked, more.ranks u) }))
        | inr le ↦ inl (omega (arith, low.below_start))
      ]

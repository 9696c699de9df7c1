-- The effects of an insertion, by its cases.
use Rattle.std.proofs.Common.{◌≡◌, ℕ, ◌*◌, ◌/◌, ◌<◌, ◌≤◌, ◌≢◌, Bool, true, false, cond, leb, ltb, ◌||◌, List, [], ◌∷◌, length, Option, Some, None, inl, inr, refl, arith}
use Rattle.std.specs.Prelude.{is_some, ◌⊎◌, ◌&&◌}
use Rattle.std.specs.Option.{option_map_or}
use Rattle.std.proofs.lemmas.Bool.{cases_lt}
use Rattle.std.proofs.lemmas.Bool.Decides.{nat_tests}
use Rattle.sketch_base.specs.declared.error.ErrorKind.{ErrorKind}
use Rattle.core_laws.specs.Step.{Step}
use Rattle.core_laws.specs.Maps.{IsAscending, rank, entry_at, with_entry}
use Rattle.core_laws.specs.Cuts.{Retained, retained, cut, IsRetained}
use Rattle.core_laws.specs.Insertion.{is_screened, rebuilt, after_absent, after_upsert, creates, upsert_refusal, upsert_allocates}
use Rattle.core_laws.proofs.maps.Ascending.{ascending-with_entry, each-with_entry, each-filter, each-get_or, each-passes, ascending-filter}
use Rattle.std.proofs.lemmas.List.{length-take-le}
use Rattle.core_laws.proofs.cuts.Cuts.{cut_more, cut_few, parts_rank, cut_is_below, length-below}

or_false : (b : Bool) → (b || false) ≡ b
or_false true = refl
or_false false = refl

-- a disjunction is true if its first part is
pub or_left : (a b : Bool) → a ≡ true → (a || b) ≡ true
or_left true b e = refl
or_left false b e = cc

-- a disjunction is true if its second part is
pub or_right : (a b : Bool) → b ≡ true → (a || b) ≡ true
or_right true b e = refl
or_right false b e = e

-- a hash of 0, or at or above theta, is screened
pub is_screened_true : (h theta : ℕ) → (h ≡ 0) ⊎ (theta ≤ h) → is_screened h theta ≡ true
is_screened_true h theta (inl e) = grind (arith, nat_tests)
is_screened_true h theta (inr e) = grind (arith, nat_tests)

-- any other hash is not screened
pub is_screened_false : (h theta : ℕ) → h ≢ 0 → h < theta → is_screened h theta ≡ false
is_screened_false h theta a b = grind (arith, nat_tests)

module _ {X : Type 0} (key : X → ℕ) where
  -- a map with one more entry, below theta
  pub IsRetained-with_entry : (xs : List X) (theta : ℕ) (x : X) → IsRetained key (record { entries = xs; theta = theta }) → 0 < key x → key x < theta → IsRetained key (record { entries = with_entry key xs x; theta = theta })
  IsRetained-with_entry xs theta x v low high = record {
    ascending = ascending-with_entry key xs x v.ascending;
    nonzero = each-with_entry key _ xs x v.nonzero low;
    below_theta = each-with_entry key _ xs x v.below_theta high;
    theta_low = v.theta_low;
    theta_high = v.theta_high;
  }

  -- the entries below one of its keys
  pub IsRetained-below : (xs : List X) (theta t : ℕ) → IsRetained key (record { entries = xs; theta = theta }) → 0 < t → t ≤ theta → IsRetained key (retained key xs t)
  IsRetained-below xs theta t v low high = record {
    ascending = ascending-filter key _ xs v.ascending;
    nonzero = each-filter _ _ xs v.nonzero;
    below_theta = each-passes _ _ (λ x e. grind (arith, nat_tests)) xs;
    theta_low = low;
    theta_high = omega (arith, v.theta_high);
  }

  -- the theta of a cut is one of the keys, or unchanged
  pub cut_theta : (k : ℕ) (xs : List X) (theta : ℕ) → IsRetained key (record { entries = xs; theta = theta }) → record { low : 0 < (cut key k xs theta).theta; high : (cut key k xs theta).theta ≤ theta }
  cut_theta k [] theta v = rw (cut_few key k [] theta v.ascending (omega arith)) (record { low = v.theta_low; high = omega arith })
  cut_theta k (x ∷ xs) theta v =
      elim (cases_lt k (rank key (x ∷ xs) theta)) [
        | inl lt ↦
            let in_range : k < length (x ∷ xs) = omega (arith, (parts_rank key (x ∷ xs) theta v.ascending).within) in
            rw (cut_more key k (x ∷ xs) theta x v.ascending lt)
            (record { low = each-get_or _ (x ∷ xs) k x in_range v.nonzero; high = omega (arith, each-get_or (λ y. key y < theta) (x ∷ xs) k x in_range v.below_theta) })
        | inr le ↦ rw (cut_few key k (x ∷ xs) theta v.ascending le) (record { low = v.theta_low; high = omega arith })
      ]

  -- a cut of a retained map
  pub IsRetained-cut : (k : ℕ) (xs : List X) (theta : ℕ) → IsRetained key (record { entries = xs; theta = theta }) → IsRetained key (cut key k xs theta)
  IsRetained-cut k xs theta v =
      let bounds = cut_theta k xs theta v in
      rw (cut_is_below key k xs theta) (IsRetained-below xs theta _ v bounds.low bounds.high)

  pub IsRetained-rebuilt : (k : ℕ) (xs : List X) (theta : ℕ) → IsRetained key (record { entries = xs; theta = theta }) → IsRetained key (rebuilt key k xs theta)
  unfolding rebuilt
  IsRetained-rebuilt k xs theta v =
      elim (leb 8 k && ltb (15 * k / 8) (length xs)) as (λ b. IsRetained key (cond b (cut key k xs theta) (record { entries = xs; theta = theta }))) [ true ↦ IsRetained-cut k xs theta v | false ↦ v ]

  -- more than 15k/8 entries are cut to k, if k is at least 8
  pub rebuilt_full : (k : ℕ) (xs : List X) (theta : ℕ) → 8 ≤ k → 15 * k / 8 < length xs → rebuilt key k xs theta ≡ cut key k xs theta
  unfolding rebuilt
  rebuilt_full k xs theta large full = grind (arith, nat_tests)

  -- below a k of 8 nothing is cut
  pub rebuilt_small : (k : ℕ) (xs : List X) (theta : ℕ) → k < 8 → rebuilt key k xs theta ≡ record { entries = xs; theta = theta }
  unfolding rebuilt
  rebuilt_small k xs theta small = grind (arith, nat_tests)

  -- at most 15k/8 entries are not cut
  pub rebuilt_free : (k : ℕ) (xs : List X) (theta : ℕ) → length xs ≤ 15 * k / 8 → rebuilt key k xs theta ≡ record { entries = xs; theta = theta }
  unfolding rebuilt
  rebuilt_free k xs theta free = grind (arith, nat_tests)

  -- the result of an insertion of h, the map after it, and its refusal
  pub record IsCase (k h : ℕ) (step : Step X) (v : Retained X) (created : Bool) (after : Retained X) (refusal : Option ErrorKind) (allocates : Bool) : Type 0 where
    pub creates_is : creates key h step v ≡ created
    pub after_is : after_upsert key k h step v ≡ after
    pub refusal_is : upsert_refusal key h step v ≡ refusal
    pub allocates_is : upsert_allocates key h step v ≡ allocates

  module _ (k h : ℕ) (step : Step X) (v : Retained X) where
    -- a screened hash changes nothing
    pub screened_case : is_screened h v.theta ≡ true → IsCase k h step v false v None false
    unfolding creates after_upsert upsert_refusal upsert_allocates
    screened_case e = record { creates_is = rw e refl; after_is = rw e refl; refusal_is = rw e refl; allocates_is = rw e refl }

    -- at an existing entry the step writes it
    pub existing_case : (x : X) → is_screened h v.theta ≡ false → entry_at key v.entries h ≡ Some x → IsCase k h step v false (record { entries = with_entry key v.entries (step.writes x); theta = v.theta }) (step.refuses_existing x) step.allocates
    unfolding creates after_upsert upsert_refusal upsert_allocates
    existing_case x e at = record { creates_is = rw (e, at) refl; after_is = rw (e, at) refl; refusal_is = rw (e, at) refl; allocates_is = rw (e, at) (or_false step.allocates) }

    -- without an entry the step makes one, or declines
    pub absent_case : is_screened h v.theta ≡ false → entry_at key v.entries h ≡ None → IsCase k h step v (is_some step.makes) (after_absent key k step v) step.refuses_absent (step.allocates || is_some step.makes)
    unfolding creates after_upsert upsert_refusal upsert_allocates
    absent_case e at = record { creates_is = rw (e, at) refl; after_is = rw (e, at) refl; refusal_is = rw (e, at) refl; allocates_is = rw (e, at) refl }

    -- a step that refuses nothing
    pub never_refused : ((x : X) → step.refuses_existing x ≡ None) → step.refuses_absent ≡ None → upsert_refusal key h step v ≡ None
    unfolding upsert_refusal
    never_refused existing absent =
        elim (is_screened h v.theta) as (λ b. cond b None (option_map_or step.refuses_existing (entry_at key v.entries h) step.refuses_absent) ≡ None) [
          | true ↦ refl
          | false ↦ elim (entry_at key v.entries h) as (λ o. option_map_or step.refuses_existing o step.refuses_absent ≡ None) [ Some x ↦ existing x | None ↦ absent ]
        ]

module _ {X : Type 0} (key : X → ℕ) where
  length-cut_with : (d : X) (k : ℕ) (xs : List X) (t : ℕ) → IsAscending key xs → length (cut key k xs t).entries ≤ k
  length-cut_with d k xs t up =
      elim (cases_lt k (rank key xs t)) [
        | inl lt ↦ rw (cut_more key k xs t d up lt) (omega (arith, length-take-le k xs (omega (arith, (parts_rank key xs t up).within))))
        | inr le ↦ rw (cut_few key k xs t up le) (omega (arith, length-below key xs t))
      ]

  -- a cut keeps at most k entries
  pub length-cut : (k : ℕ) (xs : List X) (t : ℕ) → IsAscending key xs → length (cut key k xs t).entries ≤ k
  length-cut k [] t up = rw (cut_few key k [] t up (omega arith)) (omega arith)
  length-cut k (y ∷ ys) t up = length-cut_with y k (y ∷ ys) t up

  -- after a rebuild there are at most fifteen eighths of k
  pub limited-rebuilt : (k : ℕ) (xs : List X) (theta : ℕ) → IsAscending key xs → 8 ≤ k → length (rebuilt key k xs theta).entries ≤ 15 * k / 8
  limited-rebuilt k xs theta up large =
      elim (cases_lt (15 * k / 8) (length xs)) [
        | inl lt ↦ rw (rebuilt_full key k xs theta large lt) (omega (arith, length-cut k xs theta up))
        | inr le ↦ rw (rebuilt_free key k xs theta le) le
      ]

  pub limited-cut : (k : ℕ) (xs : List X) (theta : ℕ) → IsAscending key xs → 8 ≤ k → length (cut key k xs theta).entries ≤ 15 * k / 8
  limited-cut k xs theta up large = omega (arith, length-cut k xs theta up)

-- The numbers of a report agree with one another.
use Rattle.std.proofs.Common.{ℕ, ◌*◌, ◌≡◌, ◌<◌, ◌≤◌, ◌==◌, Bool, true, false, List, length, inl, inr, refl, ap, sym, ◌∙◌, arith}
use Rattle.std.proofs.lemmas.Bool.{cases_lt}
use Rattle.std.proofs.lemmas.Bool.Decides.{nat_tests}
use Rattle.std.proofs.lemmas.List.{length-map}
use Rattle.core_compact.specs.CompactState.{Compact, IsCompact}
use Rattle.core_laws.specs.Entries.{hash_key}
use Rattle.core_laws.specs.declared.TheConstants.{MAX_THETA}
use Rattle.estimates.specs.Bounds.{count_bounds, deviation_count}
use Rattle.estimates.specs.Fraction.{nearest}
use Rattle.estimates.specs.declared.bounds.Deviations.{Deviations}
use Rattle.estimates.specs.declared.bounds.Deviations.TheVariants.{One, Two, Three}
use Rattle.estimates.specs.declared.bounds.Interval.{Interval}
use Rattle.estimates.proofs.NearCounts.{exact_bounds, lower_nearest, retained_within, upper_above, upper_nearest}
use Rattle.keys_reports.specs.Reports.{IsConsistent, only, report_of}

-- at least one standard deviation
pub some_deviations : (d : Deviations) → 0 < deviation_count d
some_deviations One = omega arith
some_deviations Two = omega arith
some_deviations Three = omega arith

-- a report at the greatest theta
exact_numbers : (z r t e : ℕ) (exact : Bool) → t ≡ MAX_THETA → e ≡ r → exact ≡ true
    → IsConsistent (record { estimate = e; interval = count_bounds z r t; exact = exact; retained = r; theta = t })
exact_numbers z r t e exact greatest same holds =
    let both : count_bounds z r t ≡ only r = ap (count_bounds z r) greatest ∙ exact_bounds z r in
    let lower : (count_bounds z r t).lower ≡ r = ap (λ (i : Interval). i.lower) both in
    let upper : (count_bounds z r t).upper ≡ r = ap (λ (i : Interval). i.upper) both in
    record {
      above_retained = omega (arith, lower);
      above_lower = omega (arith, lower, same);
      below_upper = omega (arith, upper, same);
      exact_estimate = λ yes. same;
      exact_interval = λ yes. both;
      unseen = λ no. absurd (cc);
    }

-- a report below it
near_numbers : (z r t : ℕ) (exact : Bool) → 0 < z → 0 < t → t < MAX_THETA → exact ≡ false
    → IsConsistent (record { estimate = nearest (r * MAX_THETA) t; interval = count_bounds z r t; exact = exact; retained = r; theta = t })
near_numbers z r t exact some low less fails = record {
  above_retained = retained_within z r t;
  above_lower = lower_nearest z r t low (omega (arith, less));
  below_upper = upper_nearest z r t low;
  exact_estimate = λ yes. absurd (cc);
  exact_interval = λ yes. absurd (cc);
  unseen = λ no. upper_above z r t some low less;
}

-- the estimate at the greatest theta
greatest_estimate : (r t : ℕ) → t ≡ MAX_THETA → nearest (r * MAX_THETA) t ≡ r
greatest_estimate r t greatest =
    let low : 0 < MAX_THETA = omega arith in
    let both : count_bounds 1 r MAX_THETA ≡ only r = exact_bounds 1 r in
    let lower : (count_bounds 1 r MAX_THETA).lower ≡ r = ap (λ (i : Interval). i.lower) both in
    let upper : (count_bounds 1 r MAX_THETA).upper ≡ r = ap (λ (i : Interval). i.upper) both in
    let above : (count_bounds 1 r MAX_THETA).lower ≤ nearest (r * MAX_THETA) MAX_THETA = lower_nearest 1 r MAX_THETA low (omega arith) in
    let below : nearest (r * MAX_THETA) MAX_THETA ≤ (count_bounds 1 r MAX_THETA).upper = upper_nearest 1 r MAX_THETA low in
    let same : nearest (r * MAX_THETA) MAX_THETA ≡ r = omega (arith, lower, upper, above, below) in
    ap (nearest (r * MAX_THETA)) greatest ∙ same

-- the report of a state by its parts
by_parts : (z : ℕ) (empty : Bool) (entries : List ℕ) (theta seed_hash : ℕ) (ordered : Bool) → 0 < z
    → IsCompact hash_key (record { empty = empty; entries = entries; theta = theta; seed_hash = seed_hash; ordered = ordered })
    → IsConsistent (report_of z (record { empty = empty; entries = entries; theta = theta; seed_hash = seed_hash; ordered = ordered }))
unfolding report_of
by_parts z true entries theta seed_hash ordered some laws =
    let none : length entries ≡ 0 = sym (length-map entries hash_key) ∙ ap length (laws.shown.none refl) in
    exact_numbers z (length entries) theta 0 true (laws.shown.greatest refl) (sym none) refl
by_parts z false entries theta seed_hash ordered some laws =
    let r : ℕ = length entries in
    elim (cases_lt theta MAX_THETA) [
      | inl lt ↦
          let fails : (theta == MAX_THETA) ≡ false = grind (arith, nat_tests) in
          near_numbers z r theta (theta == MAX_THETA) some laws.shown.theta_low lt fails
      | inr le ↦
          let greatest : theta ≡ MAX_THETA = omega (arith, le, laws.shown.theta_high) in
          let holds : (theta == MAX_THETA) ≡ true = grind (arith, nat_tests) in
          exact_numbers z r theta (nearest (r * MAX_THETA) theta) (theta == MAX_THETA) greatest (greatest_estimate r theta greatest) holds
    ]

-- the report of every state
pub report_consistent : (z : ℕ) (s : Compact ℕ) → 0 < z → IsCompact hash_key s → IsConsistent (report_of z s)
report_consistent z s = by_parts z s.empty s.entries s.theta s.seed_hash s.ordered

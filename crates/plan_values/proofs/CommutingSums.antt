-- Merges of folds are commutative if sums are checked.
use Rattle.std.proofs.Common.{◌≡◌, ℕ, false, Option, Some, None, is_none, refl, sym, ap, ◌∙◌}
use Rattle.std.specs.Prelude.{ℤ, if◌then◌else◌}
use Rattle.std.specs.Option.{option_map, option_map_or}
use Rattle.std.proofs.Math.IntN.{+ℤ_comm}
use Rattle.core_laws.specs.Commuting.{Commutes}
use Rattle.core_laws.specs.Folds.{fold_key}
use Rattle.core_laws.proofs.operators.SummariesAlike.{folds_commute}
use Rattle.core_policies.specs.Sums.{is_within, sum_within}
use Rattle.core_policies.specs.Summaries.{combined, combine_refused}
use Rattle.core_slots.specs.Entry.{tuple_key, tuple_of, with_summary}
use Rattle.core_slots.specs.declared.entry.TupleEntry.{TupleEntry}
use Rattle.plan_values.specs.Family.{tuple_folds}

some_same : (a b : ℤ) → ◌≡◌ {A = Option ℤ} (Some a) (Some b) → a ≡ b
some_same a b e = cc

within_commutes : (least greatest x y : ℤ) → sum_within least greatest x y ≡ sum_within least greatest y x
within_commutes least greatest x y = ap (λ (z : ℤ). if is_within least greatest z then Some z else None) (+ℤ_comm x y)

module _ {S : Type 0} (whole_number : S → ℤ) (distinct : (x y : S) → whole_number x ≡ whole_number y → x ≡ y) where
  -- options of equal numbers are equal
  same_option : (o p : Option S) → option_map whole_number o ≡ option_map whole_number p → o ≡ p
  same_option None None e = refl
  same_option None (Some y) e = absurd (cc)
  same_option (Some x) None e = absurd (cc)
  same_option (Some x) (Some y) e = ap Some (distinct x y (some_same (whole_number x) (whole_number y) e))

  module _ (least greatest : ℤ) (sums : S → S → Option S) (summed : (x y : S) → option_map whole_number (sums x y) ≡ sum_within least greatest (whole_number x) (whole_number y)) where
    sums_swap : (x y : S) → sums x y ≡ sums y x
    sums_swap x y = same_option (sums x y) (sums y x) (summed x y ∙ within_commutes least greatest (whole_number x) (whole_number y) ∙ sym (summed y x))

    entries_swap : (x y : TupleEntry S) (o : Option S) → tuple_key x ≡ tuple_key y → is_none o ≡ false → option_map_or (with_summary x) o x ≡ option_map_or (with_summary y) o y
    entries_swap x y None same some = absurd (cc)
    entries_swap x y (Some s) same some = ap (λ (h : ℕ). tuple_of h s) same

    pub sums_commute : {U : Type 0} (creates : Option S) (updates : S → U → Option S) → Commutes (fold_key tuple_key) (tuple_folds creates updates sums).merges
    sums_commute creates updates =
        folds_commute tuple_key (combined sums) (combine_refused sums) (λ x y same. ap is_none (sums_swap x.summary y.summary))
        (λ x y same allowed. entries_swap x y (sums x.summary y.summary) same allowed ∙ ap (λ o. option_map_or (with_summary y) o y) (sums_swap x.summary y.summary))

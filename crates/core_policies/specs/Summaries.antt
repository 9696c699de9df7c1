-- Updates and merges of tuples: how policies change the summary of a hash.
use Rattle.std.specs.Prelude.{ℕ, ◌≡◌, ◌==◌, refl, Bool, true, if◌then◌else◌, List, [], ◌∷◌, ◌++◌, Option, Some}
use Rattle.std.specs.Prelude.{None, is_none, option_map}
use Rattle.std.proofs.Common.{◌∙◌}
use Rattle.std.specs.Option.{option_map_or, option_and_then}
use Rattle.core_laws.specs.Folds.{Fold, Value, Refused}
use Rattle.core_laws.specs.declared.leaf.LeafStep.{LeafStep}
use Rattle.core_laws.specs.declared.leaf.LeafStep.TheVariants.{Add, Trim, Reset}
use Rattle.core_laws.specs.Refusal.{policy_refusal}
use Rattle.core_laws.specs.Step.{Step}
use Rattle.core_slots.specs.Entry.{tuple_key, tuple_of, with_summary}
use Rattle.core_slots.specs.declared.entry.TupleEntry.{TupleEntry}

-- the first summary of a key: created, then updated
abbrev pub first_summary : {S U : Type 0} → Option S → (S → U → Option S) → U → Option S
first_summary creates updates u = option_and_then (λ s. updates s u) creates

-- the step that updates the summary at a hash with a value, or creates one and updates it; a policy refuses if it names no
-- summary
abbrev pub update_step : {S U : Type 0} → Option S → (S → U → Option S) → ℕ → U → Step (TupleEntry S)
update_step creates updates h u = record {
  writes = λ e. option_map_or (with_summary e) (updates e.summary u) e;
  refuses_existing = λ e. policy_refusal (is_none (updates e.summary u));
  makes = option_map (tuple_of h) (first_summary creates updates u);
  refuses_absent = policy_refusal (is_none (first_summary creates updates u));
  allocates = true;
}

-- a summary after values in their order; none from the first refused one on
abbrev pub after_values : {S U : Type 0} → (S → U → Option S) → Option S → List U → Option S
after_values updates o [] = o
after_values updates o (u ∷ us) = after_values updates (option_and_then (λ s. updates s u) o) us

-- a hash with a summary, or with the mark that the policy refused it
abbrev pub fold_of : {S : Type 0} → ℕ → Option S → Fold (TupleEntry S)
fold_of h (Some s) = Value (tuple_of h s)
fold_of h None = Refused h

-- what a hash has after its values: nothing if there are none, otherwise the created summary after these values
abbrev pub fold_at : {S U : Type 0} → Option S → (S → U → Option S) → ℕ → List U → Option (Fold (TupleEntry S))
fold_at creates updates h [] = None
fold_at creates updates h (u ∷ us) = Some (fold_of h (after_values updates creates (u ∷ us)))

-- the values that were added at a hash since the last reset, after earlier ones
abbrev pub values_from : {U : Type 0} → ℕ → List (LeafStep U) → List U → List U
values_from h [] us = us
values_from h (Add g u ∷ steps) us = values_from h steps (if g == h then us ++ u ∷ [] else us)
values_from h (Trim ∷ steps) us = values_from h steps us
values_from h (Reset ∷ steps) us = values_from h steps []

-- the values that were added at a hash since the last reset
abbrev pub values_at : {U : Type 0} → ℕ → List (LeafStep U) → List U
values_at h steps = values_from h steps []

-- an entry combined with an incoming one of its hash; unchanged if that is refused
abbrev pub combined : {S : Type 0} → (S → S → Option S) → TupleEntry S → TupleEntry S → TupleEntry S
combined combines x y = option_map_or (with_summary x) (combines x.summary y.summary) x

-- whether combining an entry with an incoming one of its hash is refused
abbrev pub combine_refused : {S : Type 0} → (S → S → Option S) → TupleEntry S → TupleEntry S → Bool
combine_refused combines x y = is_none (combines x.summary y.summary)

-- whatever the policy names, the entry keeps its hash
pub with_summary-keeps : {S : Type 0} (x : TupleEntry S) (o : Option S) → tuple_key (option_map_or (with_summary x) o x) ≡ tuple_key x
with_summary-keeps x (Some s) = refl
with_summary-keeps x None = refl

pub combined-keeps : {S : Type 0} (combines : S → S → Option S) (x y : TupleEntry S)
    → tuple_key x ≡ tuple_key y
    → tuple_key (combined combines x y) ≡ tuple_key y
combined-keeps combines x y same = with_summary-keeps x (combines x.summary y.summary) ∙ same

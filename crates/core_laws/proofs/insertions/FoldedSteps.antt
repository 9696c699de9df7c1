-- A step that isn't refused has the effect of its step on folds, and a refused one leaves its mark in the whole map.
use Rattle.std.proofs.Common.{◌≡◌, ℕ, true, false, cond, map, Option, Some, None, is_some, refl, sym, ap, ◌∙◌}
use Rattle.std.specs.Option.{option_map, option_map_or}
use Rattle.sketch_base.specs.declared.error.ErrorKind.{ErrorKind}
use Rattle.core_laws.specs.Cuts.{Retained}
use Rattle.core_laws.specs.Maps.{entry_at, with_entry}
use Rattle.core_laws.specs.Leaf.{KeepsHashes}
use Rattle.core_laws.specs.Folds.{Fold, Value, Refused, fold_key, unmarked, fold_writes, fold_makes, folded, folded_of}
use Rattle.core_laws.specs.Step.{Step}
use Rattle.core_laws.specs.Insertion.{is_screened, rebuilt, after_upsert, upsert_refusal}
use Rattle.core_laws.proofs.insertions.Cases.{screened_case, existing_case, absent_case}
use Rattle.core_laws.proofs.maps.MappedEntries.{entry_at-map, with_entry-map, rebuilt-map}

module _ {X : Type 0} (key : X → ℕ) where
  absent-folded : (k h : ℕ) (v : Retained X) (makes : Option X) →
      unmarked (option_map_or (λ x. rebuilt key k (with_entry key v.entries x) v.theta) makes v)
      ≡ option_map_or (λ x. rebuilt (fold_key key) k (with_entry (fold_key key) (map Value v.entries) x) v.theta) (option_map Value makes) (unmarked v)
  absent-folded k h v (Some x) =
      sym (rebuilt-map Value key (fold_key key) (λ y. refl) k (with_entry key v.entries x) v.theta)
      ∙ ap (λ ys. rebuilt (fold_key key) k ys v.theta) (sym (with_entry-map Value key (fold_key key) (λ y. refl) v.entries x))
  absent-folded k h v None = refl

  pub unmarked-step : (k h : ℕ) (step : Step X) (v : Retained X) → upsert_refusal key h step v ≡ None →
      unmarked (after_upsert key k h step v) ≡ after_upsert (fold_key key) k h (folded key h step) (unmarked v)
  unmarked-step k h step v allowed =
      let fstep : Step (Fold X) = folded key h step in
      (elim (is_screened h v.theta) as (λ b. is_screened h v.theta ≡ b → unmarked (after_upsert key k h step v) ≡ after_upsert (fold_key key) k h (folded key h step) (unmarked v)) [
        | true ↦ λ s. ap unmarked (screened_case key k h step v s).after_is ∙ sym (screened_case (fold_key key) k h fstep (unmarked v) s).after_is
        | false ↦ λ s.
            (elim (entry_at key v.entries h) as (λ o. entry_at key v.entries h ≡ o → unmarked (after_upsert key k h step v) ≡ after_upsert (fold_key key) k h (folded key h step) (unmarked v)) [
              | Some w ↦ λ e.
                  let fe : entry_at (fold_key key) (map Value v.entries) h ≡ Some (Value w) = entry_at-map Value key (fold_key key) (λ y. refl) v.entries h ∙ ap (λ o. option_map Value o) e in
                  let free : step.refuses_existing w ≡ None = sym (existing_case key k h step v w s e).refusal_is ∙ allowed in
                  ap unmarked (existing_case key k h step v w s e).after_is
                  ∙ ap (λ ys. record { entries = ys; theta = v.theta }) (sym (with_entry-map Value key (fold_key key) (λ y. refl) v.entries (step.writes w)))
                  ∙ ap (λ o. record { entries = with_entry (fold_key key) (map Value v.entries) (cond (is_some o) (Refused (key w)) (Value (step.writes w))); theta = v.theta }) (sym free)
                  ∙ sym (existing_case (fold_key key) k h fstep (unmarked v) (Value w) s fe).after_is
              | None ↦ λ e.
                  let fe : entry_at (fold_key key) (map Value v.entries) h ≡ None = entry_at-map Value key (fold_key key) (λ y. refl) v.entries h ∙ ap (λ o. option_map Value o) e in
                  let free : step.refuses_absent ≡ None = sym (absent_case key k h step v s e).refusal_is ∙ allowed in
                  ap unmarked (absent_case key k h step v s e).after_is
                  ∙ absent-folded k h v step.makes
                  ∙ ap (λ (o : Option ErrorKind). option_map_or (λ x. rebuilt (fold_key key) k (with_entry (fold_key key) (map Value v.entries) x) v.theta) (cond (is_some o) (Some (Refused h)) (option_map Value step.makes)) (unmarked v)) (sym free)
                  ∙ sym (absent_case (fold_key key) k h fstep (unmarked v) s fe).after_is
            ]) refl
      ]) refl

  write-keeps : (h : ℕ) (step : Step X) → ((e : X) → key e ≡ h → key (step.writes e) ≡ h) → (f : Fold X) → fold_key key f ≡ h → fold_key key (fold_writes key step f) ≡ h
  write-keeps h step keeps (Refused q) same = same
  write-keeps h step keeps (Value x) same =
      elim (is_some (step.refuses_existing x)) as (λ b. fold_key key (cond b (Refused (key x)) (Value (step.writes x))) ≡ h) [ true ↦ same | false ↦ keeps x same ]

  make-keeps : (h : ℕ) (step : Step X) → ((e : X) → step.makes ≡ Some e → key e ≡ h) → (f : Fold X) → fold_makes h step ≡ Some f → fold_key key f ≡ h
  make-keeps h step keeps f =
      elim (is_some step.refuses_absent) as (λ b. cond b (Some (Refused h)) (option_map Value step.makes) ≡ Some f → fold_key key f ≡ h) [
        | true ↦ λ made. let same : Refused h ≡ f = (cc) in ap (fold_key key) (sym same)
        | false ↦ λ made.
            (elim step.makes as (λ o. step.makes ≡ o → option_map Value o ≡ Some f → fold_key key f ≡ h) [
              | Some x ↦ λ e m. let same : Value x ≡ f = (cc) in ap (fold_key key) (sym same) ∙ keeps x e
              | None ↦ λ e m. absurd (cc)
            ]) refl made
      ]

  -- steps on folds keep hashes if the steps do
  pub folded-keeps : {V : Type 0} (step_of : ℕ → V → Step X) → KeepsHashes key step_of → KeepsHashes (fold_key key) (folded_of key step_of)
  folded-keeps step_of keeps = record {
    writes = λ h x. write-keeps h (step_of h x) (keeps.writes h x);
    makes = λ h x. make-keeps h (step_of h x) (keeps.makes h x);
  }

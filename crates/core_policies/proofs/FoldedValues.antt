-- Update steps at a hash of a whole map: its values, folded in their order.
use Rattle.std.proofs.Common.{◌≡◌, ℕ, true, false, cond, eqb, List, [], ◌∷◌, ◌++◌, Option, Some, None, is_some, is_none, refl, sym, ap, subst, ◌∙◌, arith}
use Rattle.std.specs.Option.{option_map, option_map_or, option_and_then}
use Rattle.std.proofs.lemmas.Bool.Decides.{nat_tests}
use Rattle.core_laws.specs.Entries.{is_carried}
use Rattle.core_laws.specs.Folds.{Fold, Value, Refused, fold_key, fold_writes, fold_makes, folded, folded_of}
use Rattle.core_laws.specs.Insertion.{whole_upsert}
use Rattle.core_laws.specs.Leaf.{KeepsHashes, whole_from, whole_step}
use Rattle.core_laws.specs.declared.leaf.LeafStep.{LeafStep}
use Rattle.core_laws.specs.declared.leaf.LeafStep.TheVariants.{Add, Trim, Reset}
use Rattle.core_laws.specs.Maps.{entry_at, with_entry}
use Rattle.core_laws.specs.Refusal.{policy_refusal}
use Rattle.core_laws.specs.Step.{Step}
use Rattle.core_laws.proofs.cuts.WithinWholeMaps.{found_key}
use Rattle.core_laws.proofs.insertions.FoldedSteps.{folded-keeps}
use Rattle.core_laws.proofs.maps.LookUps.{entry_at-with_entry}
use Rattle.core_slots.specs.Entry.{tuple_key, tuple_of, with_summary}
use Rattle.core_slots.specs.declared.entry.TupleEntry.{TupleEntry}
use Rattle.core_policies.specs.Summaries.{update_step, first_summary, after_values, fold_of, fold_at, values_from, with_summary-keeps}

module _ {S U : Type 0} (creates : Option S) (updates : S → U → Option S) where
  made-keeps : (h : ℕ) (o : Option S) (e : TupleEntry S) → option_map (tuple_of h) o ≡ Some e → tuple_key e ≡ h
  made-keeps h (Some s) e made = let same : tuple_of h s ≡ e = (cc) in ap tuple_key (sym same)
  made-keeps h None e made = absurd (cc)

  pub updates-keep : KeepsHashes tuple_key (update_step creates updates)
  updates-keep = record {
    writes = λ h u e same. with_summary-keeps e (updates e.summary u) ∙ same;
    makes = λ h u e made. made-keeps h (first_summary creates updates u) e made;
  }

  after-append : (o : Option S) (us : List U) (u : U) → after_values updates o (us ++ u ∷ []) ≡ option_and_then (λ s. updates s u) (after_values updates o us)
  after-append o [] u = refl
  after-append o (x ∷ us) u = after-append (option_and_then (λ s. updates s x) o) us u

  written : (h : ℕ) (u : U) (o : Option S) → fold_writes tuple_key (update_step creates updates h u) (fold_of h o) ≡ fold_of h (option_and_then (λ s. updates s u) o)
  written h u None = refl
  written h u (Some s) =
      elim (updates s u) as (λ r. cond (is_some (policy_refusal (is_none r))) (Refused h) (Value (option_map_or (with_summary (tuple_of h s)) r (tuple_of h s))) ≡ fold_of h r) [
        | Some t ↦ refl
        | None ↦ refl
      ]

  made : (h : ℕ) (u : U) → fold_makes h (update_step creates updates h u) ≡ Some (fold_of h (first_summary creates updates u))
  made h u =
      elim (first_summary creates updates u) as (λ r. cond (is_some (policy_refusal (is_none r))) (Some (Refused h)) (option_map Value (option_map (tuple_of h) r)) ≡ Some (fold_of h r)) [
        | Some t ↦ refl
        | None ↦ refl
      ]

  key_of-fold : (h : ℕ) (o : Option S) → fold_key tuple_key (fold_of h o) ≡ h
  key_of-fold h (Some s) = refl
  key_of-fold h None = refl

  -- a look-up after an entry of a key was inserted: at the key, and at another
  hit : (w : List (Fold (TupleEntry S))) (f : Fold (TupleEntry S)) (h : ℕ) → fold_key tuple_key f ≡ h → entry_at (fold_key tuple_key) (with_entry (fold_key tuple_key) w f) h ≡ Some f
  hit w f h same =
      let yes : eqb (fold_key tuple_key f) h ≡ true = grind (arith, nat_tests) in
      entry_at-with_entry (fold_key tuple_key) w f h ∙ ap (λ b. cond b (Some f) (entry_at (fold_key tuple_key) w h)) yes

  miss : (w : List (Fold (TupleEntry S))) (f : Fold (TupleEntry S)) (g h : ℕ) → fold_key tuple_key f ≡ g → eqb g h ≡ false → entry_at (fold_key tuple_key) (with_entry (fold_key tuple_key) w f) h ≡ entry_at (fold_key tuple_key) w h
  miss w f g h same other =
      entry_at-with_entry (fold_key tuple_key) w f h
      ∙ ap (λ q. cond (eqb q h) (Some f) (entry_at (fold_key tuple_key) w h)) same
      ∙ ap (λ b. cond b (Some f) (entry_at (fold_key tuple_key) w h)) other

  at-key : (h : ℕ) (u : U) (us : List U) (w : List (Fold (TupleEntry S))) → entry_at (fold_key tuple_key) w h ≡ fold_at creates updates h us →
      entry_at (fold_key tuple_key) (whole_upsert (fold_key tuple_key) h (folded tuple_key h (update_step creates updates h u)) w) h ≡ fold_at creates updates h (us ++ u ∷ [])
  at-key h u [] w e =
      let step : Step (Fold (TupleEntry S)) = folded tuple_key h (update_step creates updates h u) in
      let fresh : Fold (TupleEntry S) = fold_of h (first_summary creates updates u) in
      ap (λ o. entry_at (fold_key tuple_key) (option_map_or (λ x. with_entry (fold_key tuple_key) w (step.writes x)) o (option_map_or (λ x. with_entry (fold_key tuple_key) w x) step.makes w)) h) e
      ∙ ap (λ m. entry_at (fold_key tuple_key) (option_map_or (λ x. with_entry (fold_key tuple_key) w x) m w) h) (made h u)
      ∙ hit w fresh h (key_of-fold h (first_summary creates updates u))
  at-key h u (x ∷ us) w e =
      let step : Step (Fold (TupleEntry S)) = folded tuple_key h (update_step creates updates h u) in
      let content : Option S = after_values updates creates (x ∷ us) in
      let then : Option S = option_and_then (λ s. updates s u) content in
      ap (λ o. entry_at (fold_key tuple_key) (option_map_or (λ y. with_entry (fold_key tuple_key) w (step.writes y)) o (option_map_or (λ y. with_entry (fold_key tuple_key) w y) step.makes w)) h) e
      ∙ ap (λ f. entry_at (fold_key tuple_key) (with_entry (fold_key tuple_key) w f) h) (written h u content)
      ∙ hit w (fold_of h then) h (key_of-fold h then)
      ∙ ap (λ o. Some (fold_of h o)) (sym (after-append creates (x ∷ us) u))

  at-other : (g h : ℕ) (u : U) (w : List (Fold (TupleEntry S))) → eqb g h ≡ false →
      entry_at (fold_key tuple_key) (whole_upsert (fold_key tuple_key) g (folded tuple_key g (update_step creates updates g u)) w) h ≡ entry_at (fold_key tuple_key) w h
  at-other g h u w other =
      let step : Step (Fold (TupleEntry S)) = folded tuple_key g (update_step creates updates g u) in
      let keeps : KeepsHashes (fold_key tuple_key) (folded_of tuple_key (update_step creates updates)) = folded-keeps tuple_key (update_step creates updates) updates-keep in
      (elim (entry_at (fold_key tuple_key) w g) as (λ o. entry_at (fold_key tuple_key) w g ≡ o → entry_at (fold_key tuple_key) (option_map_or (λ x. with_entry (fold_key tuple_key) w (step.writes x)) o (option_map_or (λ x. with_entry (fold_key tuple_key) w x) step.makes w)) h ≡ entry_at (fold_key tuple_key) w h) [
        | Some f ↦ λ e. miss w (step.writes f) g h (keeps.writes g u f (found_key (fold_key tuple_key) w g f e)) other
        | None ↦ λ e.
            ap (λ m. entry_at (fold_key tuple_key) (option_map_or (λ x. with_entry (fold_key tuple_key) w x) m w) h) (made g u)
            ∙ miss w (fold_of g (first_summary creates updates u)) g h (key_of-fold g (first_summary creates updates u)) other
      ]) refl

  at-add : (g h : ℕ) (u : U) (us : List U) (w : List (Fold (TupleEntry S))) → is_carried h ≡ true → entry_at (fold_key tuple_key) w h ≡ fold_at creates updates h us →
      entry_at (fold_key tuple_key) (whole_step (fold_key tuple_key) (folded_of tuple_key (update_step creates updates)) (Add g u) w) h ≡ fold_at creates updates h (cond (eqb g h) (us ++ u ∷ []) us)
  at-add g h u us w carried e =
      (elim (eqb g h) as (λ b. eqb g h ≡ b → entry_at (fold_key tuple_key) (cond (is_carried g) (whole_upsert (fold_key tuple_key) g (folded tuple_key g (update_step creates updates g u)) w) w) h ≡ fold_at creates updates h (cond b (us ++ u ∷ []) us)) [
        | true ↦ λ t.
            let same : h ≡ g = grind (arith, nat_tests) in
            subst (λ (q : ℕ). entry_at (fold_key tuple_key) (cond (is_carried q) (whole_upsert (fold_key tuple_key) q (folded tuple_key q (update_step creates updates q u)) w) w) h ≡ fold_at creates updates h (us ++ u ∷ [])) same
            (ap (λ b. entry_at (fold_key tuple_key) (cond b (whole_upsert (fold_key tuple_key) h (folded tuple_key h (update_step creates updates h u)) w) w) h) carried ∙ at-key h u us w e)
        | false ↦ λ t.
            elim (is_carried g) as (λ b. entry_at (fold_key tuple_key) (cond b (whole_upsert (fold_key tuple_key) g (folded tuple_key g (update_step creates updates g u)) w) w) h ≡ fold_at creates updates h us) [
              | true ↦ at-other g h u w t ∙ e
              | false ↦ e
            ]
      ]) refl

  pub folded-values : (steps : List (LeafStep U)) (h : ℕ) (us : List U) (w : List (Fold (TupleEntry S))) → is_carried h ≡ true → entry_at (fold_key tuple_key) w h ≡ fold_at creates updates h us →
      entry_at (fold_key tuple_key) (whole_from (fold_key tuple_key) (folded_of tuple_key (update_step creates updates)) steps w) h ≡ fold_at creates updates h (values_from h steps us)
  folded-values [] h us w carried e = e
  folded-values (Add g u ∷ steps) h us w carried e =
      folded-values steps h (cond (eqb g h) (us ++ u ∷ []) us) (whole_step (fold_key tuple_key) (folded_of tuple_key (update_step creates updates)) (Add g u) w) carried (at-add g h u us w carried e)
  folded-values (Trim ∷ steps) h us w carried e = folded-values steps h us w carried e
  folded-values (Reset ∷ steps) h us w carried e = folded-values steps h [] [] carried refl

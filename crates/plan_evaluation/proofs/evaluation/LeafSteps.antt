-- Steps of a leaf in folds, one by one.
use Rattle.std.proofs.Common.{◌≡◌, ℕ, ◌^◌, ◌<◌, ◌+◌, Bool, true, false, List, [], ◌∷◌, ◌++◌, length, get_or, take, refl, sym, ap, ◌∙◌}
use Rattle.std.specs.Prelude.{not}
use Rattle.std.proofs.lemmas.List.{take_more}
use Rattle.core_laws.specs.Cuts.{Retained, none_below}
use Rattle.core_laws.specs.Folds.{Fold, unmarked}
use Rattle.core_laws.specs.Leaf.{leaf_step, leaf_from, updated_step, is_updated}
use Rattle.core_laws.specs.declared.leaf.LeafStep.{LeafStep as Step}
use Rattle.core_laws.proofs.insertions.Leaves.{leaf_from-append, is_updated-append}
use Rattle.core_table.specs.HashTable.{MapTable, empty_table}
use Rattle.plan_values.specs.Family.{Family, IsFamily}
use Rattle.plan_values.specs.Refusals.{step_refused, steps_refused}
use Rattle.plan_values.proofs.RefusedSteps.{in_turn, turn_next}

twice : (b : Bool) → not (not b) ≡ b
twice true = refl
twice false = refl

module _ {X V : Type 0} (f : Family (Fold X) V) (lawful : IsFamily f) (lg_k start seed : ℕ) (steps : List (Step V)) where
  module _ (i : ℕ) (d : Step V) (lt : i < length steps) where
    more : take (i + 1) steps ≡ take i steps ++ get_or steps i d ∷ []
    more = take_more steps i d lt

    -- the retained entries after one more step
    pub kept_stepped : (old new : MapTable X) → unmarked old.kept ≡ leaf_from f.key f.step_of (2 ^ lg_k) start (take i steps) (none_below start) → old ≡ record (empty_table lg_k start seed) { kept = old.kept } →
        unmarked new.kept ≡ leaf_step f.key f.step_of (2 ^ old.lg_nom) old.start (get_or steps i d) (unmarked old.kept) →
        unmarked new.kept ≡ leaf_from f.key f.step_of (2 ^ lg_k) start (take (i + 1) steps) (none_below start)
    kept_stepped old new was made after =
        after
        ∙ ap (λ v. leaf_step f.key f.step_of (2 ^ old.lg_nom) old.start (get_or steps i d) v) was
        ∙ ap (λ (t : MapTable X). leaf_step f.key f.step_of (2 ^ t.lg_nom) t.start (get_or steps i d) (leaf_from f.key f.step_of (2 ^ lg_k) start (take i steps) (none_below start))) made
        ∙ sym (leaf_from-append f.key f.step_of lawful.steps (2 ^ lg_k) start (take i steps) (get_or steps i d ∷ []) (none_below start))
        ∙ ap (λ ss. leaf_from f.key f.step_of (2 ^ lg_k) start ss (none_below start)) (sym more)

    -- the same for emptiness
    pub empty_stepped : (old new : Bool) → old ≡ not (is_updated (take i steps) false) → new ≡ not (updated_step (get_or steps i d) (not old)) → new ≡ not (is_updated (take (i + 1) steps) false)
    empty_stepped old new was after =
        after ∙ ap (λ b. not (updated_step (get_or steps i d) (not b))) was
        ∙ ap (λ b. not (updated_step (get_or steps i d) b)) (twice (is_updated (take i steps) false))
        ∙ ap not (sym (is_updated-append (take i steps) (get_or steps i d ∷ []) false) ∙ ap (λ ss. is_updated ss false) (sym more))

    -- no step so far is refused, nor is this one
    pub unrefused_stepped : (kept : Retained X) → unmarked kept ≡ leaf_from f.key f.step_of (2 ^ lg_k) start (take i steps) (none_below start) → steps_refused f (2 ^ lg_k) start (take i steps) ≡ false → step_refused f (get_or steps i d) (unmarked kept) ≡ false →
        steps_refused f (2 ^ lg_k) start (take (i + 1) steps) ≡ false
    unrefused_stepped kept was so_far present =
        turn_next (λ begun step. step_refused f step (leaf_from f.key f.step_of (2 ^ lg_k) start begun (none_below start))) steps i d lt so_far (ap (step_refused f (get_or steps i d)) (sym was) ∙ present)

    -- or else some step is
    pub refused_stepped : (kept : Retained X) → unmarked kept ≡ leaf_from f.key f.step_of (2 ^ lg_k) start (take i steps) (none_below start) → step_refused f (get_or steps i d) (unmarked kept) ≡ true → steps_refused f (2 ^ lg_k) start steps ≡ true
    refused_stepped kept was present =
        in_turn (λ begun step. step_refused f step (leaf_from f.key f.step_of (2 ^ lg_k) start begun (none_below start))) steps i d lt (ap (step_refused f (get_or steps i d)) (sym was) ∙ present)

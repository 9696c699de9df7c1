-- A union that merges a view merges its value, in folds.
use Rattle.std.proofs.Common.{◌≡◌, Option, Bool, true, false, cond, List, refl, ap, subst}
use Rattle.core_laws.specs.Entries.{KeepsKey}
use Rattle.core_laws.specs.Folds.{Fold, unmarked_value}
use Rattle.core_laws.specs.Maps.{IsAscending, IsApart, map_of}
use Rattle.core_laws.specs.Shown.{Shown, shown_value}
use Rattle.core_laws.specs.Values.{Sketch, Empty, NonEmpty}
use Rattle.core_operators.specs.Union.{Union, IsUnion, IsJoined}
use Rattle.core_operators.proofs.UnionValue.{united}
use Rattle.core_policies.specs.Summaries.{combined, combine_refused}
use Rattle.core_slots.specs.Entry.{tuple_key}
use Rattle.core_slots.specs.declared.entry.TupleEntry.{TupleEntry}
use Rattle.plan_values.specs.Family.{Family, folds_of}
use Rattle.plan_evaluation.specs.Parts.{Joins}

-- a union without its policy
abbrev pub plain : {X P : Type 0} → Union X P → Union X (Unit {0})
plain u = record { empty = u.empty; failed = u.failed; content = u.content; lg_k = u.lg_k; start = u.start; seed_hash = u.seed_hash; policy = tt }

module _ {X P V : Type 0} (f : Family X V) (refuses : X → X → Bool) (keeps : KeepsKey f.key f.merges) (old new : Union X P) where
  pub joins_plain : (s : Shown) (listing : List X) → IsUnion old → old.failed ≡ false → IsAscending f.key old.content.entries → IsApart f.key listing → (s.empty ≡ true → new ≡ old) → (s.empty ≡ false → IsJoined f.key f.merges refuses old new s.theta listing) →
      (v : Sketch (Fold X)) → unmarked_value (shown_value f.key s listing) ≡ v → Joins f.key (folds_of f refuses) (plain old) (plain new) v
  joins_plain s listing sound at_work up apart skipped joins v is =
      subst (λ w. Joins f.key (folds_of f refuses) (plain old) (plain new) w) is
      ((elim s.empty as (λ b. s.empty ≡ b → Joins f.key (folds_of f refuses) (plain old) (plain new) (unmarked_value (cond b Empty (NonEmpty (record { entries = map_of f.key listing; theta = s.theta }))))) [
        | true ↦ λ e. ap (λ u. plain u) (skipped e)
        | false ↦ λ e. united f.key f.merges refuses keeps old new s.theta listing sound at_work up apart (joins e)
      ]) refl)

-- a view that is joined under one policy is joined under an equal one
pub joined_under : {S P : Type 0} (combines : P → S → S → Option S) (policy other : P) (old new : Union (TupleEntry S) P) (s : Shown) (listing : List (TupleEntry S)) → policy ≡ other → (s.empty ≡ false → IsJoined tuple_key (combined (combines policy)) (combine_refused (combines policy)) old new s.theta listing) →
    s.empty ≡ false → IsJoined tuple_key (combined (combines other)) (combine_refused (combines other)) old new s.theta listing
joined_under combines policy other old new s listing same = subst (λ p. s.empty ≡ false → IsJoined tuple_key (combined (combines p)) (combine_refused (combines p)) old new s.theta listing) same

-- Families whose steps and merges keep hashes: hashes, tuples, and the folds of a family that keeps them.
use Rattle.std.proofs.Common.{Bool, Option}
use Rattle.core_laws.proofs.insertions.FoldedSteps.{folded-keeps}
use Rattle.core_laws.proofs.insertions.Leaves.{hash_keeps}
use Rattle.core_laws.proofs.insertions.Unmarked.{fold_keeps}
use Rattle.core_policies.specs.Summaries.{combined-keeps, combine_refused}
use Rattle.core_policies.proofs.FoldedValues.{updates-keep}
use Rattle.plan_values.specs.Family.{Family, IsFamily, hashes, folds_of, tuples, tuple_folds}

-- steps and merges of hashes keep hashes
pub hashes_keep : {V : Type 0} → IsFamily (hashes {V = V})
hashes_keep = record { steps = hash_keeps; merged = λ x y same. same }

-- so do those of the folds of such a family
pub folds_keep : {X V : Type 0} (f : Family X V) (refuses : X → X → Bool) → IsFamily f → IsFamily (folds_of f refuses)
folds_keep f refuses is = record { steps = folded-keeps f.key f.step_of is.steps; merged = fold_keeps f.key f.merges refuses is.merged }

module _ {S U : Type 0} (creates : Option S) (updates : S → U → Option S) (combines : S → S → Option S) where
  -- so do those of tuples
  pub tuples_keep : IsFamily (tuples creates updates combines)
  tuples_keep = record { steps = updates-keep creates updates; merged = combined-keeps combines }

  -- and those of their folds
  pub tuple_folds_keep : IsFamily (tuple_folds creates updates combines)
  tuple_folds_keep = folds_keep (tuples creates updates combines) (combine_refused combines) tuples_keep

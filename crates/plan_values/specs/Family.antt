-- A family of sketches in definitions: the keys of its entries, how operators merge entries, and the step of an update.
use Rattle.std.specs.Prelude.{ℕ, Bool, Option}
use Rattle.core_laws.specs.Entries.{hash_key, first_hash, KeepsKey}
use Rattle.core_laws.specs.Folds.{Fold, fold_key, fold_merges, folded_of}
use Rattle.core_laws.specs.Leaf.{KeepsHashes, hash_step_of}
use Rattle.core_laws.specs.Step.{Step}
use Rattle.core_policies.specs.Summaries.{update_step, combined, combine_refused}
use Rattle.core_slots.specs.Entry.{tuple_key}
use Rattle.core_slots.specs.declared.entry.TupleEntry.{TupleEntry}

-- the entries X of a family, whose updates carry values of V
pub record Family (X V : Type 0) : Type 0 where
  pub key : X → ℕ
  pub merges : X → X → X
  pub step_of : ℕ → V → Step X

-- its steps and merges keep hashes
pub record IsFamily {X V : Type 0} (f : Family X V) : Type 0 where
  pub steps : KeepsHashes f.key f.step_of
  pub merged : KeepsKey f.key f.merges

-- hashes alone: of two equal hashes, the first stays
abbrev pub hashes : {V : Type 0} → Family ℕ V
hashes = record { key = hash_key; merges = first_hash; step_of = hash_step_of }

-- the folds of a family: a refused update or merge leaves a mark
abbrev pub folds_of : {X V : Type 0} → Family X V → (refuses : X → X → Bool) → Family (Fold X) V
folds_of f refuses = record { key = fold_key f.key; merges = fold_merges f.key f.merges refuses; step_of = folded_of f.key f.step_of }

-- tuples, by the summary that a policy creates, updates and combines; `None` is a refusal
abbrev pub tuples : {S U : Type 0} → Option S → (S → U → Option S) → (S → S → Option S) → Family (TupleEntry S) U
tuples creates updates combines = record { key = tuple_key; merges = combined combines; step_of = update_step creates updates }

-- the folds of tuples
abbrev pub tuple_folds : {S U : Type 0} → Option S → (S → U → Option S) → (S → S → Option S) → Family (Fold (TupleEntry S)) U
tuple_folds creates updates combines = folds_of (tuples creates updates combines) (combine_refused combines)

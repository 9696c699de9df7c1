-- Steps run on a stack, and when an evaluation is refused.
use Rattle.std.specs.Prelude.{ℕ, ◌≡◌, ◌==◌, ◌||◌, ◌&&◌, ◌⊎◌, min, Bool, true, is_none, is_some, if◌then◌else◌, List}
use Rattle.std.specs.Prelude.{[], ◌∷◌, map, slice_get, Option, Some, None, option_map}
use Rattle.std.specs.List.{AllByRecursion, list_all}
use Rattle.sketch_base.specs.Seed.{seed_hash}
use Rattle.sketch_base.specs.declared.error.ErrorKind.{ErrorKind}
use Rattle.sketch_base.specs.declared.error.ErrorKind.TheVariants.{InvalidArgument, OutOfMemory, Policy}
use Rattle.core_compact.specs.CompactState.{Compact, compact_value, IsAnswer}
use Rattle.core_laws.specs.Entries.{hash_key}
use Rattle.core_laws.specs.Maps.{below}
use Rattle.core_laws.specs.Settings.{settings_refusal}
use Rattle.core_laws.specs.Values.{Sketch, Empty, NonEmpty}
use Rattle.core_laws.specs.declared.TheConstants.{MAX_THETA}
use Rattle.core_operators.specs.Union.{IsMergeRefused}
use Rattle.core_slots.specs.Entry.{tuple_key}
use Rattle.core_slots.specs.declared.entry.TupleEntry.{TupleEntry}
use Rattle.tuple_sketches.specs.declared.numbers.SummaryMode.{SummaryMode}
use Rattle.expression_text.specs.declared.operator.Operator.{Operator}
use Rattle.expression_text.specs.declared.operator.Operator.TheVariants.{Union, Intersection, Difference}
use Rattle.expression_text.specs.declared.operator.Step.{Step}
use Rattle.expression_text.specs.declared.operator.Step.TheVariants.{Operand, Combine}
use Rattle.expression_evaluation.specs.Values.{Rules, applied, hash_rules, sum_rules}

-- the value of a sketch whose contents are read in this way
abbrev pub value_by : {S X : Type 0} → Rules X → (read : S → Compact X) → S → Sketch X
value_by rules read s = compact_value rules.key (read s)

-- the values of sketches, in their order
abbrev pub values_by : {S X : Type 0} → Rules X → (read : S → Compact X) → List S → List (Sketch X)
values_by rules read sketches = map (λ s. compact_value rules.key (read s)) sketches

-- the values of theta sketches, and those of sketches of sums
abbrev pub values_of : List (Compact ℕ) → List (Sketch ℕ)
values_of sketches = map (λ s. compact_value hash_key s) sketches

abbrev pub sums_values : List (Compact (TupleEntry ℕ)) → List (Sketch (TupleEntry ℕ))
sums_values sketches = map (λ s. compact_value tuple_key s) sketches

-- the stack after one step, the last result first; None if a value is missing
abbrev pub after_step : {X : Type 0} → Rules X → (lg_k : ℕ) → List (Sketch X) → Step → List (Sketch X) → Option (List (Sketch X))
after_step rules lg_k values (Operand i) stack = option_map (λ v. v ∷ stack) (slice_get values i)
after_step rules lg_k values (Combine op) [] = None
after_step rules lg_k values (Combine op) (b ∷ []) = None
after_step rules lg_k values (Combine op) (b ∷ a ∷ stack) = Some (applied rules lg_k op a b ∷ stack)

-- the stack after steps
abbrev pub after_steps : {X : Type 0} → Rules X → (lg_k : ℕ) → List (Sketch X) → List Step → Option (List (Sketch X)) → Option (List (Sketch X))
after_steps rules lg_k values [] stack = stack
after_steps rules lg_k values (step ∷ steps) None = None
after_steps rules lg_k values (step ∷ steps) (Some stack) = after_steps rules lg_k values steps (after_step rules lg_k values step stack)

-- the only value of a stack
abbrev pub only_value : {X : Type 0} → Option (List (Sketch X)) → Option (Sketch X)
only_value None = None
only_value (Some []) = None
only_value (Some (v ∷ [])) = Some v
only_value (Some (v ∷ w ∷ stack)) = None

-- the result of steps
abbrev pub result_of : {X : Type 0} → Rules X → (lg_k : ℕ) → List (Sketch X) → List Step → Option (Sketch X)
result_of rules lg_k values steps = only_value (after_steps rules lg_k values steps (Some []))

-- the values of a list of sketches, the last one first, before others
abbrev pub values_onto : {S X : Type 0} → Rules X → (read : S → Compact X) → List S → List (Sketch X) → List (Sketch X)
values_onto rules read [] stack = stack
values_onto rules read (s ∷ sketches) stack = values_onto rules read sketches (compact_value rules.key (read s) ∷ stack)

-- each sketch is the ordered sketch of its value, of this seed hash
abbrev pub AreOrderedSketches : {S X : Type 0} → Rules X → (read : S → Compact X) → (seed_hash : ℕ) → List S → Type 0
AreOrderedSketches rules read h sketches = AllByRecursion (λ s. IsAnswer rules.key (compact_value rules.key (read s)) h true (read s)) sketches

-- both sketches are of a seed
abbrev pub BothHaveSeed : {X : Type 0} → (seed : ℕ) → (a b : Compact X) → Type 0
BothHaveSeed seed a b = (a.seed_hash ≡ seed_hash seed) × (b.seed_hash ≡ seed_hash seed)

-- a sketch of a seed is the ordered one of two others combined
abbrev pub IsCombination : {X : Type 0} → Rules X → (lg_k seed : ℕ) → Operator → (a b combined : Compact X) → Type 0
IsCombination rules lg_k seed operator a b combined =
    IsAnswer rules.key (applied rules lg_k operator (compact_value rules.key a) (compact_value rules.key b))
    (seed_hash seed) true combined

-- whether a sketch is empty or of this seed hash
abbrev pub is_accepted : {X : Type 0} → (seed_hash : ℕ) → Compact X → Bool
is_accepted h s = s.empty || h == s.seed_hash

-- whether all are
abbrev pub are_accepted : {S X : Type 0} → (read : S → Compact X) → (seed_hash : ℕ) → List S → Bool
are_accepted read h sketches = list_all (λ s. is_accepted h (read s)) sketches

-- the refusal of an evaluation: settings out of range, a sketch of another seed, or steps without one result
abbrev pub refusal_by : {S X : Type 0} → Rules X → (read : S → Compact X) → (seed lg_k : ℕ) → List Step → List S → Option ErrorKind
refusal_by rules read seed lg_k steps sketches =
    if is_none (settings_refusal lg_k MAX_THETA seed) && are_accepted read (seed_hash seed) sketches && is_some
    (result_of rules lg_k (values_by rules read sketches) steps)
    then None
    else Some InvalidArgument

-- .. of theta sketches, and of sketches of sums
abbrev pub evaluation_refusal : (seed lg_k : ℕ) → List Step → List (Compact ℕ) → Option ErrorKind
evaluation_refusal seed lg_k steps sketches = refusal_by hash_rules (λ s. s) seed lg_k steps sketches

abbrev pub sums_refusal : SummaryMode → (seed lg_k : ℕ) → List Step → List (Compact (TupleEntry ℕ)) → Option ErrorKind
sums_refusal mode seed lg_k steps sketches = refusal_by (sum_rules mode) (λ s. s) seed lg_k steps sketches

-- merging the entries of two values is refused at a key that both have below the lesser theta
abbrev pub AreRefused : {X : Type 0} → Rules X → Sketch X → Sketch X → Type 0
AreRefused rules Empty b = ⊥
AreRefused rules (NonEmpty a) Empty = ⊥
AreRefused rules (NonEmpty a) (NonEmpty b) = IsMergeRefused rules.key rules.refuses (below rules.key a.entries (min a.theta b.theta)) b.entries

-- .. if an operator merges them, which a difference doesn't
abbrev pub MayRefuseTwo : {X : Type 0} → Rules X → Operator → Sketch X → Sketch X → Type 0
MayRefuseTwo rules Union a b = AreRefused rules a b
MayRefuseTwo rules Intersection a b = AreRefused rules a b
MayRefuseTwo rules Difference a b = ⊥

-- a merge may be refused in a step
abbrev pub MayRefuseStep : {X : Type 0} → Rules X → Step → List (Sketch X) → Type 0
MayRefuseStep rules (Operand i) stack = ⊥
MayRefuseStep rules (Combine op) [] = ⊥
MayRefuseStep rules (Combine op) (b ∷ []) = ⊥
MayRefuseStep rules (Combine op) (b ∷ a ∷ stack) = MayRefuseTwo rules op a b

-- .. in one of some steps
abbrev pub MayRefuse : {X : Type 0} → Rules X → (lg_k : ℕ) → List (Sketch X) → List Step → Option (List (Sketch X)) → Type 0
MayRefuse rules lg_k values [] stack = ⊥
MayRefuse rules lg_k values (step ∷ steps) None = ⊥
MayRefuse rules lg_k values (step ∷ steps) (Some stack) =
    MayRefuseStep rules step stack ⊎ MayRefuse rules lg_k values steps (after_step rules lg_k values step stack)

-- the error of a step: memory ran out, a value is missing, or a merge is refused
abbrev pub IsStepRefused : {X : Type 0} → (after : Option (List (Sketch X))) → (may_refuse : Type 0) → ErrorKind → Type 0
IsStepRefused after may_refuse e = (e ≡ OutOfMemory) ⊎ (((e ≡ InvalidArgument) × (after ≡ None)) ⊎ ((e ≡ Policy) × may_refuse))

-- the error of a merge: memory ran out, or it is refused
abbrev pub IsMergeError : (may_refuse : Type 0) → ErrorKind → Type 0
IsMergeError may_refuse e = (e ≡ OutOfMemory) ⊎ ((e ≡ Policy) × may_refuse)

-- the error of an evaluation: its refusal, or that of a merge
abbrev pub IsEvaluationError : Option ErrorKind → (may_refuse : Type 0) → ErrorKind → Type 0
IsEvaluationError refusal may_refuse e = (refusal ≡ Some e) ⊎ IsMergeError may_refuse e

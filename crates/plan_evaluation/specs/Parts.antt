-- The result of a node of a plan, in any family: a leaf that an operator sees as it is, or a compact sketch.
use Rattle.std.specs.Prelude.{ℕ, ◌≡◌, ◌||◌, ◌^◌, Bool, true, false, List, [], ◌∷◌, Option, Some, None, option_map}
use Rattle.core_compact.specs.CompactState.{Compact as State, IsAnswer, compact_value}
use Rattle.core_laws.specs.Folds.{Fold, unmarked_value}
use Rattle.core_laws.specs.Operators.{unite, meet_next}
use Rattle.core_laws.specs.Shown.{Shown, shown_value}
use Rattle.core_laws.specs.Values.{Sketch, Empty, NonEmpty}
use Rattle.core_state.specs.Updatable.{Updatable, sketch_value}
use Rattle.core_operators.specs.Intersection.{Intersection}
use Rattle.core_operators.specs.Union.{Union, union_value}
use Rattle.plan_text.specs.declared.plan.Plan.{Plan}
use Rattle.plan_evaluation.specs.Refused.{HoldsMore}
use Rattle.plan_values.specs.Family.{Family}
use Rattle.plan_values.specs.Outcome.{is_leaf, orders_itself}
use Rattle.plan_values.specs.Value.{value_in}
use Rattle.plan_evaluation.specs.declared.evaluated.Evaluated.{Evaluated}
use Rattle.plan_evaluation.specs.declared.evaluated.Evaluated.TheVariants.{Mutable, Compact}

-- a part as an operator sees it: its value in folds, its seed hash, and whether it is ordered, which a leaf never is
pub record Part (X : Type 0) : Type 0 where
  pub value : Sketch (Fold X)
  pub seed_hash : ℕ
  pub ordered : Bool

-- the value of a sketch that takes updates, in folds
abbrev pub sketch_in_folds : {X : Type 0} → Updatable X → Sketch (Fold X)
sketch_in_folds s = unmarked_value (sketch_value s)

-- the value that a view shows, in folds
abbrev pub shown_in_folds : {X : Type 0} → (X → ℕ) → Shown → List X → Sketch (Fold X)
shown_in_folds key shown listing = unmarked_value (shown_value key shown listing)

-- the result of a node as an operator sees it, from the state of its sketch or its compact sketch
abbrev pub part_result : {X S C : Type 0} → (X → ℕ) → (S → Updatable X) → (C → State X) → Evaluated S C → Part X
part_result key state listed (Mutable sketch) =
    record { value = sketch_in_folds (state sketch); seed_hash = (state sketch).map.seed_hash; ordered = false }
part_result key state listed (Compact sketch) =
    record {
      value = unmarked_value (compact_value key (listed sketch));
      seed_hash = (listed sketch).seed_hash;
      ordered = (listed sketch).ordered;
    }

-- a compact sketch is the answer with this value in folds
abbrev pub IsFoldAnswer : {X : Type 0} → (X → ℕ) → Sketch (Fold X) → (seed_hash : ℕ) → (asked : Bool) → State X → Type 0
IsFoldAnswer key v seed_hash asked s = (unmarked_value (compact_value key s) ≡ v) × IsAnswer key (compact_value key s) seed_hash asked s

-- a node's result has this value: a leaf's sketch as it is, and any other node's answer, ordered if that was requested
-- (`asked`) or if the node orders it (`own`)
abbrev pub HasValue : {X S C : Type 0}
    → (X → ℕ)
    → (S → Updatable X)
    → (C → State X)
    → Evaluated S C
    → (leaf : Bool)
    → Sketch (Fold X)
    → (seed_hash : ℕ)
    → (asked own : Bool)
    → Type 0
HasValue key state listed (Mutable sketch) leaf v seed_hash asked own =
    (leaf ≡ true) × (own ≡ false) × (sketch_in_folds (state sketch) ≡ v) × ((state sketch).map.seed_hash ≡ seed_hash)
HasValue key state listed (Compact sketch) leaf v seed_hash asked own = (leaf ≡ false) × IsFoldAnswer key v seed_hash (asked || own) (listed sketch)

-- the result of a plan, with or without a requested order, in the folds f of the family
abbrev pub IsResultOf : {X V Z S C : Type 0}
    → (X → ℕ)
    → (S → Updatable X)
    → (C → State X)
    → (f : Family (Fold X) V)
    → (seed_hash : ℕ)
    → Plan V Z
    → (asked : Bool)
    → Evaluated S C
    → Type 0
IsResultOf key state listed f seed_hash p asked e = HasValue key state listed e (is_leaf f p) (value_in f p) seed_hash asked (orders_itself f p)

-- a union merges a value; an empty one changes nothing
abbrev pub Joins : {X P V : Type 0} → (X → ℕ) → (f : Family (Fold X) V) → (old new : Union X P) → Sketch (Fold X) → Type 0
Joins key f old new Empty = new ≡ old
Joins key f old new (NonEmpty v) =
    unmarked_value (union_value key new)
    ≡ unite f.key f.merges (2 ^ old.lg_k) old.start (unmarked_value (union_value key old) ∷ NonEmpty v ∷ [])

-- the value of an intersection: Empty before its first part
abbrev pub value_or_empty : {X : Type 0} → Option (Sketch X) → Sketch X
value_or_empty None = Empty
value_or_empty (Some v) = v

-- a union merged a part: its value, that its settings stayed, and that it has all below its theta of one whole map more
pub record JoinsPart {X V : Type 0} (key : X → ℕ) (f : Family (Fold X) V) (before after : List (Fold X) → Type 0)
    (old new : Union X (Unit {0})) (v : Sketch (Fold X)) : Type 0 where
  pub value : Joins key f old new v
  pub made_with : new ≡ record old { empty = new.empty; content = new.content }
  pub holds : HoldsMore f before after v

-- an intersection met a part: its value, and that its settings stayed
pub record MeetsPart {X V : Type 0} (f : Family (Fold X) V) (old new : Intersection X (Unit {0})) (v : Sketch (Fold X)) : Type 0 where
  pub value : option_map unmarked_value new.result ≡ Some (meet_next f.key f.merges (option_map unmarked_value old.result) v)
  pub made_with : new ≡ record old { result = new.result }

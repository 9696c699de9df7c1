-- If a family's operators refuse by their policies, the whole maps have a mark.
use Rattle.std.specs.Prelude.{ℕ, ◌≡◌, ◌⊎◌, Bool, true, false, IsTrue, List, Option, Some, None}
use Rattle.sketch_base.specs.declared.error.ErrorKind.{ErrorKind}
use Rattle.sketch_base.specs.declared.error.ErrorKind.TheVariants.{OutOfMemory, Policy}
use Rattle.core_laws.specs.Folds.{Fold, has_mark}
use Rattle.core_laws.specs.Maps.{IsAscending}
use Rattle.core_laws.specs.Operators.{joined, common}
use Rattle.core_laws.specs.Samples.{IsAllBelow}
use Rattle.core_laws.specs.Values.{Sketch}
use Rattle.plan_text.specs.declared.plan.Plan.{Plan}
use Rattle.plan_values.specs.Family.{Family}
use Rattle.plan_values.specs.Refusals.{may_refuse, must_refuse}
use Rattle.plan_values.specs.Value.{plan_refusal}

-- memory was refused, or a policy of a family whose policies may refuse did so, for this reason
abbrev pub RefusedFor : ErrorKind → (strict : Bool) → (why : Type 0) → Type 0
RefusedFor e strict why = (e ≡ OutOfMemory) ⊎ ((e ≡ Policy) × IsTrue strict × why)

-- before a part the union has all of a whole map below its theta (`old`), and the part is a sample of another:
-- afterwards the union has all of the two joined (`new`)
abbrev pub HoldsMore : {X V : Type 0} → (f : Family (Fold X) V) → (old new : List (Fold X) → Type 0) → Sketch (Fold X) → Type 0
HoldsMore {X} f old new v =
    (whole arriving : List (Fold X))
    → IsAscending f.key whole
    → IsAscending f.key arriving
    → old whole
    → IsAllBelow f.key v arriving
    → new (joined f.key f.merges whole arriving)

-- why a union's policy may refuse a part: the two whole maps, joined, have a mark, whichever they are
abbrev pub MarksJoined : {X V : Type 0} → (f : Family (Fold X) V) → (holds : List (Fold X) → Type 0) → Sketch (Fold X) → Type 0
MarksJoined {X} f holds v =
    (whole arriving : List (Fold X))
    → IsAscending f.key whole
    → IsAscending f.key arriving
    → holds whole
    → IsAllBelow f.key v arriving
    → has_mark (joined f.key f.merges whole arriving) ≡ true

-- why an intersection's policy may refuse a part: what the two whole maps have in common has a mark, whichever they are
abbrev pub MarksMet : {X V : Type 0} → (f : Family (Fold X) V) → (so_far : Option (Sketch (Fold X))) → Sketch (Fold X) → Type 0
MarksMet f None v = ⊥
MarksMet {X} f (Some u) v =
    (whole arriving : List (Fold X))
    → IsAllBelow f.key u whole
    → IsAllBelow f.key v arriving
    → has_mark (common f.key f.merges whole arriving) ≡ true

-- why the evaluation of a plan is refused: its settings, if no policy must refuse before the first out of range; or memory;
-- or a policy that may refuse before the first setting out of range
abbrev pub IsPlanRefused : {X V Z : Type 0} → (f : Family (Fold X) V) → (strict : Bool) → (seed : ℕ) → Plan V Z → ErrorKind → Type 0
IsPlanRefused f strict seed p e =
    ((plan_refusal seed p ≡ Some e) × (must_refuse f seed p ≡ false))
    ⊎ RefusedFor e strict (IsTrue (may_refuse f seed p))

-- The text that answers a command.
use Rattle.std.proofs.Common.{◌≡◌, ℕ, List, Option, Some, None, Result, Ok, Err, Bool, true, false, cond, inl, inr, refl, ap, subst, ◌∙◌}
use Rattle.std.specs.Prelude.{IfOk, IsTrue, ◌⊎◌}
use Rattle.sketch_base.specs.Seed.{seed_hash}
use Rattle.sketch_base.specs.declared.seed.TheConstants.{DEFAULT_UPDATE_SEED}
use Rattle.sketch_base.specs.declared.error.ErrorKind.{ErrorKind}
use Rattle.sketch_base.specs.declared.error.ErrorKind.TheVariants.{InvalidArgument, InvalidData, OutOfMemory, Policy, Failed}
use Rattle.core_compact.specs.CompactState.{Compact, compact_value, ordered_sketch}
use Rattle.core_slots.specs.Entry.{tuple_key}
use Rattle.core_slots.specs.declared.entry.TupleEntry.{TupleEntry}
use Rattle.core_laws.specs.Values.{Sketch, Empty, NonEmpty}
use Rattle.plan_text.specs.declared.plan.Plan.{Plan}
use Rattle.plan_text.specs.declared.command.Command.{Command}
use Rattle.plan_text.specs.declared.command.Command.TheVariants.{Theta, Tuple}
use Rattle.plan_text.specs.declared.command.Form.{Form}
use Rattle.plan_text.specs.declared.command.Form.TheVariants.{Show, Image}
use Rattle.plan_values.specs.Refusals.{must_refuse}
use Rattle.plan_values.specs.Value.{value_of, value_in, fits, plan_refusal}
use Rattle.plan_evaluation.specs.Answered.{IsOrderedSketchOf}
use Rattle.plan_runs.specs.Answer.{Texts, theta_texts, tuple_texts, sums, AnswersCommand, shows, argument, policy, sketch_text, value_text, argument_line, policy_line, refusal_line, command_refusal, policy_may_refuse, policy_must_refuse}

-- the text of an ordered sketch is that of its value
ordered_text : {X : Type 0} (texts : Texts X) (form : Form) (v : Sketch X) → sketch_text texts form (ordered_sketch v (seed_hash DEFAULT_UPDATE_SEED)) ≡ value_text texts form v
ordered_text texts Show Empty = refl
ordered_text texts Show (NonEmpty v) = refl
ordered_text texts Image v = refl

-- the text of a sketch of a plan's value answers the plan's command
pub answers_value : {Z : Type 0} (form : Form) (plan : Plan (Unit {0}) Z) (sketch : Compact ℕ) (text : List ℕ) → plan_refusal DEFAULT_UPDATE_SEED plan ≡ None → sketch ≡ ordered_sketch (value_of plan) (seed_hash DEFAULT_UPDATE_SEED)
    → text ≡ sketch_text theta_texts form sketch → AnswersCommand (Theta form plan) 0 text
answers_value form plan sketch text accepted value is = λ input s. shows (Theta form plan) text s accepted refl (is ∙ ap (sketch_text theta_texts form) value ∙ ordered_text theta_texts form (value_of plan))

pub answers_tuples : {Z : Type 0} (form : Form) (plan : Plan ℕ Z) (sketch : Compact (TupleEntry ℕ)) (text : List ℕ) → plan_refusal DEFAULT_UPDATE_SEED plan ≡ None → must_refuse sums DEFAULT_UPDATE_SEED plan ≡ false → IsOrderedSketchOf tuple_key (value_in sums plan) (seed_hash DEFAULT_UPDATE_SEED) sketch
    → text ≡ sketch_text tuple_texts form sketch → AnswersCommand (Tuple form plan) 0 text
answers_tuples form plan sketch text accepted unrefused value is =
    let v = compact_value tuple_key sketch in
    λ input s. shows (Tuple form plan) text s accepted unrefused (v, value.0, is ∙ ap (sketch_text tuple_texts form) value.1 ∙ ordered_text tuple_texts form v)

-- why the evaluation of a command's plan may be refused
abbrev pub MayRefuse : {Z : Type 0} → Command Z → ErrorKind → Type 0
MayRefuse command kind = ((command_refusal command ≡ Some kind) × (policy_must_refuse command ≡ false)) ⊎ ((kind ≡ OutOfMemory) ⊎ ((kind ≡ Policy) × IsTrue (policy_may_refuse command)))

-- a plan of theta sketches has no policy that refuses
pub theta_refused : {Z : Type 0} (form : Form) (plan : Plan (Unit {0}) Z) (kind : ErrorKind) → (plan_refusal DEFAULT_UPDATE_SEED plan ≡ Some kind) ⊎ ((kind ≡ OutOfMemory) × IsTrue true) → MayRefuse (Theta form plan) kind
theta_refused form plan kind (inl refused) = inl (refused, refl)
theta_refused form plan kind (inr memory) = inr (inl memory.0)

abbrev some_line : List ℕ → Option (List ℕ)
some_line text = Some text

abbrev some_kind : ErrorKind → Option ErrorKind
some_kind kind = Some kind

same_line : (a b : List ℕ) → some_line a ≡ some_line b → a ≡ b
same_line a b e = cc

-- apart from policies and memory, a plan is refused for an argument alone
for_argument : (fits : Bool) (kind : ErrorKind) → cond fits None (Some InvalidArgument) ≡ some_kind kind → kind ≡ InvalidArgument
for_argument true kind e = absurd cc
for_argument false kind e = cc

only_argument : {Z : Type 0} (command : Command Z) (kind : ErrorKind) → command_refusal command ≡ Some kind → kind ≡ InvalidArgument
only_argument (Theta form plan) kind e = for_argument (fits DEFAULT_UPDATE_SEED plan) kind e
only_argument (Tuple form plan) kind e = for_argument (fits DEFAULT_UPDATE_SEED plan) kind e

answers_argument : {Z : Type 0} (command : Command Z) → MayRefuse command InvalidArgument → AnswersCommand command 1 argument_line
answers_argument command (inl refused) = λ input s. argument command s refused.0 refused.1
answers_argument command (inr (inl memory)) = absurd cc
answers_argument command (inr (inr broken)) = absurd (let other : InvalidArgument ≡ Policy = broken.0 in cc)

answers_policy : {Z : Type 0} (command : Command Z) → MayRefuse command Policy → AnswersCommand command 1 policy_line
answers_policy command (inl refused) = absurd (let other : Policy ≡ InvalidArgument = only_argument command Policy refused.0 in cc)
answers_policy command (inr (inl memory)) = absurd cc
answers_policy command (inr (inr broken)) = λ input s. policy command s broken.1

-- the line of a refusal answers a command whose evaluation may be refused with that error
answers_line : {Z : Type 0} (command : Command Z) (kind : ErrorKind) (text : List ℕ) → MayRefuse command kind → refusal_line kind ≡ Some text → AnswersCommand command 1 text
answers_line command InvalidArgument text refused reported = subst (AnswersCommand command 1) (same_line argument_line text reported) (answers_argument command refused)
answers_line command Policy text refused reported = subst (AnswersCommand command 1) (same_line policy_line text reported) (answers_policy command refused)
answers_line command InvalidData text refused reported = absurd cc
answers_line command OutOfMemory text refused reported = absurd cc
answers_line command Failed text refused reported = absurd cc

pub answers_refused : {Z T E : Type 0} (command : Command Z) (kind : ErrorKind) (status : T → ℕ) (text : T → List ℕ) (r : Result T E) → MayRefuse command kind
    → IfOk r (λ x. (status x ≡ 1) × (refusal_line kind ≡ Some (text x))) → IfOk r (λ x. AnswersCommand command (status x) (text x))
answers_refused command kind status text (Ok x) refused reported = λ input s. rw reported.0 (answers_line command kind (text x) refused reported.1 input s)
answers_refused command kind status text (Err e) refused reported = tt

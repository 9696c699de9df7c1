-- The output for an input.
use Rattle.std.specs.Prelude.{◌≡◌, ℕ, List, [], ◌∷◌, ◌++◌, ◌+◌, ◌/◌, ◌%◌, length, codes, IsTrue, Bool, true, false}
use Rattle.std.specs.Prelude.{if◌then◌else◌, Option, Some, None, decimal}
use Rattle.std.specs.Int.{w64, to_le_bytes}
use Rattle.std.specs.Char.{digit_char}
use Rattle.std.specs.List.{flat_map}
use Rattle.sketch_base.specs.Seed.{seed_hash}
use Rattle.sketch_base.specs.declared.seed.TheConstants.{DEFAULT_UPDATE_SEED}
use Rattle.sketch_base.specs.declared.error.ErrorKind.{ErrorKind}
use Rattle.sketch_base.specs.declared.error.ErrorKind.TheVariants.{InvalidArgument, Policy}
use Rattle.core_laws.specs.declared.TheConstants.{MAX_THETA}
use Rattle.core_laws.specs.Folds.{Fold, unmarked_value}
use Rattle.core_laws.specs.Values.{Sketch, Empty, NonEmpty}
use Rattle.core_compact.specs.CompactState.{Compact, ordered_sketch}
use Rattle.core_slots.specs.declared.entry.TupleEntry.{TupleEntry}
use Rattle.core_policies.specs.Sums.{unsigned_sum}
use Rattle.plan_text.specs.declared.command.Command.{Command}
use Rattle.plan_text.specs.declared.command.Command.TheVariants.{Theta, Tuple}
use Rattle.plan_text.specs.declared.command.Form.{Form}
use Rattle.plan_text.specs.declared.command.Form.TheVariants.{Show, Image}
use Rattle.plan_text.specs.declared.fault.Fault.TheVariants.{Syntax, Limit}
use Rattle.plan_text.specs.Spelling.{Spells}
use Rattle.plan_text.specs.Faults.{fault_of}
use Rattle.theta_sketches.specs.Image.{written}
use Rattle.tuple_sketches.specs.Image.{written as written_tuples}
use Rattle.plan_values.specs.Family.{Family, tuple_folds}
use Rattle.plan_values.specs.Refusals.{may_refuse, must_refuse}
use Rattle.plan_values.specs.Value.{value_of, value_in, plan_refusal}

-- a text and the LF that ends its line
abbrev pub ended_line : List ℕ → List ℕ
ended_line text = text ++ 10 ∷ []

-- a number on a line of its own
abbrev pub number_line : ℕ → List ℕ
number_line n = ended_line (decimal n)

-- a hash and its summary on a line of their own
abbrev pub tuple_line : TupleEntry ℕ → List ℕ
tuple_line e = ended_line (decimal e.hash ++ 32 ∷ decimal e.summary)

-- the first lines of `show`: whether the sketch is empty, its theta, and the number of its retained entries
abbrev pub shown_head : Bool → ℕ → ℕ → List ℕ
shown_head empty theta count =
    ended_line (codes "empty " ++ (if empty then codes "yes" else codes "no"))
    ++ codes "theta " ++ number_line theta
    ++ codes "count " ++ number_line count

-- a byte as two digits of lower-case hexadecimal
abbrev pub hex_byte : ℕ → List ℕ
hex_byte byte = digit_char (byte / 16) ∷ digit_char (byte % 16) ∷ []

-- bytes in hexadecimal, on a line
abbrev pub hex_line : List ℕ → List ℕ
hex_line bytes = ended_line (flat_map hex_byte bytes)

-- the texts of the sketches of a family: the line of an entry, and the image of a sketch
pub record Texts (X : Type 0) : Type 0 where
  pub line : X → List ℕ
  pub image : Compact X → List ℕ

-- those of theta sketches
abbrev pub theta_texts : Texts ℕ
theta_texts = record { line = number_line; image = written }

-- those of tuple sketches, whose summaries are numbers of eight bytes in an image
abbrev pub tuple_texts : Texts (TupleEntry ℕ)
tuple_texts = record { line = tuple_line; image = written_tuples (λ summary. to_le_bytes w64 summary) }

-- the text of `show`: the first lines, then the entries, one per line
abbrev pub show_lines : {X : Type 0} → Texts X → Bool → ℕ → List X → List ℕ
show_lines texts empty theta entries = shown_head empty theta (length entries) ++ flat_map texts.line entries

-- the text of `show` for a value: Empty has the greatest theta and no entries
abbrev pub shown : {X : Type 0} → Texts X → Sketch X → List ℕ
shown texts Empty = show_lines texts true MAX_THETA []
shown texts (NonEmpty v) = show_lines texts false v.theta v.entries

-- the text of `image` for a value: the image of its ordered sketch
abbrev pub imaged : {X : Type 0} → Texts X → Sketch X → (seed_hash : ℕ) → List ℕ
imaged texts v seed_hash = hex_line (texts.image (ordered_sketch v seed_hash))

-- the text of a sketch in a form
abbrev pub sketch_text : {X : Type 0} → Texts X → Form → Compact X → List ℕ
sketch_text texts Show s = show_lines texts s.empty s.theta s.entries
sketch_text texts Image s = hex_line (texts.image s)

-- the text of a value in a form, under the default seed
abbrev pub value_text : {X : Type 0} → Texts X → Form → Sketch X → List ℕ
value_text texts Show v = shown texts v
value_text texts Image v = imaged texts v (seed_hash DEFAULT_UPDATE_SEED)

-- `error`, the number of a line and the kind of its fault
abbrev pub fault_line : ℕ → List ℕ → List ℕ
fault_line line kind = ended_line (codes "error " ++ decimal line ++ 32 ∷ kind)

-- the line of an argument that is refused
abbrev pub argument_line : List ℕ
argument_line = ended_line (codes "error argument")

-- the line of a refusal by a policy
abbrev pub policy_line : List ℕ
policy_line = ended_line (codes "error policy")

-- the line of refused memory
abbrev pub memory_line : List ℕ
memory_line = ended_line (codes "error memory")

-- the line of an evaluation refused for an argument or by a policy
abbrev pub refusal_line : ErrorKind → Option (List ℕ)
refusal_line InvalidArgument = Some argument_line
refusal_line Policy = Some policy_line
refusal_line _ = None

-- the program's tuple sketches: the values of a key add up from 0, in 64 bits, and so do the summaries that inputs share
abbrev pub sums : Family (Fold (TupleEntry ℕ)) ℕ
sums = tuple_folds (Some 0) (unsigned_sum 64) (unsigned_sum 64)

-- the text shows the value of a command's plan in the command's form; for tuple sketches that value has no mark
abbrev pub Shows : {Z : Type 0} → Command Z → List ℕ → Type 0
Shows (Theta form plan) text = text ≡ value_text theta_texts form (value_of plan)
Shows (Tuple form plan) text = (v : Sketch (TupleEntry ℕ)) × (unmarked_value v ≡ value_in sums plan) × (text ≡ value_text tuple_texts form v)

-- why the evaluation of a command's plan is refused, apart from policies and memory
abbrev pub command_refusal : {Z : Type 0} → Command Z → Option ErrorKind
command_refusal (Theta form plan) = plan_refusal DEFAULT_UPDATE_SEED plan
command_refusal (Tuple form plan) = plan_refusal DEFAULT_UPDATE_SEED plan

-- whether a policy may refuse the evaluation of a command's plan; never for theta sketches
abbrev pub policy_may_refuse : {Z : Type 0} → Command Z → Bool
policy_may_refuse (Theta form plan) = false
policy_may_refuse (Tuple form plan) = may_refuse sums DEFAULT_UPDATE_SEED plan

-- and whether one must: if it refuses a leaf's step before the first setting out of range
abbrev pub policy_must_refuse : {Z : Type 0} → Command Z → Bool
policy_must_refuse (Theta form plan) = false
policy_must_refuse (Tuple form plan) = must_refuse sums DEFAULT_UPDATE_SEED plan

-- the status and the text that may answer an input: the answer to its command, an evaluation refused for an argument or
-- by a policy, the first fault of the input, or refused memory
pub data Answers (Z : Type 0) (input : List ℕ) : ℕ → List ℕ → Type 0 where
  shows : (command : Command Z) (text : List ℕ)
      → Spells input command
      → command_refusal command ≡ None
      → policy_must_refuse command ≡ false
      → Shows command text
      → Answers Z input 0 text
  argument : (command : Command Z)
      → Spells input command
      → command_refusal command ≡ Some InvalidArgument
      → policy_must_refuse command ≡ false
      → Answers Z input 1 argument_line
  policy : (command : Command Z) → Spells input command → IsTrue (policy_may_refuse command) → Answers Z input 1 policy_line
  wrong : (line : ℕ) → fault_of input ≡ Some (Syntax line) → Answers Z input 1 (fault_line line (codes "syntax"))
  too_deep : (line : ℕ) → fault_of input ≡ Some (Limit line) → Answers Z input 1 (fault_line line (codes "limit"))
  no_memory : Answers Z input 1 memory_line

-- an answer to every input that spells the command
abbrev pub AnswersCommand : {Z : Type 0} → Command Z → ℕ → List ℕ → Type 0
AnswersCommand {Z} command status text = (input : List ℕ) → Spells input command → Answers Z input status text

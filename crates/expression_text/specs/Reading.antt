-- The state between two tokens: what is pending, and the operand after it.
use Rattle.std.specs.Prelude.{ℕ, ◌≡◌, ◌<◌, ◌≤◌, ◌+◌, ◌||◌, Bool, true, false, if◌then◌else◌, List, [], ◌∷◌, ◌++◌}
use Rattle.std.specs.Prelude.{length, get_or, map}
use Rattle.std.specs.Str.{bytes_eq}
use Rattle.expression_text.specs.declared.operator.Operator.{Operator}
use Rattle.expression_text.specs.declared.operator.Step.{Step}
use Rattle.expression_text.specs.declared.parsing.Pending.{Pending}
use Rattle.expression_text.specs.declared.parsing.Pending.TheVariants.{Group, Sign}
use Rattle.expression_text.specs.declared.parsing.Reading.{Reading}
use Rattle.expression_text.specs.Expressions.{Expression, postfix, HasIndicesBelow}
use Rattle.expression_text.specs.Grammar.{tokens_of, names_in, strength, level, IsBound, depth, most_levels}
use Rattle.expression_text.specs.Tokens.{Lexeme, name, sign, opening, closing, IsAfterBlanks, IsText, IsToken}
use Rattle.expression_text.specs.Tokens.{NoBlankFirst}

-- names have this name at an index
pub record HasName (names : List (List ℕ)) (word : List ℕ) (i : ℕ) : Type 0 where
  pub inside : i < length names
  pub same : get_or names i [] ≡ word

-- whether a word is among names
abbrev pub has_name : (names : List (List ℕ)) → (word : List ℕ) → Bool
has_name [] word = false
has_name (other ∷ names) word = bytes_eq other word || has_name names word

-- names and a word, which is appended if it isn't among them
abbrev pub with_name : (names : List (List ℕ)) → (word : List ℕ) → List (List ℕ)
with_name names word = if has_name names word then names else names ++ word ∷ []

-- names have this name at an index, perhaps after it was appended to them
pub record IsIndexed (old new : List (List ℕ)) (word : List ℕ) (i : ℕ) : Type 0 where
  pub more : List (List ℕ)
  pub appended : new ≡ old ++ more
  pub named : new ≡ with_name old word
  pub found : HasName new word i

-- what is around an operand: an open group, or an operator after its left operand
pub data Frame : Type 0 where
  group : Frame
  left : Expression → Operator → Frame

-- frames, the innermost first, as what is pending
abbrev pub pending_of : List Frame → List Pending
pending_of [] = []
pending_of (group ∷ frames) = pending_of frames ++ Group ∷ []
pending_of (left a op ∷ frames) = pending_of frames ++ Sign op ∷ []

-- their tokens
abbrev pub tokens_before : (names : List (List ℕ)) → List Frame → List Lexeme
tokens_before names [] = []
tokens_before names (group ∷ frames) = tokens_before names frames ++ opening ∷ []
tokens_before names (left a op ∷ frames) = tokens_before names frames ++ (tokens_of names a ++ sign op ∷ [])

-- their steps
abbrev pub steps_before : List Frame → List Step
steps_before [] = []
steps_before (group ∷ frames) = steps_before frames
steps_before (left a op ∷ frames) = steps_before frames ++ postfix a

-- how many groups are open
abbrev pub open_groups : List Frame → ℕ
open_groups [] = 0
open_groups (group ∷ frames) = open_groups frames + 1
open_groups (left a op ∷ frames) = open_groups frames

-- the operator before an operand, if there is one in its group, binds less tightly than this
abbrev pub IsAbove : (strength : ℕ) → List Frame → Type 0
IsAbove s [] = Unit {0}
IsAbove s (group ∷ frames) = Unit {0}
IsAbove s (left a op ∷ frames) = strength op < s

-- an operand inside frames is bound together, within names, and not too deep
pub record IsOperand (count : ℕ) (frames : List Frame) (e : Expression) : Type 0 where
  pub bound : IsBound e
  pub deep : open_groups frames + depth e ≤ most_levels
  pub within : (n : ℕ) → count ≤ n → HasIndicesBelow n e

-- each left operand binds its operator
abbrev pub AreFrames : (count : ℕ) → List Frame → Type 0
AreFrames count [] = Unit {0}
AreFrames count (group ∷ frames) = AreFrames count frames
AreFrames count (left a op ∷ frames) = IsOperand count frames a × (strength op ≤ level a) × IsAbove (strength op) frames × AreFrames count frames

-- the last one pending is not an operator that binds at least this tightly
abbrev pub LacksSign : (least : ℕ) → List Pending → Type 0
LacksSign least pending = (front : List Pending) (op : Operator) → pending ≡ front ++ Sign op ∷ [] → strength op < least

-- frames around the next token
pub record AreAround (names : List (List ℕ)) (pending : List Pending) (levels : ℕ) (frames : List Frame) : Type 0 where
  pub pending_are : pending ≡ pending_of frames
  pub levels_are : levels ≡ open_groups frames
  pub sound : AreFrames (length names) frames

-- tokens that end before an operand; they are the same whatever names are appended
pub record WantsOperand (tokens : List Lexeme) (names : List (List ℕ)) (pending : List Pending) (steps : List Step) (levels : ℕ) : Type 0 where
  pub frames : List Frame
  pub around : AreAround names pending levels frames
  pub named : names ≡ names_in tokens
  pub tokens_are : (more : List (List ℕ)) → tokens ≡ tokens_before (names ++ more) frames
  pub steps_are : steps ≡ steps_before frames
  pub limited : open_groups frames ≤ most_levels

-- tokens that end with an operand, which is bound together at least this tightly
pub record HasOperand (least : ℕ) (tokens : List Lexeme) (names : List (List ℕ)) (pending : List Pending)
    (steps : List Step) (levels : ℕ) : Type 0 where
  pub frames : List Frame
  pub tree : Expression
  pub around : AreAround names pending levels frames
  pub named : names ≡ names_in tokens
  pub operand : IsOperand (length names) frames tree
  pub above : IsAbove (level tree) frames
  pub tight : least ≤ level tree
  pub tokens_are : (more : List (List ℕ)) → tokens ≡ tokens_before (names ++ more) frames ++ tokens_of (names ++ more) tree
  pub steps_are : steps ≡ steps_before frames ++ postfix tree

-- and no pending operator binds at least as tightly
pub record IsSettled (least : ℕ) (tokens : List Lexeme) (names : List (List ℕ)) (pending : List Pending)
    (steps : List Step) (levels : ℕ) : Type 0 where
  pub has : HasOperand least tokens names pending steps levels
  pub settled : LacksSign least pending

-- the state after tokens
abbrev pub IsReading : (tokens : List Lexeme)
    → (names : List (List ℕ))
    → (pending : List Pending)
    → (steps : List Step)
    → (levels : ℕ)
    → (after_operand : Bool)
    → Type 0
IsReading tokens names pending steps levels true = HasOperand 3 tokens names pending steps levels
IsReading tokens names pending steps levels false = WantsOperand tokens names pending steps levels

-- these tokens were read
abbrev pub HasTokens : {A : Type 0} → (tokens : List Lexeme) → Reading A → Type 0
HasTokens tokens r = IsReading tokens (map (λ v. v.items) r.names.items) r.pending.items r.steps.items r.levels r.after_operand

-- a token may follow, after this many open parentheses and perhaps an operand
abbrev pub CanFollow : (levels : ℕ) → (after_operand : Bool) → Lexeme → Type 0
CanFollow levels after_operand (name word) = after_operand ≡ false
CanFollow levels after_operand (sign op) = after_operand ≡ true
CanFollow levels after_operand opening = (after_operand ≡ false) × (levels < most_levels)
CanFollow levels after_operand closing = (after_operand ≡ true) × (0 < levels)

-- nothing may follow: the next token of a text, if it has one, may not
abbrev pub NothingFollows : (levels : ℕ) → (after_operand : Bool) → (text : List ℕ) → Type 0
NothingFollows levels after_operand text = (t : Lexeme) (rest : List ℕ) → IsToken t text rest → CanFollow levels after_operand t → ⊥

-- an expression may end: every parenthesis is closed, behind an operand
abbrev pub CanEnd : (levels : ℕ) → (after_operand : Bool) → Type 0
CanEnd levels after_operand = (levels ≡ 0) × (after_operand ≡ true)

-- all tokens are these, and then those of a text
pub record EndsWith (text : List ℕ) (tokens all : List Lexeme) : Type 0 where
  pub more : List Lexeme
  pub parted : all ≡ tokens ++ more
  pub is_text : IsText more text

-- the tokens of a text up to a rest that begins with no blank
pub record HasRead (text rest : List ℕ) (names : List (List ℕ)) (pending : List Pending) (steps : List Step)
    (levels : ℕ) (after_operand : Bool) : Type 0 where
  pub tokens : List Lexeme
  pub before : List ℕ
  pub blanks : IsAfterBlanks before rest
  pub joined : (more : List Lexeme) → IsText more before → IsText (tokens ++ more) text
  pub parted : (all : List Lexeme) → IsText all text → EndsWith before tokens all
  pub trimmed : NoBlankFirst rest
  pub reading : IsReading tokens names pending steps levels after_operand

-- The tokens of a text.
use Rattle.std.specs.Prelude.{ℕ, ◌≡◌, ◌≢◌, ◌<◌, ◌==◌, ◌||◌, ◌⊎◌, not, Bool, true, false, List, [], ◌∷◌, ◌++◌}
use Rattle.std.specs.Prelude.{length, get_or}
use Rattle.expression_text.specs.declared.operator.Operator.{Operator}
use Rattle.expression_text.specs.declared.operator.Operator.TheVariants.{Union, Intersection, Difference}
use Rattle.expression_text.specs.declared.tokens.Token.{Token}
use Rattle.expression_text.specs.declared.tokens.Token.TheVariants as token

-- a token: a name by its bytes, the sign of an operator, or a parenthesis
pub data Lexeme : Type 0 where
  name : List ℕ → Lexeme
  sign : Operator → Lexeme
  opening : Lexeme
  closing : Lexeme

-- what a token of the program is
abbrev pub lexeme_of : Token → Lexeme
lexeme_of (token.Name word) = name word.now
lexeme_of (token.Sign op) = sign op
lexeme_of token.Opening = opening
lexeme_of token.Closing = closing

-- blank, tab and LF
abbrev pub is_blank : ℕ → Bool
is_blank b = b == 32 || b == 9 || b == 10

-- the bytes of a name without quotes: all but blanks, `(`, `)`, `&`, `+`, `|` and `"`
abbrev pub is_word_byte : ℕ → Bool
is_word_byte b = not (is_blank b || b == 40 || b == 41 || b == 38 || b == 43 || b == 124 || b == 34)

-- all bytes pass a test
abbrev pub AreAll : (ℕ → Bool) → List ℕ → Type 0
AreAll test bytes = (k : ℕ) → k < length bytes → test (get_or bytes k 0) ≡ true

-- a byte is not among some
abbrev pub HasNoByte : (byte : ℕ) → List ℕ → Type 0
HasNoByte byte bytes = (k : ℕ) → k < length bytes → get_or bytes k 0 ≢ byte

-- a text begins with a byte that a word may have
abbrev pub BeginsWord : List ℕ → Type 0
BeginsWord [] = ⊥
BeginsWord (b ∷ bytes) = is_word_byte b ≡ true

-- a text doesn't begin with a blank
abbrev pub NoBlankFirst : List ℕ → Type 0
NoBlankFirst [] = Unit {0}
NoBlankFirst (b ∷ bytes) = is_blank b ≡ false

-- a name of word bytes, as it is: "-" alone is none
pub record IsPlainName (word front : List ℕ) : Type 0 where
  pub same : front ≡ word
  pub of_word_bytes : AreAll is_word_byte word
  pub no_sign : word ≢ 45 ∷ []

-- a name of any bytes but the quote, between two quotes
pub record IsQuoted (word front : List ℕ) : Type 0 where
  pub between : front ≡ 34 ∷ (word ++ 34 ∷ [])
  pub no_quote : HasNoByte 34 word

-- the bytes of a token; a name isn't empty
abbrev pub SpellsToken : Lexeme → (front : List ℕ) → Type 0
SpellsToken (name word) front = (word ≢ []) × (IsPlainName word front ⊎ IsQuoted word front)
SpellsToken (sign Union) front = (front ≡ 43 ∷ []) ⊎ (front ≡ 124 ∷ [])
SpellsToken (sign Intersection) front = front ≡ 38 ∷ []
SpellsToken (sign Difference) front = front ≡ 45 ∷ []
SpellsToken opening front = front ≡ 40 ∷ []
SpellsToken closing front = front ≡ 41 ∷ []

-- a text begins with a token, whose word ends there
pub record IsToken (t : Lexeme) (text rest : List ℕ) : Type 0 where
  pub front : List ℕ
  pub parts : text ≡ front ++ rest
  pub spells : SpellsToken t front
  pub ends : BeginsWord front → BeginsWord rest → ⊥

-- a text begins with no token
abbrev pub LacksToken : (text : List ℕ) → Type 0
LacksToken text = (t : Lexeme) (rest : List ℕ) → IsToken t text rest → ⊥

-- the rest of a text after some blanks
pub record IsAfterBlanks (text rest : List ℕ) : Type 0 where
  pub blanks : List ℕ
  pub parts : text ≡ blanks ++ rest
  pub are_blank : AreAll is_blank blanks

-- a text begins with a word, which ends there
pub record IsSplitWord (text word rest : List ℕ) : Type 0 where
  pub parts : text ≡ word ++ rest
  pub of_word_bytes : AreAll is_word_byte word
  pub ends : BeginsWord rest → ⊥

-- a text begins with a token after blanks
pub record BeginsWithToken (t : Lexeme) (text rest : List ℕ) : Type 0 where
  pub from : List ℕ
  pub after_blanks : IsAfterBlanks text from
  pub token : IsToken t from rest

-- the tokens of a text
abbrev pub IsText : List Lexeme → (text : List ℕ) → Type 0
IsText [] text = IsAfterBlanks text []
IsText (t ∷ tokens) text = (rest : List ℕ) × BeginsWithToken t text rest × IsText tokens rest

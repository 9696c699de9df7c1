-- Tokens at the front of a text.
use Rattle.std.proofs.Common.{◌≡◌, ◌≢◌, ℕ, eqb, ◌<◌, ◌≤◌, Bool, true, false, List, [], ◌∷◌, ◌++◌, length, get_or, refl, ap, sym, subst, ◌∙◌, arith, inl, inr, append_assoc, append-nil, length-append}
use Rattle.std.proofs.lemmas.List.{get_or_append_left}
use Rattle.std.proofs.Math.Seq.{get_or-append_seam}
use Rattle.std.specs.Prelude.{◌⊎◌, Option, Some, None, MatchOption, IfSome}
use Rattle.std.proofs.lemmas.Bool.Decides.{nat_tests}
use Rattle.expression_text.specs.Tokens.{Lexeme, name, sign, opening, closing, is_blank, is_word_byte, AreAll, HasNoByte, BeginsWord, SpellsToken, IsToken, IsAfterBlanks, IsSplitWord, IsText, NoBlankFirst, LacksToken}
use Rattle.expression_text.specs.declared.operator.Operator.{Operator}
use Rattle.expression_text.specs.declared.operator.Operator.TheVariants.{Union, Intersection, Difference}
use Rattle.expression_text.specs.declared.operator.Step.{Step}
use Rattle.expression_text.specs.declared.parsing.Pending.{Pending}
use Rattle.expression_text.specs.Reading.{IsReading, HasRead, EndsWith}
use Rattle.expression_text.proofs.NextToken.{no_token, next_token}

-- the bytes before a place pass a test
pub front_passes : (test : ℕ → Bool) (text front rest : List ℕ) (i : ℕ) → text ≡ front ++ rest → length front ≡ i → ((k : ℕ) → k < i → test (get_or text k 0) ≡ true) → AreAll test front
front_passes test text front rest i parts len each k lt =
    let low : k < i = omega (arith, lt, len) in
    ap test (sym (get_or_append_left front rest 0 k lt) ∙ ap (λ t. get_or t k 0) (sym parts)) ∙ each k low

-- blanks before a place
pub blanks_before : (text front rest : List ℕ) (i : ℕ) → text ≡ front ++ rest → length front ≡ i → ((k : ℕ) → k < i → is_blank (get_or text k 0) ≡ true) → IsAfterBlanks text rest
blanks_before text front rest i parts len each = record { blanks = front; parts = parts; are_blank = front_passes is_blank text front rest i parts len each }

-- a text begins with no blank at a byte that is none
pub no_blank_there : (front rest : List ℕ) → is_blank (get_or (front ++ rest) (length front) 0) ≡ false → NoBlankFirst rest
no_blank_there front [] other = tt
no_blank_there front (b ∷ rest) other = ap is_blank (sym (get_or-append_seam front b rest 0)) ∙ other

pub no_blank_at : (text front rest : List ℕ) (i : ℕ) → text ≡ front ++ rest → length front ≡ i → is_blank (get_or text i 0) ≡ false → NoBlankFirst rest
no_blank_at text front rest i parts len other = no_blank_there front rest (ap (λ t. is_blank (get_or t (length front) 0)) (sym parts) ∙ ap (λ n. is_blank (get_or text n 0)) len ∙ other)

pub blanks_alone : (text : List ℕ) (i : ℕ) → length text ≤ i → ((k : ℕ) → k < i → is_blank (get_or text k 0) ≡ true) → IsAfterBlanks text []
blanks_alone text i le each = record { blanks = text; parts = sym (append-nil text); are_blank = λ k lt. each k (omega (arith, lt, le)) }

-- a word ends at a byte that no word has
ends_there : (front rest : List ℕ) → is_word_byte (get_or (front ++ rest) (length front) 0) ≡ false → BeginsWord rest → ⊥
ends_there front [] other begins = begins
ends_there front (b ∷ rest) other begins = let both : true ≡ false = sym begins ∙ ap is_word_byte (sym (get_or-append_seam front b rest 0)) ∙ other in absurd (cc)

pub word_before : (text front rest : List ℕ) (i : ℕ) → text ≡ front ++ rest → length front ≡ i → ((k : ℕ) → k < i → is_word_byte (get_or text k 0) ≡ true) → is_word_byte (get_or text i 0) ≡ false → IsSplitWord text front rest
word_before text front rest i parts len each other = record {
  parts = parts;
  of_word_bytes = front_passes is_word_byte text front rest i parts len each;
  ends = ends_there front rest (ap (λ t. is_word_byte (get_or t (length front) 0)) (sym parts) ∙ ap (λ n. is_word_byte (get_or text n 0)) len ∙ other);
}

-- a name in quotes
pub quoted : (text word rest : List ℕ) → text ≡ word ++ 34 ∷ rest → HasNoByte 34 word → word ≢ [] → IsToken (name word) (34 ∷ text) rest
quoted text word rest parts lacks some = record {
  front = 34 ∷ (word ++ 34 ∷ []);
  parts = ap (λ (ts : List ℕ). 34 ∷ ts) (parts ∙ sym (append_assoc word (34 ∷ []) rest));
  spells = (some, inr (record { between = refl; no_quote = lacks }));
  ends = λ begins after. absurd (let no : false ≡ true = begins in cc);
}

-- a name without quotes
pub plain : (text word rest : List ℕ) → IsSplitWord text word rest → word ≢ [] → word ≢ 45 ∷ [] → IsToken (name word) text rest
plain text word rest split some other = record {
  front = word;
  parts = split.parts;
  spells = (some, inl (record { same = refl; of_word_bytes = split.of_word_bytes; no_sign = other }));
  ends = λ begins after. split.ends after;
}

-- a token of one byte
pub one_byte : (text rest : List ℕ) (b : ℕ) (t : Lexeme) → text ≡ b ∷ rest → SpellsToken t (b ∷ []) → is_word_byte b ≡ false → IsToken t text rest
one_byte text rest b t parts spells no_word = record { front = b ∷ []; parts = parts; spells = spells; ends = λ begins after. let both : true ≡ false = sym begins ∙ no_word in absurd (cc) }

-- ---- token after token

sign_nonempty : (op : Operator) (front : List ℕ) → SpellsToken (sign op) front → front ≢ []
sign_nonempty Union front (inl is) empty = let both : ◌≡◌ {A = List ℕ} (43 ∷ []) [] = sym is ∙ empty in absurd (cc)
sign_nonempty Union front (inr is) empty = let both : ◌≡◌ {A = List ℕ} (124 ∷ []) [] = sym is ∙ empty in absurd (cc)
sign_nonempty Intersection front is empty = let both : ◌≡◌ {A = List ℕ} (38 ∷ []) [] = sym is ∙ empty in absurd (cc)
sign_nonempty Difference front is empty = let both : ◌≡◌ {A = List ℕ} (45 ∷ []) [] = sym is ∙ empty in absurd (cc)

shorter : (text front rest : List ℕ) → text ≡ front ++ rest → front ≢ [] → length rest < length text
shorter text [] rest parts some = absurd (some refl)
shorter text (b ∷ front) rest parts some = rw parts (omega (arith, length-append front rest))

nonempty : (t : Lexeme) (front : List ℕ) → SpellsToken t front → front ≢ []
nonempty (name word) front spells empty = elim spells.1 [
  | inl plain ↦ spells.0 (sym plain.same ∙ empty)
  | inr quoted ↦ let both : ◌≡◌ {A = List ℕ} (34 ∷ (word ++ 34 ∷ [])) [] = sym quoted.between ∙ empty in absurd (cc)
]
nonempty (sign op) front spells empty = sign_nonempty op front spells empty
nonempty opening front spells empty = let both : ◌≡◌ {A = List ℕ} (40 ∷ []) [] = sym spells ∙ empty in absurd (cc)
nonempty closing front spells empty = let both : ◌≡◌ {A = List ℕ} (41 ∷ []) [] = sym spells ∙ empty in absurd (cc)

pub nothing_before : (text rest : List ℕ) (names : List (List ℕ)) (pending : List Pending) (steps : List Step) (levels : ℕ) (after : Bool) → IsAfterBlanks text rest → NoBlankFirst rest → IsReading [] names pending steps levels after → HasRead text rest names pending steps levels after
nothing_before text rest names pending steps levels after blanks trimmed reading = record {
  tokens = [];
  before = text;
  blanks = blanks;
  joined = λ more is. is;
  parted = λ all is. record { more = all; parted = refl; is_text = is };
  trimmed = trimmed;
  reading = reading;
}

-- the tokens behind one more token
next_parted : (before rest behind : List ℕ) (tokens all more : List Lexeme) (t : Lexeme) → IsAfterBlanks before rest → NoBlankFirst rest → IsToken t rest behind → all ≡ tokens ++ more → IsText more before → EndsWith behind (tokens ++ t ∷ []) all
next_parted before rest behind tokens all [] t blanks trimmed token parted is =
    absurd (no_token before behind t is (record { from = rest; after_blanks = blanks; token = token }))
next_parted before rest behind tokens all (u ∷ more) t blanks trimmed token parted is =
    let same = next_token before rest behind is.0 t u blanks token is.1 in
    let T : List ℕ → Type 0 = λ r. IsText more r in
    record {
      more = more;
      parted = parted ∙ ap (λ (l : Lexeme). tokens ++ l ∷ more) same.0 ∙ sym (append_assoc tokens (t ∷ []) more);
      is_text = subst T same.1 is.2;
    }

-- one more token
module _ (text rest : List ℕ) (names : List (List ℕ)) (pending : List Pending) (steps : List Step) (levels : ℕ) (after : Bool) (has : HasRead text rest names pending steps levels after) where
  pub token_more : (t : Lexeme) (behind next : List ℕ) (new_names : List (List ℕ)) (new_pending : List Pending) (new_steps : List Step) (new_levels : ℕ) (new_after : Bool) → IsToken t rest behind → IsAfterBlanks behind next → NoBlankFirst next →
      IsReading (has.tokens ++ t ∷ []) new_names new_pending new_steps new_levels new_after → HasRead text next new_names new_pending new_steps new_levels new_after
  token_more t behind next new_names new_pending new_steps new_levels new_after token blanks trimmed reading = record {
    tokens = has.tokens ++ t ∷ [];
    before = behind;
    blanks = blanks;
    joined = λ more is. subst (λ ts. IsText ts text) (sym (append_assoc has.tokens (t ∷ []) more)) (has.joined (t ∷ more) (behind, record { from = rest; after_blanks = has.blanks; token = token }, is));
    parted = λ all is. let end = has.parted all is in next_parted has.before rest behind has.tokens all end.more t has.blanks has.trimmed token end.parted end.is_text;
    trimmed = trimmed;
    reading = reading;
  }

  -- the end
  pub all_tokens : rest ≡ [] → IsText has.tokens text
  all_tokens none = subst (λ ts. IsText ts text) (append-nil has.tokens) (has.joined [] (subst (IsAfterBlanks has.before) none has.blanks))

pub not_nil : (xs : List ℕ) → false ≡ eqb (length xs) 0 → xs ≢ []
not_nil xs some nil = let both : false ≡ true = some ∙ ap (λ (t : List ℕ). eqb (length t) 0) nil in absurd (cc)

-- the union has two signs
pub either_union : (text rest : List ℕ) (b : ℕ) → text ≡ b ∷ rest → (b ≡ 43) ⊎ (b ≡ 124) → IsToken (sign Union) text rest
either_union text rest b parts (inl is) = one_byte text rest 43 (sign Union) (parts ∙ ap (λ (x : ℕ). x ∷ rest) is) (inl refl) refl
either_union text rest b parts (inr is) = one_byte text rest 124 (sign Union) (parts ∙ ap (λ (x : ℕ). x ∷ rest) is) (inr refl) refl

pub rest_shorter : (text rest : List ℕ) → IsAfterBlanks text rest → length rest ≤ length text
rest_shorter text rest after = rw after.parts (omega (arith, length-append after.blanks rest))

-- a fact on an option whose case is known
pub at_some : {X : Type 0} (A : Type 0) (B : X → Type 0) (o : Option X) (x : X) → o ≡ Some x → MatchOption o A B → B x
at_some A B o x is fact = subst (λ p. MatchOption p A B) is fact

pub at_none : {X : Type 0} (A : Type 0) (B : X → Type 0) (o : Option X) → o ≡ None → MatchOption o A B → A
at_none A B o is fact = subst (λ p. MatchOption p A B) is fact

pub if_some : {X : Type 0} (B : X → Type 0) (o : Option X) (x : X) → o ≡ Some x → IfSome o B → B x
if_some B o x is fact = subst (λ p. IfSome p B) is fact

pub is_nil : (xs : List ℕ) → true ≡ eqb (length xs) 0 → length xs ≡ 0
is_nil xs empty = grind (arith, nat_tests)

pub quote_lacks : (text rest : List ℕ) (b : ℕ) → text ≡ b ∷ rest → b ≡ 34 → LacksToken (34 ∷ rest) → LacksToken text
quote_lacks text rest b parts is lacks = subst LacksToken (sym (parts ∙ ap (λ (x : ℕ). x ∷ rest) is)) lacks

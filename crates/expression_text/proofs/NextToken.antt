-- A text has one first token, and one list of tokens.
use Rattle.std.proofs.Common.{◌≡◌, ◌≢◌, ℕ, zero, suc, eqb, ◌<◌, Bool, true, false, cond, List, [], ◌∷◌, ◌++◌, length, get_or, refl, ap, sym, subst, ◌∙◌, arith, inl, inr, append_assoc}
use Rattle.std.specs.Prelude.{◌⊎◌, ◌||◌, ◌==◌, not, Option, Some, None}
use Rattle.std.proofs.Math.Seq.{get_or-append_seam}
use Rattle.std.proofs.Common.{length-append}
use Rattle.expression_text.specs.Tokens.{Lexeme, name, sign, opening, closing, is_blank, is_word_byte, AreAll, HasNoByte, BeginsWord, NoBlankFirst, IsPlainName, IsQuoted, SpellsToken, IsToken, LacksToken, IsAfterBlanks, IsText, BeginsWithToken}
use Rattle.expression_text.specs.declared.operator.Operator.TheVariants.{Union, Intersection, Difference}

-- ---- the longest front of bytes that pass a test

-- a text doesn't begin with a byte that passes
abbrev Stops : (ℕ → Bool) → List ℕ → Type 0
Stops test [] = Unit {0}
Stops test (b ∷ bytes) = test b ≡ false

same_head : (x y : ℕ) (xs ys : List ℕ) → x ∷ xs ≡ y ∷ ys → x ≡ y
same_head x y xs ys e = cc

same_tail : (x y : ℕ) (xs ys : List ℕ) → x ∷ xs ≡ y ∷ ys → xs ≡ ys
same_tail x y xs ys e = cc

head_passes : (test : ℕ → Bool) (x : ℕ) (xs : List ℕ) → AreAll test (x ∷ xs) → test x ≡ true
head_passes test x xs all = all 0 (omega arith)

tail_passes : (test : ℕ → Bool) (x : ℕ) (xs : List ℕ) → AreAll test (x ∷ xs) → AreAll test xs
tail_passes test x xs all = λ k lt. all (suc k) (omega (arith, lt))

stopped : (test : ℕ → Bool) (x : ℕ) (xs rest others : List ℕ) → AreAll test (x ∷ xs) → Stops test others → others ≡ (x ∷ xs) ++ rest → ⊥
stopped test x xs rest [] all stops same = absurd (cc)
stopped test x xs rest (y ∷ ys) all stops same =
    let one : y ≡ x = same_head y x ys (xs ++ rest) same in
    let both : true ≡ false = sym (head_passes test x xs all) ∙ ap test (sym one) ∙ stops in absurd (cc)

same_front : (test : ℕ → Bool) (a b rest more : List ℕ) → a ++ rest ≡ b ++ more → AreAll test a → AreAll test b → Stops test rest → Stops test more → (a ≡ b) × (rest ≡ more)
same_front test [] [] rest more same all every stops ends = (refl, same)
same_front test [] (y ∷ b) rest more same all every stops ends = absurd (stopped test y b more rest every stops same)
same_front test (x ∷ a) [] rest more same all every stops ends = absurd (stopped test x a rest more all ends (sym same))
same_front test (x ∷ a) (y ∷ b) rest more same all every stops ends =
    let one : x ≡ y = same_head x y (a ++ rest) (b ++ more) same in
    let others = same_front test a b rest more (same_tail x y (a ++ rest) (b ++ more) same) (tail_passes test x a all) (tail_passes test y b every) stops ends in
    (ap (λ (z : ℕ). z ∷ a) one ∙ ap (λ (zs : List ℕ). y ∷ zs) others.0, others.1)

-- ---- names in quotes

same_quoted : (a b rest more : List ℕ) → a ++ 34 ∷ rest ≡ b ++ 34 ∷ more → HasNoByte 34 a → HasNoByte 34 b → (a ≡ b) × (rest ≡ more)
same_quoted [] [] rest more same lacks other = (refl, same_tail 34 34 rest more same)
same_quoted [] (y ∷ b) rest more same lacks other = absurd (other 0 (omega arith) (sym (same_head 34 y rest (b ++ 34 ∷ more) same)))
same_quoted (x ∷ a) [] rest more same lacks other = absurd (lacks 0 (omega arith) (same_head x 34 (a ++ 34 ∷ rest) more same))
same_quoted (x ∷ a) (y ∷ b) rest more same lacks other =
    let one : x ≡ y = same_head x y (a ++ 34 ∷ rest) (b ++ 34 ∷ more) same in
    let others = same_quoted a b rest more (same_tail x y (a ++ 34 ∷ rest) (b ++ 34 ∷ more) same) (λ k lt. lacks (suc k) (omega (arith, lt))) (λ k lt. other (suc k) (omega (arith, lt))) in
    (ap (λ (z : ℕ). z ∷ a) one ∙ ap (λ (zs : List ℕ). y ∷ zs) others.0, others.1)

-- ---- the three kinds of tokens

-- a word: a name, or the difference
pub record ByWord (t : Lexeme) (text rest : List ℕ) : Type 0 where
  pub front : List ℕ
  pub parts : text ≡ front ++ rest
  pub some : front ≢ []
  pub of_word_bytes : AreAll is_word_byte front
  pub ends : Stops is_word_byte rest
  pub is : ((t ≡ name front) × (front ≢ 45 ∷ [])) ⊎ ((t ≡ sign Difference) × (front ≡ 45 ∷ []))

-- a name in quotes
pub record ByQuotes (t : Lexeme) (text rest : List ℕ) : Type 0 where
  pub word : List ℕ
  pub parts : text ≡ 34 ∷ (word ++ 34 ∷ rest)
  pub some : word ≢ []
  pub no_quote : HasNoByte 34 word
  pub is : t ≡ name word

-- the token of one byte that no word has
abbrev pub byte_lexeme : ℕ → Option Lexeme
byte_lexeme b = cond (b == 43) (Some (sign Union)) (cond (b == 124) (Some (sign Union)) (cond (b == 38) (Some (sign Intersection)) (cond (b == 40) (Some opening) (cond (b == 41) (Some closing) None))))

pub record ByByte (t : Lexeme) (text rest : List ℕ) : Type 0 where
  pub byte : ℕ
  pub parts : text ≡ byte ∷ rest
  pub is : byte_lexeme byte ≡ Some t
  pub no_word : is_word_byte byte ≡ false
  pub no_quote : eqb byte 34 ≡ false
  pub no_blank : is_blank byte ≡ false

abbrev Kind : Lexeme → (text rest : List ℕ) → Type 0
Kind t text rest = ByWord t text rest ⊎ (ByQuotes t text rest ⊎ ByByte t text rest)

not_true : (b : Bool) → (b ≡ true → ⊥) → b ≡ false
not_true true never = absurd (never refl)
not_true false never = refl

stops_word : (rest : List ℕ) → (BeginsWord rest → ⊥) → Stops is_word_byte rest
stops_word [] ends = tt
stops_word (b ∷ rest) ends = not_true (is_word_byte b) ends

begins_word : (front : List ℕ) → front ≢ [] → AreAll is_word_byte front → BeginsWord front
begins_word [] some all = absurd (some refl)
begins_word (b ∷ front) some all = head_passes is_word_byte b front all

one_kind : (t : Lexeme) (text rest front : List ℕ) (b : ℕ) → text ≡ front ++ rest → front ≡ b ∷ [] → byte_lexeme b ≡ Some t → is_word_byte b ≡ false → eqb b 34 ≡ false → is_blank b ≡ false → Kind t text rest
one_kind t text rest front b parts is lexeme no_word no_quote no_blank =
    inr (inr (record { byte = b; parts = parts ∙ ap (λ (f : List ℕ). f ++ rest) is; is = lexeme; no_word = no_word; no_quote = no_quote; no_blank = no_blank }))

name_kind : (word text rest front : List ℕ) → text ≡ front ++ rest → (BeginsWord front → BeginsWord rest → ⊥) → word ≢ [] → IsPlainName word front ⊎ IsQuoted word front → Kind (name word) text rest
name_kind word text rest front parts ends some (inl plain) =
    let S : List ℕ → Type 0 = λ f. f ≢ [] in
    let nonempty : front ≢ [] = subst S (sym plain.same) some in
    let all : AreAll is_word_byte front = subst (AreAll is_word_byte) (sym plain.same) plain.of_word_bytes in
    let D : List ℕ → Type 0 = λ f. f ≢ 45 ∷ [] in
    inl (record {
      front = front;
      parts = parts;
      some = nonempty;
      of_word_bytes = all;
      ends = stops_word rest (ends (begins_word front nonempty all));
      is = inl (ap (λ (w : List ℕ). name w) (sym plain.same), subst D (sym plain.same) plain.no_sign);
    })
name_kind word text rest front parts ends some (inr quoted) =
    inr (inl (record {
      word = word;
      parts = parts ∙ ap (λ (f : List ℕ). f ++ rest) quoted.between ∙ ap (λ (ts : List ℕ). 34 ∷ ts) (append_assoc word (34 ∷ []) rest);
      some = some;
      no_quote = quoted.no_quote;
      is = refl;
    }))

hyphen_word : AreAll is_word_byte (45 ∷ [])
hyphen_word zero lt = refl
hyphen_word (suc k) lt = absurd (omega (arith, lt))

difference_kind : (text rest front : List ℕ) → text ≡ front ++ rest → (BeginsWord front → BeginsWord rest → ⊥) → front ≡ 45 ∷ [] → Kind (sign Difference) text rest
difference_kind text rest front parts ends is =
    let begins : BeginsWord front = subst BeginsWord (sym is) refl in
    inl (record {
      front = front;
      parts = parts;
      some = λ none. let both : ◌≡◌ {A = List ℕ} (45 ∷ []) [] = sym is ∙ none in absurd (cc);
      of_word_bytes = subst (AreAll is_word_byte) (sym is) hyphen_word;
      ends = stops_word rest (ends begins);
      is = inr (refl, is);
    })

union_kind : (text rest front : List ℕ) → text ≡ front ++ rest → (front ≡ 43 ∷ []) ⊎ (front ≡ 124 ∷ []) → Kind (sign Union) text rest
union_kind text rest front parts (inl is) = one_kind (sign Union) text rest front 43 parts is refl refl refl refl
union_kind text rest front parts (inr is) = one_kind (sign Union) text rest front 124 parts is refl refl refl refl

spelled_kind : (t : Lexeme) (text rest front : List ℕ) → text ≡ front ++ rest → (BeginsWord front → BeginsWord rest → ⊥) → SpellsToken t front → Kind t text rest
spelled_kind (name word) text rest front parts ends spells = name_kind word text rest front parts ends spells.0 spells.1
spelled_kind (sign Union) text rest front parts ends spells = union_kind text rest front parts spells
spelled_kind (sign Intersection) text rest front parts ends spells = one_kind (sign Intersection) text rest front 38 parts spells refl refl refl refl
spelled_kind (sign Difference) text rest front parts ends spells = difference_kind text rest front parts ends spells
spelled_kind opening text rest front parts ends spells = one_kind opening text rest front 40 parts spells refl refl refl refl
spelled_kind closing text rest front parts ends spells = one_kind closing text rest front 41 parts spells refl refl refl refl

kind_of : (t : Lexeme) (text rest : List ℕ) → IsToken t text rest → Kind t text rest
kind_of t text rest token = spelled_kind t text rest token.front token.parts token.ends token.spells

-- ---- the first byte of a token

no_blank_word : (b : ℕ) → is_word_byte b ≡ true → is_blank b ≡ false
no_blank_word b word =
    let f : Bool → Bool = λ x. not (x || b == 40 || b == 41 || b == 38 || b == 43 || b == 124 || b == 34) in
    not_true (is_blank b) (λ e. let both : true ≡ false = sym word ∙ ap f e in absurd (cc))

word_unblank : (front rest : List ℕ) → front ≢ [] → AreAll is_word_byte front → NoBlankFirst (front ++ rest)
word_unblank [] rest some all = absurd (some refl)
word_unblank (b ∷ front) rest some all = no_blank_word b (head_passes is_word_byte b front all)

kind_unblank : (t : Lexeme) (text rest : List ℕ) → Kind t text rest → NoBlankFirst text
kind_unblank t text rest (inl w) = subst NoBlankFirst (sym w.parts) (word_unblank w.front rest w.some w.of_word_bytes)
kind_unblank t text rest (inr (inl q)) = subst NoBlankFirst (sym q.parts) refl
kind_unblank t text rest (inr (inr b)) = subst NoBlankFirst (sym b.parts) b.no_blank

pub token_unblank : (t : Lexeme) (text rest : List ℕ) → IsToken t text rest → NoBlankFirst text
token_unblank t text rest token = kind_unblank t text rest (kind_of t text rest token)

word_first : (front rest bytes : List ℕ) (b : ℕ) → front ≢ [] → AreAll is_word_byte front → front ++ rest ≡ b ∷ bytes → is_word_byte b ≡ true
word_first [] rest bytes b some all same = absurd (some refl)
word_first (x ∷ front) rest bytes b some all same = ap is_word_byte (sym (same_head x b (front ++ rest) bytes same)) ∙ head_passes is_word_byte x front all

-- ---- two tokens at the front of one text

same_words : (t u : Lexeme) (f g : List ℕ) → f ≡ g → ((t ≡ name f) × (f ≢ 45 ∷ [])) ⊎ ((t ≡ sign Difference) × (f ≡ 45 ∷ [])) → ((u ≡ name g) × (g ≢ 45 ∷ [])) ⊎ ((u ≡ sign Difference) × (g ≡ 45 ∷ [])) → t ≡ u
same_words t u f g same (inl a) (inl b) = a.0 ∙ ap (λ (w : List ℕ). name w) same ∙ sym b.0
same_words t u f g same (inl a) (inr b) = absurd (a.1 (same ∙ b.1))
same_words t u f g same (inr a) (inl b) = absurd (b.1 (sym same ∙ a.1))
same_words t u f g same (inr a) (inr b) = a.0 ∙ sym b.0

some_same : (t u : Lexeme) → Some t ≡ Some u → t ≡ u
some_same t u e = cc

word_and_quotes : (t u : Lexeme) (text rest more : List ℕ) → ByWord t text rest → ByQuotes u text more → ⊥
word_and_quotes t u text rest more w q =
    let begins : is_word_byte 34 ≡ true = word_first w.front rest (q.word ++ 34 ∷ more) 34 w.some w.of_word_bytes (sym w.parts ∙ q.parts) in
    absurd (let both : false ≡ true = begins in cc)

word_and_byte : (t u : Lexeme) (text rest more : List ℕ) → ByWord t text rest → ByByte u text more → ⊥
word_and_byte t u text rest more w b =
    let begins : is_word_byte b.byte ≡ true = word_first w.front rest more b.byte w.some w.of_word_bytes (sym w.parts ∙ b.parts) in
    let both : true ≡ false = sym begins ∙ b.no_word in absurd (cc)

quotes_and_byte : (t u : Lexeme) (text rest more : List ℕ) → ByQuotes t text rest → ByByte u text more → ⊥
quotes_and_byte t u text rest more q b =
    let one : 34 ≡ b.byte = same_head 34 b.byte (q.word ++ 34 ∷ rest) more (sym q.parts ∙ b.parts) in
    let both : true ≡ false = ap (λ (x : ℕ). eqb x 34) one ∙ b.no_quote in absurd (cc)

same_kind : (t u : Lexeme) (text rest more : List ℕ) → Kind t text rest → Kind u text more → (t ≡ u) × (rest ≡ more)
same_kind t u text rest more (inl a) (inl b) =
    let parts = same_front is_word_byte a.front b.front rest more (sym a.parts ∙ b.parts) a.of_word_bytes b.of_word_bytes a.ends b.ends in
    (same_words t u a.front b.front parts.0 a.is b.is, parts.1)
same_kind t u text rest more (inl a) (inr (inl b)) = absurd (word_and_quotes t u text rest more a b)
same_kind t u text rest more (inl a) (inr (inr b)) = absurd (word_and_byte t u text rest more a b)
same_kind t u text rest more (inr (inl a)) (inl b) = absurd (word_and_quotes u t text more rest b a)
same_kind t u text rest more (inr (inl a)) (inr (inl b)) =
    let parts = same_quoted a.word b.word rest more (same_tail 34 34 (a.word ++ 34 ∷ rest) (b.word ++ 34 ∷ more) (sym a.parts ∙ b.parts)) a.no_quote b.no_quote in
    (a.is ∙ ap (λ (w : List ℕ). name w) parts.0 ∙ sym b.is, parts.1)
same_kind t u text rest more (inr (inl a)) (inr (inr b)) = absurd (quotes_and_byte t u text rest more a b)
same_kind t u text rest more (inr (inr a)) (inl b) = absurd (word_and_byte u t text more rest b a)
same_kind t u text rest more (inr (inr a)) (inr (inl b)) = absurd (quotes_and_byte u t text more rest b a)
same_kind t u text rest more (inr (inr a)) (inr (inr b)) =
    let same = sym a.parts ∙ b.parts in
    (some_same t u (sym a.is ∙ ap byte_lexeme (same_head a.byte b.byte rest more same) ∙ b.is), same_tail a.byte b.byte rest more same)

pub same_token : (t u : Lexeme) (text rest more : List ℕ) → IsToken t text rest → IsToken u text more → (t ≡ u) × (rest ≡ more)
same_token t u text rest more a b = same_kind t u text rest more (kind_of t text rest a) (kind_of u text more b)

-- ---- blanks

stops_blank : (text : List ℕ) → NoBlankFirst text → Stops is_blank text
stops_blank [] trimmed = tt
stops_blank (b ∷ text) trimmed = trimmed

pub same_rest : (text rest more : List ℕ) → IsAfterBlanks text rest → IsAfterBlanks text more → NoBlankFirst rest → NoBlankFirst more → rest ≡ more
same_rest text rest more a b trimmed other =
    (same_front is_blank a.blanks b.blanks rest more (sym a.parts ∙ b.parts) a.are_blank b.are_blank (stops_blank rest trimmed) (stops_blank more other)).1

-- the next token of a text is the one behind its blanks
pub next_token : (text rest behind more : List ℕ) (t u : Lexeme) → IsAfterBlanks text rest → IsToken t rest behind → BeginsWithToken u text more → (u ≡ t) × (more ≡ behind)
next_token text rest behind more t u blanks token begins =
    let from : begins.from ≡ rest = same_rest text begins.from rest begins.after_blanks blanks (token_unblank u begins.from more begins.token) (token_unblank t rest behind token) in
    let T : List ℕ → Type 0 = λ ts. IsToken u ts more in
    same_token u t rest more behind (subst T from begins.token) token

-- ---- no token

no_kind_quote : (t : Lexeme) (bytes rest : List ℕ) → HasNoByte 34 bytes → Kind t (34 ∷ bytes) rest → ⊥
no_kind_quote t bytes rest lacks (inl w) =
    let begins : is_word_byte 34 ≡ true = word_first w.front rest bytes 34 w.some w.of_word_bytes (sym w.parts) in
    absurd (let both : false ≡ true = begins in cc)
no_kind_quote t bytes rest lacks (inr (inl q)) =
    let same : bytes ≡ q.word ++ 34 ∷ rest = same_tail 34 34 bytes (q.word ++ 34 ∷ rest) q.parts in
    let inside : length q.word < length bytes = rw same (omega (arith, length-append q.word (34 ∷ rest))) in
    lacks (length q.word) inside (ap (λ (bs : List ℕ). get_or bs (length q.word) 0) same ∙ get_or-append_seam q.word 34 rest 0)
no_kind_quote t bytes rest lacks (inr (inr b)) =
    let both : true ≡ false = ap (λ (x : ℕ). eqb x 34) (same_head 34 b.byte bytes rest b.parts) ∙ b.no_quote in absurd (cc)

-- a quote that isn't closed
pub open_quote : (bytes : List ℕ) → HasNoByte 34 bytes → LacksToken (34 ∷ bytes)
open_quote bytes lacks = λ t rest token. no_kind_quote t bytes rest lacks (kind_of t (34 ∷ bytes) rest token)

no_empty_word : (word rest bytes : List ℕ) → word ≢ [] → HasNoByte 34 word → 34 ∷ bytes ≡ word ++ 34 ∷ rest → ⊥
no_empty_word [] rest bytes some lacks same = some refl
no_empty_word (x ∷ word) rest bytes some lacks same = lacks 0 (omega arith) (sym (same_head 34 x bytes (word ++ 34 ∷ rest) same))

no_kind_empty : (t : Lexeme) (bytes rest : List ℕ) → Kind t (34 ∷ (34 ∷ bytes)) rest → ⊥
no_kind_empty t bytes rest (inl w) =
    let begins : is_word_byte 34 ≡ true = word_first w.front rest (34 ∷ bytes) 34 w.some w.of_word_bytes (sym w.parts) in
    absurd (let both : false ≡ true = begins in cc)
no_kind_empty t bytes rest (inr (inl q)) = no_empty_word q.word rest bytes q.some q.no_quote (same_tail 34 34 (34 ∷ bytes) (q.word ++ 34 ∷ rest) q.parts)
no_kind_empty t bytes rest (inr (inr b)) =
    let both : true ≡ false = ap (λ (x : ℕ). eqb x 34) (same_head 34 b.byte (34 ∷ bytes) rest b.parts) ∙ b.no_quote in absurd (cc)

-- two quotes with nothing between
pub empty_name : (text word bytes : List ℕ) → text ≡ word ++ 34 ∷ bytes → length word ≡ 0 → LacksToken (34 ∷ text)
empty_name text [] bytes parts none = subst LacksToken (ap (λ (ts : List ℕ). 34 ∷ ts) (sym parts)) (λ t rest token. no_kind_empty t bytes rest (kind_of t (34 ∷ (34 ∷ bytes)) rest token))
empty_name text (x ∷ word) bytes parts none = absurd (omega (arith, none))

-- ---- all tokens of a text

nil_no_front : (front rest : List ℕ) → front ≢ [] → [] ≡ front ++ rest → ⊥
nil_no_front [] rest some same = some refl
nil_no_front (x ∷ front) rest some same = absurd (cc)

no_kind_nil : (t : Lexeme) (rest : List ℕ) → Kind t [] rest → ⊥
no_kind_nil t rest (inl w) = nil_no_front w.front rest w.some w.parts
no_kind_nil t rest (inr (inl q)) = absurd (let both = q.parts in cc)
no_kind_nil t rest (inr (inr b)) = absurd (let both = b.parts in cc)

-- a text of blanks alone has no token
pub no_token : (text rest : List ℕ) (t : Lexeme) → IsAfterBlanks text [] → BeginsWithToken t text rest → ⊥
no_token text rest t blanks begins =
    let from : begins.from ≡ [] = same_rest text begins.from [] begins.after_blanks blanks (token_unblank t begins.from rest begins.token) tt in
    let T : List ℕ → Type 0 = λ ts. IsToken t ts rest in
    no_kind_nil t rest (kind_of t [] rest (subst T from begins.token))

pub same_tokens : (a b : List Lexeme) (text : List ℕ) → IsText a text → IsText b text → a ≡ b
same_tokens [] [] text first second = refl
same_tokens [] (u ∷ b) text first second = absurd (no_token text second.0 u first second.1)
same_tokens (t ∷ a) [] text first second = absurd (no_token text first.0 t second first.1)
same_tokens (t ∷ a) (u ∷ b) text first second =
    let same = next_token text first.1.from first.0 second.0 t u first.1.after_blanks first.1.token second.1 in
    let T : List ℕ → Type 0 = λ rest. IsText b rest in
    ap (λ (ts : List Lexeme). t ∷ ts) (same_tokens a b first.0 first.2 (subst T same.1 second.2)) ∙ ap (λ (l : Lexeme). l ∷ b) (sym same.0)

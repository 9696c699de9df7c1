-- The first line of a text, and the names in a line.
use Rattle.std.proofs.Common.{◌≡◌, ℕ, suc, ◌+◌, Bool, true, false, cond, List, [], ◌∷◌, ◌++◌, append-nil, zero, length, length-append, take, take_all, le_refl, drop, Option, Some, None, refl, sym, ap, subst, ◌∙◌, arith, append_assoc}
use Rattle.std.specs.Option.{option_map}
use Rattle.std.specs.Str.{bytes_eq}
use Rattle.std.specs.Io.KnownBytes.{Keeps, Consumes, IsAtEnd, prepend_known}
use Rattle.std.proofs.lemmas.Bool.{ne_eqb}
use Rattle.std.proofs.lemmas.List.{take_at}
use Rattle.std.proofs.lemmas.Option.{none-some, same_Some}
use Rattle.keys_lines.specs.Lines.{Lacks, lines_of, lines_after}
use Rattle.keys_lines.specs.Keys.{fields_of}
use Rattle.keys_lines.proofs.Texts.{lines_after-line, lines_after-lacking, lines_whole}
use Rattle.keys_lines.proofs.Fields.{one_field, ended_field}
use Rattle.keys_fields.specs.Names.{place_of, place_in, first_of}
use Rattle.keys_fields.specs.Mapping.{count_after, count_of, left_for, lines_for}
use Rattle.keys_fields.proofs.Reading.{count_more, prepend_none}

-- ---- names

-- the place of a name is that in the rest, after so many fields
abbrev pub IsAfter : (separator passed : ℕ) (name rest line : List ℕ) → Type 0
IsAfter separator passed name rest line = place_in separator name line ≡ option_map (λ n. n + passed) (place_in separator name rest)

at_start : (o : Option ℕ) → o ≡ option_map (λ n. n + 0) o
at_start None = refl
at_start (Some n) = ap Some (omega arith)

pub none_passed : (separator : ℕ) (name line : List ℕ) → IsAfter separator 0 name line line
none_passed separator name line = at_start (place_in separator name line)

one_more : (passed : ℕ) (o : Option ℕ) → option_map (λ n. n + passed) (option_map (λ n. n + 1) o) ≡ option_map (λ n. n + (passed + 1)) o
one_more passed None = refl
one_more passed (Some n) = ap Some (omega arith)

module _ (separator passed : ℕ) (name rest line field others : List ℕ) (is : IsAfter separator passed name rest line) (parts : rest ≡ field ++ separator ∷ others) (lacks : Lacks separator field) where
  fields : fields_of separator rest ≡ field ∷ fields_of separator others
  fields = ap (fields_of separator) parts ∙ ended_field separator field others lacks

  pub name_passed : bytes_eq field name ≡ false → IsAfter separator (passed + 1) name others line
  name_passed e =
      is ∙ ap (λ fs. option_map (λ n. n + passed) (place_of name fs)) fields
      ∙ ap (λ t. option_map (λ n. n + passed) (cond t (Some 0) (option_map (λ n. n + 1) (place_of name (fields_of separator others))))) e
      ∙ one_more passed (place_of name (fields_of separator others))

  pub name_found : bytes_eq field name ≡ true → Some passed ≡ place_in separator name line
  name_found e =
      sym (is ∙ ap (λ fs. option_map (λ n. n + passed) (place_of name fs)) fields
      ∙ ap (λ t. option_map (λ n. n + passed) (cond t (Some 0) (option_map (λ n. n + 1) (place_of name (fields_of separator others))))) e
      ∙ ap Some (omega arith))

module _ (separator passed : ℕ) (name rest line : List ℕ) (is : IsAfter separator passed name rest line) (lacks : Lacks separator rest) where
  pub last_found : bytes_eq rest name ≡ true → Some passed ≡ place_in separator name line
  last_found e = sym (is ∙ ap (λ fs. option_map (λ n. n + passed) (place_of name fs)) (one_field separator rest lacks) ∙ ap (λ t. option_map (λ n. n + passed) (cond t (Some 0) None)) e ∙ ap Some (omega arith))

  pub last_other : bytes_eq rest name ≡ false → None ≡ place_in separator name line
  last_other e = sym (is ∙ ap (λ fs. option_map (λ n. n + passed) (place_of name fs)) (one_field separator rest lacks) ∙ ap (λ t. option_map (λ n. n + passed) (cond t (Some 0) None)) e)

-- ---- first lines

-- the lines of a text are known, and it continues this line
abbrev pub Begins : (text : Option (List ℕ)) (line : List ℕ) (lines : List (List ℕ)) → Type 0
Begins text line lines = (bytes : List ℕ) × (text ≡ Some bytes) × (lines_after line bytes ≡ lines)

-- the lines of a text are known
abbrev pub Has : (text : Option (List ℕ)) (lines : List (List ℕ)) → Type 0
Has text lines = (bytes : List ℕ) × (text ≡ Some bytes) × (lines_of bytes ≡ lines)

pub begins : (text : Option (List ℕ)) (line : List ℕ) (lines : List (List ℕ)) → Has text lines → line ≡ [] → Begins text line lines
begins text line lines has none = (has.0, has.1, ap (λ l. lines_after l has.0) none ∙ lines_whole has.0 ∙ has.2)

pub kept_lines : (text rest : Option (List ℕ)) (line : List ℕ) (lines : List (List ℕ)) → Keeps text rest → Begins text line lines → Begins rest line lines
kept_lines None rest line lines keeps is = absurd (none-some is.0 is.1)
kept_lines (Some text) None line lines keeps is = absurd keeps
kept_lines (Some text) (Some rest) line lines keeps is = (rest, refl, ap (lines_after line) (keeps ∙ same_Some text is.0 is.1) ∙ is.2)

pub piece_begins : (text rest : Option (List ℕ)) (piece line : List ℕ) (lines : List (List ℕ)) → Consumes text rest piece → Lacks 10 piece → Begins text line lines → Begins rest (line ++ piece) lines
piece_begins None rest piece line lines read lacks is = absurd (none-some is.0 is.1)
piece_begins (Some text) None piece line lines read lacks is = absurd read
piece_begins (Some text) (Some rest) piece line lines read lacks is =
    (rest, refl, sym (lines_after-lacking line piece rest lacks) ∙ ap (lines_after line) (sym read ∙ same_Some text is.0 is.1) ∙ is.2)

pub line_ends : (text rest : Option (List ℕ)) (front line : List ℕ) (lines : List (List ℕ)) → Consumes text rest (front ++ 10 ∷ []) → Lacks 10 front → Begins text line lines → (line ++ front ≡ first_of lines) × Has rest (drop 1 lines)
line_ends None rest front line lines read lacks is = absurd (none-some is.0 is.1)
line_ends (Some text) None front line lines read lacks is = absurd read
line_ends (Some text) (Some rest) front line lines read lacks is =
    let whole : (line ++ front) ∷ lines_after [] rest ≡ lines =
    sym (lines_after-line line front rest lacks) ∙ ap (lines_after line) (sym (read ∙ append_assoc front (10 ∷ []) rest) ∙ same_Some text is.0 is.1) ∙ is.2 in
    (ap first_of whole, (rest, refl, sym (lines_whole rest) ∙ ap (drop 1) whole))

last_line : (line : List ℕ) → (line ≡ first_of (lines_after line [])) × ([] ≡ drop 1 (lines_after line []))
last_line [] = (refl, refl)
last_line (byte ∷ line) = rw (ne_eqb (length (byte ∷ line)) 0 (λ e. omega (arith, e))) (refl, refl)

pub text_ends : (text rest : Option (List ℕ)) (line : List ℕ) (lines : List (List ℕ)) → Keeps text rest → IsAtEnd rest → Begins text line lines → (line ≡ first_of lines) × Has rest (drop 1 lines)
text_ends None rest line lines keeps end is = absurd (none-some is.0 is.1)
text_ends (Some text) None line lines keeps end is = absurd keeps
text_ends (Some text) (Some rest) line lines keeps end is =
    let none : lines_after line [] ≡ lines = ap (lines_after line) (sym end ∙ keeps ∙ same_Some text is.0 is.1) ∙ is.2 in
    ((last_line line).0 ∙ ap first_of none, (rest, refl, ap lines_of end ∙ (last_line line).1 ∙ ap (drop 1) none))

-- as much as a reader showed, through an LF
pub shown_through : (text rest : Option (List ℕ)) (shown front behind : List ℕ) → shown ≡ front ++ 10 ∷ behind → Consumes text rest (take (length front + 1) shown) → Consumes text rest (front ++ 10 ∷ [])
shown_through text rest shown front behind parts read =
    subst (Consumes text rest) (ap (take (length front + 1)) (parts ∙ sym (append_assoc front (10 ∷ []) behind)) ∙ take_at (front ++ 10 ∷ []) behind (length front + 1) (length-append front (10 ∷ []))) read

-- all of it
pub shown_whole : (text rest : Option (List ℕ)) (shown : List ℕ) (count : ℕ) → count ≡ length shown → Consumes text rest (take count shown) → Consumes text rest shown
shown_whole text rest shown count all read = subst (Consumes text rest) (ap (λ (n : ℕ). take n shown) all ∙ take_all (length shown) shown (le_refl _)) read

-- the lines of a text of which nothing was read
pub lines_left : (passed : List ℕ → Option (List ℕ)) (counted : List ℕ → Bool) (waiting : List ℕ) (count : ℕ) (begun : List ℕ) (text : Option (List ℕ)) (lines : List (List ℕ)) → waiting ≡ [] → begun ≡ [] → count ≡ 0 → Has text lines
    → ((left_for passed counted waiting count begun text).0 ≡ lines_for passed lines) × ((left_for passed counted waiting count begun text).1 ≡ count_of counted lines)
lines_left passed counted waiting count begun text lines none ended from_none has =
    let whole : left_for passed counted waiting count begun text ≡ (prepend_known [] (lines_for passed lines), count_after counted 0 lines) =
    ap (λ t. left_for passed counted waiting count begun t) has.1 ∙ ap (λ w. left_for passed counted w count begun (Some has.0)) none ∙ ap (λ b. left_for passed counted [] count b (Some has.0)) ended
    ∙ ap (λ (n : ℕ). left_for passed counted [] n [] (Some has.0)) from_none ∙ ap left_of (lines_whole has.0 ∙ has.2) in
    (ap (λ x. x.0) whole ∙ prepend_none (lines_for passed lines), ap (λ x. x.1) whole ∙ count_more counted 0 lines (omega arith) ∙ omega arith)
  where
    left_of : List (List ℕ) → Option (List ℕ) × ℕ
    left_of ls = (prepend_known [] (lines_for passed ls), count_after counted 0 ls)

-- ---- one byte

lacks_one : (byte : ℕ) → (byte ≡ 10 → ⊥) → Lacks 10 (byte ∷ [])
lacks_one byte other zero lt is = other is
lacks_one byte other (suc i) lt is = absurd (omega (arith, lt))

-- a byte is read that ends no line
pub byte_begins : (text rest : Option (List ℕ)) (byte : ℕ) (line : List ℕ) (lines : List (List ℕ)) → Consumes text rest (byte ∷ []) → (byte ≡ 10 → ⊥) → Begins text line lines → Begins rest (line ++ byte ∷ []) lines
byte_begins text rest byte line lines read other is = piece_begins text rest (byte ∷ []) line lines read (lacks_one byte other) is

-- an LF is read
pub byte_ends : (text rest : Option (List ℕ)) (byte : ℕ) (line : List ℕ) (lines : List (List ℕ)) → Consumes text rest (byte ∷ []) → byte ≡ 10 → Begins text line lines → (line ≡ first_of lines) × Has rest (drop 1 lines)
byte_ends text rest byte line lines read lf is =
    let ended = line_ends text rest [] line lines (subst (λ (b : ℕ). Consumes text rest (b ∷ [])) lf read) (λ i lt e. absurd (omega (arith, lt))) is in
    (sym (append-nil line) ∙ ended.0, ended.1)

-- the text has no more
pub none_ends : (text rest : Option (List ℕ)) (line : List ℕ) (lines : List (List ℕ)) → Consumes text rest [] → IsAtEnd rest → Begins text line lines → (line ≡ first_of lines) × Has rest (drop 1 lines)
none_ends text rest line lines read end is = text_ends text rest line lines (consumed_none text rest read) end is
  where
    consumed_none : (a b : Option (List ℕ)) → Consumes a b [] → Keeps a b
    consumed_none None b h = tt
    consumed_none (Some xs) None h = absurd h
    consumed_none (Some xs) (Some ys) h = sym h

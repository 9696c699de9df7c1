-- A text of which something is left has records.
use Rattle.std.proofs.Common.{◌≡◌, ◌≢◌, ℕ, zero, suc, ◌+◌, ◌<◌, Bool, true, false, not, cond, eqb, List, [], ◌∷◌, ◌++◌, ◌⊎◌, inl, inr, length, drop, Option, None, Some, refl, sym, subst, ap, ◌∙◌, arith, append_assoc, append-nil}
use Rattle.std.proofs.lemmas.Bool.Decides.{nat_tests}
use Rattle.std.proofs.lemmas.Option.{none-some}
use Rattle.std.specs.Prelude.{All}
use Rattle.std.specs.Option.{option_map}
use Rattle.std.specs.Io.KnownBytes.{prepend_known}
use Rattle.keys_records.specs.declared.flaw.Flaw.TheVariants as Flaw
use Rattle.keys_records.specs.declared.form.Columns.{Columns}
use Rattle.keys_records.specs.declared.form.Form.{Form}
use Rattle.keys_records.specs.declared.place.Before.{Before}
use Rattle.keys_records.specs.declared.place.Before.TheVariants.{Record, Separator, Plain, Quoted, Quote, Return}
use Rattle.keys_records.specs.declared.place.Place.{Place}
use Rattle.keys_records.specs.declared.place.Step.{Step}
use Rattle.keys_records.specs.declared.place.Step.TheVariants.{Shows, Drops, Flawed}
use Rattle.keys_records.specs.Fields.{columns_of, is_chosen, has_first}
use Rattle.keys_records.specs.Steps.{record_place, first_place, field_place, moved, value_step, end_step, separator_step, outside_step, shown_step, text_of}
use Rattle.keys_records.specs.Spelling.{IsSeparator, IsPlain, IsSpelled, plain, quoted, doubled, IsRecord, last, more, IsLineEnd, lf, cr_lf, AreRecords, none, unended, ended, FitLine, HasRecords}
use Rattle.keys_records.proofs.Bytes.{IsShown}
use Rattle.keys_records.proofs.Spelled.{behind, behind_more, chosen_behind, between, at_end, passes_separator, passes_end, at, record_at}

-- ---- elements

all_none : {X : Type 0} (P : X → Type 0) → All P []
all_none P = λ k d within. absurd (omega (arith, within))

all_more : {X : Type 0} (P : X → Type 0) (x : X) (xs : List X) → P x → All P xs → All P (x ∷ xs)
all_more P x xs first others zero d within = first
all_more P x xs first others (suc k) d within = others k d (omega (arith, within))

-- ---- known bytes

-- something is left
abbrev pub IsLeft : Option (List ℕ) → Type 0
IsLeft known = (bytes : List ℕ) × (known ≡ Some bytes)

prepended : (front : List ℕ) (known : Option (List ℕ)) → IsLeft (prepend_known front known) → IsLeft known
prepended front None left = absurd (none-some left.0 left.1)
prepended front (Some bytes) left = (bytes, refl)

mapped : (byte : ℕ) (known : Option (List ℕ)) → IsLeft (option_map (λ bytes. byte ∷ bytes) known) → IsLeft known
mapped byte None left = absurd (none-some left.0 left.1)
mapped byte (Some bytes) left = (bytes, refl)

-- ---- steps

-- a value's byte is passed on
value_left : (place : Place) (before : Before) (byte : ℕ) (rest : Place → Option (List ℕ)) → IsLeft (shown_step (value_step place before byte) rest) → IsLeft (rest (moved place before)) × (has_first place.columns ≡ true → IsShown byte)
value_left place before byte rest = (elim (has_first place.columns) as (λ b. has_first place.columns ≡ b →
    IsLeft (shown_step (cond (not b) (Drops (moved place before)) (cond (eqb byte 10) (Flawed Flaw.Lines) (cond (eqb byte 31) (Flawed Flaw.Between) (Shows byte (moved place before))))) rest)
    → IsLeft (rest (moved place before)) × (has_first place.columns ≡ true → IsShown byte)) [
      | false ↦ λ e left. (left, λ t. absurd (grind (arith, e, t)))
      | true ↦ λ e. (elim (eqb byte 10) as (λ t. eqb byte 10 ≡ t → IsLeft (shown_step (cond t (Flawed Flaw.Lines) (cond (eqb byte 31) (Flawed Flaw.Between) (Shows byte (moved place before)))) rest) → IsLeft (rest (moved place before)) × (has_first place.columns ≡ true → IsShown byte)) [
        | true ↦ λ _ left. absurd (none-some left.0 left.1)
        | false ↦ λ first. (elim (eqb byte 31) as (λ t. eqb byte 31 ≡ t → IsLeft (shown_step (cond t (Flawed Flaw.Between) (Shows byte (moved place before))) rest) → IsLeft (rest (moved place before)) × (has_first place.columns ≡ true → IsShown byte)) [
          | true ↦ λ _ left. absurd (none-some left.0 left.1)
          | false ↦ λ second left. (mapped byte (rest (moved place before)) left, λ _. ((λ is. absurd (grind (arith, nat_tests, first, is))), (λ is. absurd (grind (arith, nat_tests, second, is)))))
        ]) refl
      ]) refl
    ]) refl

-- ---- what a text has from a place on

module _ (form : Form) (separator : IsSeparator form.separator) where
  -- the records of a text fit lines
  pub record Lines (text : List ℕ) : Type 0 where
    pub records : List (List (List ℕ))
    pub are : AreRecords form.separator records text
    pub fit : All (FitLine form.columns 1) records

  -- what is behind the fields of a record
  pub data IsTail : (text : List ℕ) → Type 0 where
    nothing : IsTail []
    line_end : (end text : List ℕ) → IsLineEnd end → Lines text → IsTail (end ++ text)

  module _ (columns : Columns) where
    -- a text has fields and what is behind them
    pub record Fields (count : ℕ) (text : List ℕ) : Type 0 where
      pub fields : List (List ℕ)
      pub bytes : List ℕ
      pub tail : List ℕ
      pub parted : text ≡ bytes ++ tail
      pub is : IsRecord form.separator fields bytes
      pub fit : FitLine columns (count + 1) fields
      pub behind_it : IsTail tail

    -- what is behind a field: a separator and more fields, or what is behind the fields
    pub data Outside : (count : ℕ) (text : List ℕ) → Type 0 where
      field : (count : ℕ) (text : List ℕ) → Fields (count + 1) text → Outside count (form.separator ∷ text)
      tail : (count : ℕ) (text : List ℕ) → IsTail text → Outside count text

    field_then : (count : ℕ) (value bytes : List ℕ) (rest : List ℕ) → IsSpelled form.separator value bytes → (is_chosen columns (count + 1) ≡ true → All IsShown value) → Outside count rest → Fields count (bytes ++ rest)
    field_then _ value bytes _ is fits (tail count rest behind_it) = record {
      fields = value ∷ [];
      bytes = bytes;
      tail = rest;
      parted = refl;
      is = last value bytes is;
      fit = (fits, tt);
      behind_it = behind_it;
    }
    field_then _ value bytes _ is fits (field count text others) = record {
      fields = value ∷ others.fields;
      bytes = bytes ++ form.separator ∷ others.bytes;
      tail = others.tail;
      parted = ap (λ t. bytes ++ form.separator ∷ t) others.parted ∙ sym (append_assoc bytes (form.separator ∷ others.bytes) others.tail);
      is = more value bytes others.fields others.bytes is others.is;
      fit = (fits, others.fit);
      behind_it = others.behind_it;
    }

    -- a byte of a chosen value fits a line
    abbrev pub Fits : (count : ℕ) (value : List ℕ) → Type 0
    Fits count value = is_chosen columns (count + 1) ≡ true → All IsShown value

    -- the rest of a plain value, and what is behind it
    pub record Plainly (count : ℕ) (text : List ℕ) : Type 0 where
      pub value : List ℕ
      pub rest : List ℕ
      pub parted : text ≡ value ++ rest
      pub is : IsPlain form.separator value
      pub fit : Fits count value
      pub behind_it : Outside count rest

    -- the rest of a value inside quotes, and what is behind them
    pub record Quotedly (count : ℕ) (text : List ℕ) : Type 0 where
      pub value : List ℕ
      pub rest : List ℕ
      pub parted : text ≡ doubled value ++ 34 ∷ rest
      pub fit : Fits count value
      pub behind_it : Outside count rest

    abbrev pub Has : (count : ℕ) → Before → (text : List ℕ) → Type 0
    Has count Record text = (text ≡ []) ⊎ ((0 < length text) × Fields count text)
    Has count Separator text = Fields count text
    Has count Plain text = Plainly count text
    Has count Quoted text = Quotedly count text
    Has count Quote text = Outside count text ⊎ ((more_text : List ℕ) × (text ≡ 34 ∷ more_text) × Quotedly count more_text)
    Has count Return text = (more_text : List ℕ) × (text ≡ 10 ∷ more_text) × Lines more_text

  lines_from_tail : (fields : List (List ℕ)) (bytes tail : List ℕ) → 0 < length (bytes ++ tail) → IsRecord form.separator fields bytes → FitLine form.columns 1 fields → IsTail tail → Lines (bytes ++ tail)
  lines_from_tail fields bytes _ some is fit nothing = record {
    records = fields ∷ [];
    are = subst (AreRecords form.separator (fields ∷ [])) (sym (append-nil bytes)) (unended fields bytes is (subst (λ t. 0 < length t) (append-nil bytes) some));
    fit = all_more (FitLine form.columns 1) fields [] fit (all_none (FitLine form.columns 1));
  }
  lines_from_tail fields bytes _ some is fit (line_end end text ends lines) = record {
    records = fields ∷ lines.records;
    are = ended fields bytes end lines.records text is ends lines.are;
    fit = all_more (FitLine form.columns 1) fields lines.records fit lines.fit;
  }

  pub lines_at : (text : List ℕ) → Has form.columns 0 Record text → Lines text
  lines_at text (inl empty) = subst Lines (sym empty) (record { records = []; are = none; fit = all_none (FitLine form.columns 1) })
  lines_at text (inr has) =
      let f = has.1 in
      subst Lines (sym f.parted) (lines_from_tail f.fields f.bytes f.tail (subst (λ t. 0 < length t) f.parted has.0) f.is f.fit f.behind_it)

  -- ---- bytes

  -- a byte outside of quotes, where something is left behind it
  data Byte (place : Place) (byte : ℕ) (others : Step) (rest : Place → Option (List ℕ)) : Type 0 where
    is_separator : byte ≡ form.separator → IsLeft (rest (field_place place)) → Byte place byte others rest
    is_lf : byte ≡ 10 → IsLeft (rest (record_place form)) → Byte place byte others rest
    is_cr : byte ≡ 13 → IsLeft (rest (moved place Return)) → Byte place byte others rest
    is_other : byte ≢ form.separator → byte ≢ 10 → byte ≢ 13 → IsLeft (shown_step others rest) → Byte place byte others rest

  byte_of : (place : Place) (byte : ℕ) (others : Step) (rest : Place → Option (List ℕ)) → IsLeft (shown_step (outside_step form place byte others) rest) → Byte place byte others rest
  byte_of place byte others rest = (elim (eqb byte form.separator) as (λ b. eqb byte form.separator ≡ b →
      IsLeft (shown_step (cond b (separator_step place) (cond (eqb byte 10) (end_step form place) (cond (eqb byte 13) (Drops (moved place Return)) others))) rest) → Byte place byte others rest) [
        | true ↦ λ e left. is_separator (grind (arith, nat_tests)) (prepended (between place.header) (rest (field_place place)) (left.0, sym (passes_separator form separator place rest) ∙ left.1))
        | false ↦ λ first. (elim (eqb byte 10) as (λ b. eqb byte 10 ≡ b → IsLeft (shown_step (cond b (end_step form place) (cond (eqb byte 13) (Drops (moved place Return)) others)) rest) → Byte place byte others rest) [
          | true ↦ λ e left. is_lf (grind (arith, nat_tests)) (prepended (at_end place.header) (rest (record_place form)) (left.0, sym (passes_end form separator place rest) ∙ left.1))
          | false ↦ λ second. (elim (eqb byte 13) as (λ b. eqb byte 13 ≡ b → IsLeft (shown_step (cond b (Drops (moved place Return)) others) rest) → Byte place byte others rest) [
            | true ↦ λ e left. is_cr (grind (arith, nat_tests)) left
            | false ↦ λ third left. is_other (λ is. absurd (grind (arith, nat_tests, first, is))) (λ is. absurd (grind (arith, nat_tests, second, is))) (λ is. absurd (grind (arith, nat_tests, third, is))) left
          ]) refl
        ]) refl
      ]) refl

  -- the text is read from every place
  abbrev Parses : (text : List ℕ) → Type 0
  Parses text = (columns : Columns) (header : Bool) (count : ℕ) (before : Before) → IsLeft (text_of form (at form separator columns header count before) text) → Has columns count before text

  abbrev IsPlainByte : ℕ → Type 0
  IsPlainByte byte = (byte ≢ form.separator) × (byte ≢ 34) × (byte ≢ 10) × (byte ≢ 13)

  module _ (byte : ℕ) (text : List ℕ) (parses : Parses text) where
    lines_behind : IsLeft (text_of form (record_place form) text) → Lines text
    lines_behind left = lines_at text (parses form.columns false 0 Record (left.0, ap (λ p. text_of form p text) (record_at form separator) ∙ left.1))

    module _ (columns : Columns) (header : Bool) (count : ℕ) (before : Before) where
      abbrev place : Place
      place = at form separator columns header count before

      abbrev rest : Place → Option (List ℕ)
      rest = λ next. text_of form next text

      delimited : (others : Step) → IsLeft (shown_step (outside_step form place byte others) rest)
          → Outside columns count (byte ∷ text) ⊎ ((byte ≢ form.separator) × (byte ≢ 10) × (byte ≢ 13) × IsLeft (shown_step others rest))
      delimited others left = elim (byte_of place byte others rest left) [
        | is_separator e is ↦
            let more_fields = parses columns header (count + 1) Separator (is.0, sym (ap (λ c. text_of form record { before = Separator; columns = c; header = header } text) (behind_more count columns)) ∙ is.1) in
            inl (subst (λ b. Outside columns count (b ∷ text)) (sym e) (field count text more_fields))
        | is_lf e is ↦ inl (subst (λ b. Outside columns count (b ∷ text)) (sym e) (tail count (10 ∷ text) (line_end (10 ∷ []) text lf (lines_behind is))))
        | is_cr e is ↦
            let behind_cr = parses columns header count Return is in
            inl (subst (λ b. Outside columns count (b ∷ text)) (sym e) (subst (λ t. Outside columns count (13 ∷ t)) (sym behind_cr.1) (tail count (13 ∷ 10 ∷ behind_cr.0) (line_end (13 ∷ 10 ∷ []) behind_cr.0 cr_lf behind_cr.2))))
        | is_other first second third is ↦ inr (first, second, third, is)
      ]

      fits_at : (has_first (behind count columns) ≡ true → IsShown byte) → is_chosen columns (count + 1) ≡ true → IsShown byte
      fits_at fits e = fits (chosen_behind count columns ∙ e)

      plainly : byte ≢ form.separator → byte ≢ 34 → byte ≢ 10 → byte ≢ 13 → IsLeft (shown_step (value_step place Plain byte) rest) → Plainly columns count (byte ∷ text)
      plainly first quote second third left =
          let passes = value_left place Plain byte rest left in
          let others = parses columns header count Plain passes.0 in
          record {
            value = byte ∷ others.value;
            rest = others.rest;
            parted = ap (λ t. byte ∷ t) others.parted;
            is = all_more IsPlainByte byte others.value (first, quote, second, third) others.is;
            fit = λ e. all_more IsShown byte others.value (fits_at passes.1 e) (others.fit e);
            behind_it = others.behind_it;
          }

      nothing_plain : Outside columns count (byte ∷ text) → Plainly columns count (byte ∷ text)
      nothing_plain outside = record {
        value = [];
        rest = byte ∷ text;
        parted = refl;
        is = all_none IsPlainByte;
        fit = λ _. all_none IsShown;
        behind_it = outside;
      }

      plain_fields : Plainly columns count (byte ∷ text) → Fields columns count (byte ∷ text)
      plain_fields has = subst (Fields columns count) (sym has.parted) (field_then columns count has.value has.value has.rest (plain has.value has.is) has.fit has.behind_it)

      not_quote : eqb byte 34 ≡ false → byte ≢ 34
      not_quote e = λ is. absurd (grind (arith, nat_tests, e, is))

      outside_plainly : eqb byte 34 ≡ false → IsLeft (shown_step (outside_step form place byte (value_step place Plain byte)) rest) → Plainly columns count (byte ∷ text)
      outside_plainly e left = elim (delimited (value_step place Plain byte) left) [
        | inl outside ↦ nothing_plain outside
        | inr others ↦ plainly others.0 (not_quote e) others.1 others.2 others.3
      ]

      starts_field : IsLeft (shown_step (cond (eqb byte 34) (Drops (moved place Quoted)) (outside_step form place byte (value_step place Plain byte))) rest) → Fields columns count (byte ∷ text)
      starts_field = (elim (eqb byte 34) as (λ b. eqb byte 34 ≡ b → IsLeft (shown_step (cond b (Drops (moved place Quoted)) (outside_step form place byte (value_step place Plain byte))) rest) → Fields columns count (byte ∷ text)) [
        | true ↦ λ e left.
            let is : byte ≡ 34 = grind (arith, nat_tests) in
            let has = parses columns header count Quoted left in
            let all : byte ∷ text ≡ (34 ∷ (doubled has.value ++ 34 ∷ [])) ++ has.rest = ap (λ (b : ℕ). b ∷ text) is ∙ ap (λ t. 34 ∷ t) (has.parted ∙ sym (append_assoc (doubled has.value) (34 ∷ []) has.rest)) in
            subst (Fields columns count) (sym all) (field_then columns count has.value (34 ∷ (doubled has.value ++ 34 ∷ [])) has.rest (quoted has.value) has.fit has.behind_it)
        | false ↦ λ e left. plain_fields (outside_plainly e left)
      ]) refl

      continues_plain : IsLeft (shown_step (cond (eqb byte 34) (Flawed Flaw.Quote) (outside_step form place byte (value_step place Plain byte))) rest) → Plainly columns count (byte ∷ text)
      continues_plain = (elim (eqb byte 34) as (λ b. eqb byte 34 ≡ b → IsLeft (shown_step (cond b (Flawed Flaw.Quote) (outside_step form place byte (value_step place Plain byte))) rest) → Plainly columns count (byte ∷ text)) [
        | true ↦ λ e left. absurd (none-some left.0 left.1)
        | false ↦ λ e left. outside_plainly e left
      ]) refl

      continues_quoted : IsLeft (shown_step (cond (eqb byte 34) (Drops (moved place Quote)) (value_step place Quoted byte)) rest) → Quotedly columns count (byte ∷ text)
      continues_quoted = (elim (eqb byte 34) as (λ b. eqb byte 34 ≡ b → IsLeft (shown_step (cond b (Drops (moved place Quote)) (value_step place Quoted byte)) rest) → Quotedly columns count (byte ∷ text)) [
        | true ↦ λ e left.
            let is : byte ≡ 34 = grind (arith, nat_tests) in
            elim (parses columns header count Quote left) [
              | inl outside ↦ record {
                value = [];
                rest = text;
                parted = ap (λ (b : ℕ). b ∷ text) is;
                fit = λ _. all_none IsShown;
                behind_it = outside;
              }
              | inr two ↦
                  let others = two.2 in
                  record {
                    value = 34 ∷ others.value;
                    rest = others.rest;
                    parted = ap (λ (b : ℕ). b ∷ text) is ∙ ap (λ t. 34 ∷ t) (two.1 ∙ ap (λ t. 34 ∷ t) others.parted);
                    fit = λ t. all_more IsShown 34 others.value ((λ q. absurd (omega (arith, q))), (λ q. absurd (omega (arith, q)))) (others.fit t);
                    behind_it = others.behind_it;
                  }
            ]
        | false ↦ λ e left.
            let passes = value_left place Quoted byte rest left in
            let others = parses columns header count Quoted passes.0 in
            record {
              value = byte ∷ others.value;
              rest = others.rest;
              parted = ap (λ t. byte ∷ t) others.parted ∙ ap (λ b. cond b (34 ∷ 34 ∷ doubled others.value) (byte ∷ doubled others.value) ++ 34 ∷ others.rest) (sym e);
              fit = λ t. all_more IsShown byte others.value (fits_at passes.1 t) (others.fit t);
              behind_it = others.behind_it;
            }
      ]) refl

      behind_quote : IsLeft (shown_step (cond (eqb byte 34) (value_step place Quoted byte) (outside_step form place byte (Flawed Flaw.Behind))) rest) → Has columns count Quote (byte ∷ text)
      behind_quote = (elim (eqb byte 34) as (λ b. eqb byte 34 ≡ b → IsLeft (shown_step (cond b (value_step place Quoted byte) (outside_step form place byte (Flawed Flaw.Behind))) rest) → Has columns count Quote (byte ∷ text)) [
        | true ↦ λ e left.
            let is : byte ≡ 34 = grind (arith, nat_tests) in
            inr (text, ap (λ (b : ℕ). b ∷ text) is, parses columns header count Quoted (value_left place Quoted byte rest left).0)
        | false ↦ λ e left. elim (delimited (Flawed Flaw.Behind) left) [
          | inl outside ↦ inl outside
          | inr others ↦ absurd (none-some others.3.0 others.3.1)
        ]
      ]) refl

      behind_return : IsLeft (shown_step (cond (eqb byte 10) (end_step form place) (Flawed Flaw.Return)) rest) → Has columns count Return (byte ∷ text)
      behind_return = (elim (eqb byte 10) as (λ b. eqb byte 10 ≡ b → IsLeft (shown_step (cond b (end_step form place) (Flawed Flaw.Return)) rest) → Has columns count Return (byte ∷ text)) [
        | true ↦ λ e left.
            let is : byte ≡ 10 = grind (arith, nat_tests) in
            (text, ap (λ (b : ℕ). b ∷ text) is, lines_behind (prepended (at_end header) (rest (record_place form)) (left.0, sym (passes_end form separator place rest) ∙ left.1)))
        | false ↦ λ e left. absurd (none-some left.0 left.1)
      ]) refl

  parse : (text : List ℕ) (columns : Columns) (header : Bool) (count : ℕ) (before : Before) → IsLeft (text_of form (at form separator columns header count before) text) → Has columns count before text
  parse [] columns header count Record left = inl refl
  parse [] columns header count Separator left = field_then columns count [] [] [] (plain [] (all_none IsPlainByte)) (λ _. all_none IsShown) (tail count [] nothing)
  parse [] columns header count Plain left = record {
    value = [];
    rest = [];
    parted = refl;
    is = all_none IsPlainByte;
    fit = λ _. all_none IsShown;
    behind_it = tail count [] nothing;
  }
  parse [] columns header count Quoted left = absurd (none-some left.0 left.1)
  parse [] columns header count Quote left = inl (tail count [] nothing)
  parse [] columns header count Return left = absurd (none-some left.0 left.1)
  parse (byte ∷ text) columns header count Record left = inr ((omega arith), starts_field byte text (parse text) columns header count Record left)
  parse (byte ∷ text) columns header count Separator left = starts_field byte text (parse text) columns header count Separator left
  parse (byte ∷ text) columns header count Plain left = continues_plain byte text (parse text) columns header count Plain left
  parse (byte ∷ text) columns header count Quoted left = continues_quoted byte text (parse text) columns header count Quoted left
  parse (byte ∷ text) columns header count Quote left = behind_quote byte text (parse text) columns header count Quote left
  parse (byte ∷ text) columns header count Return left = behind_return byte text (parse text) columns header count Return left

  -- ---- texts

  abbrev AllFit : (header : Bool) (records : List (List (List ℕ))) → Type 0
  AllFit header records = All (FitLine form.columns 1) (cond header (drop 1 records) records)

  header_tail : (fields : List (List ℕ)) (bytes tail : List ℕ) → 0 < length (bytes ++ tail) → IsRecord form.separator fields bytes → IsTail tail
      → (records : List (List (List ℕ))) × AreRecords form.separator records (bytes ++ tail) × All (FitLine form.columns 1) (drop 1 records)
  header_tail fields bytes _ some is nothing = (
    fields ∷ [],
    subst (AreRecords form.separator (fields ∷ [])) (sym (append-nil bytes)) (unended fields bytes is (subst (λ t. 0 < length t) (append-nil bytes) some)),
    all_none (FitLine form.columns 1),
  )
  header_tail fields bytes _ some is (line_end end text ends lines) = (fields ∷ lines.records, ended fields bytes end lines.records text is ends lines.are, lines.fit)

  header_has : (text : List ℕ) → Has (columns_of 0 0 0) 0 Record text → (records : List (List (List ℕ))) × AreRecords form.separator records text × All (FitLine form.columns 1) (drop 1 records)
  header_has text (inl empty) = ([], subst (AreRecords form.separator []) (sym empty) none, all_none (FitLine form.columns 1))
  header_has text (inr has) =
      let f = has.1 in
      let found = header_tail f.fields f.bytes f.tail (subst (λ t. 0 < length t) f.parted has.0) f.is f.behind_it in
      (found.0, subst (AreRecords form.separator found.0) (sym f.parted) found.1, found.2)

  lines_of_text : (text : List ℕ) → IsLeft (text_of form (record_place form) text) → Lines text
  lines_of_text text left = lines_at text (parse text form.columns false 0 Record (left.0, ap (λ p. text_of form p text) (record_at form separator) ∙ left.1))

  pub records_of : (text lines : List ℕ) → text_of form (first_place form) text ≡ Some lines → (records : List (List (List ℕ))) × HasRecords form records text
  records_of text lines = elim form.header as (λ h. text_of form (cond h (record { before = Record; columns = columns_of 0 0 0; header = true }) (record_place form)) text ≡ Some lines
      → (records : List (List (List ℕ))) × (AreRecords form.separator records text × AllFit h records)) [
        | true ↦ λ is. let found = header_has text (parse text (columns_of 0 0 0) true 0 Record (lines, is)) in (found.0, (found.1, found.2))
        | false ↦ λ is. let found = lines_of_text text (lines, is) in (found.records, (found.are, found.fit))
      ]

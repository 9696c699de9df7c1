-- What the bytes of a record are passed on as.
use Rattle.std.proofs.Common.{◌≡◌, ℕ, suc, ◌<◌, ◌≢◌, true, false, not, cond, eqb, List, [], ◌∷◌, ◌++◌, length, Option, None, Some, refl, sym, subst, ap, ◌∙◌, arith, append_assoc}
use Rattle.std.proofs.lemmas.Bool.{ne_eqb}
use Rattle.std.proofs.lemmas.Bool.Decides.{nat_tests}
use Rattle.std.specs.Prelude.{⊤, All}
use Rattle.std.specs.Option.{option_map}
use Rattle.std.specs.Io.KnownBytes.{prepend_known}
use Rattle.keys_records.specs.declared.flaw.Flaw.TheVariants as Flaw
use Rattle.keys_records.specs.declared.form.Form.{Form}
use Rattle.keys_records.specs.declared.place.Before.{Before}
use Rattle.keys_records.specs.declared.place.Before.TheVariants.{Record, Separator, Plain, Quoted, Quote, Return}
use Rattle.keys_records.specs.declared.place.Place.{Place}
use Rattle.keys_records.specs.declared.place.Step.TheVariants.{Shows, Drops, Flawed}
use Rattle.keys_records.specs.Fields.{has_first}
use Rattle.keys_records.specs.Steps.{moved, value_step, end_step, separator_step, outside_step, step_behind, shown_step, text_of}
use Rattle.keys_records.specs.Spelling.{IsSeparator, IsPlain, IsSpelled, plain, quoted, doubled}
use Rattle.keys_records.proofs.Passing.{prepend_none}

-- ---- known bytes

pub prepend_twice : (front more : List ℕ) (known : Option (List ℕ)) → prepend_known front (prepend_known more known) ≡ prepend_known (front ++ more) known
prepend_twice front more None = refl
prepend_twice front more (Some bytes) = ap Some (sym (append_assoc front more bytes))

pub prepend_one : (byte : ℕ) (known : Option (List ℕ)) → option_map (λ bytes. byte ∷ bytes) known ≡ prepend_known (byte ∷ []) known
prepend_one byte None = refl
prepend_one byte (Some bytes) = refl

-- ---- elements

pub first_of : {X : Type 0} (P : X → Type 0) (x : X) (xs : List X) → All P (x ∷ xs) → P x
first_of P x xs all = all 0 x (omega arith)

pub others_of : {X : Type 0} (P : X → Type 0) (x : X) (xs : List X) → All P (x ∷ xs) → All P xs
others_of P x xs all = λ k d within. all (suc k) d (omega arith)

-- ---- steps

-- a byte can be in a line
abbrev pub IsShown : ℕ → Type 0
IsShown byte = (byte ≢ 10) × (byte ≢ 31)

-- what is passed on of bytes of a value
abbrev pub shown_at : Place → List ℕ → List ℕ
shown_at place value = cond (has_first place.columns) value []

-- a field begins
abbrev pub IsStart : Before → Type 0
IsStart Record = ⊤
IsStart Separator = ⊤
IsStart before = ⊥

-- a field may end
abbrev pub IsOutside : Before → Type 0
IsOutside Quoted = ⊥
IsOutside Return = ⊥
IsOutside before = ⊤

-- the record has a byte
abbrev pub HasByte : Before → Type 0
HasByte Record = ⊥
HasByte before = ⊤

pub value_shown : (place : Place) (before : Before) (byte : ℕ) (rest : Place → Option (List ℕ)) → (has_first place.columns ≡ true → IsShown byte)
    → shown_step (value_step place before byte) rest ≡ prepend_known (shown_at place (byte ∷ [])) (rest (moved place before))
value_shown place before byte rest fits = (elim (has_first place.columns) as (λ b. has_first place.columns ≡ b →
    shown_step (cond (not b) (Drops (moved place before)) (cond (eqb byte 10) (Flawed Flaw.Lines) (cond (eqb byte 31) (Flawed Flaw.Between) (Shows byte (moved place before))))) rest
    ≡ prepend_known (cond b (byte ∷ []) []) (rest (moved place before))) [
      | true ↦ λ e. let is = fits e in rw (ne_eqb byte 10 is.0, ne_eqb byte 31 is.1) (prepend_one byte (rest (moved place before)))
      | false ↦ λ e. sym (prepend_none (rest (moved place before)))
    ]) refl

module _ (form : Form) (separator : IsSeparator form.separator) where
  -- ---- what ends a field

  pub at_separator : (place : Place) (before : Before) → IsOutside before → step_behind form place before form.separator ≡ separator_step place
  at_separator place before is =
      let no : eqb form.separator 34 ≡ false = ne_eqb form.separator 34 separator.0 in
      let yes : eqb form.separator form.separator ≡ true = grind (arith, nat_tests) in
      elim before as (λ b. IsOutside b → step_behind form place b form.separator ≡ separator_step place) [
        | Record ↦ λ _. rw (no, yes) refl
        | Separator ↦ λ _. rw (no, yes) refl
        | Plain ↦ λ _. rw (no, yes) refl
        | Quoted ↦ λ h. absurd h
        | Quote ↦ λ _. rw (no, yes) refl
        | Return ↦ λ h. absurd h
      ] is

  pub at_lf : (place : Place) (before : Before) → IsOutside before → step_behind form place before 10 ≡ end_step form place
  at_lf place before is =
      let no : eqb 10 form.separator ≡ false = ne_eqb 10 form.separator (λ e. separator.1 (sym e)) in
      elim before as (λ b. IsOutside b → step_behind form place b 10 ≡ end_step form place) [
        | Record ↦ λ _. rw no refl
        | Separator ↦ λ _. rw no refl
        | Plain ↦ λ _. rw no refl
        | Quoted ↦ λ h. absurd h
        | Quote ↦ λ _. rw no refl
        | Return ↦ λ h. absurd h
      ] is

  pub at_cr : (place : Place) (before : Before) → IsOutside before → step_behind form place before 13 ≡ Drops (moved place Return)
  at_cr place before is =
      let no : eqb 13 form.separator ≡ false = ne_eqb 13 form.separator (λ e. separator.2 (sym e)) in
      elim before as (λ b. IsOutside b → step_behind form place b 13 ≡ Drops (moved place Return)) [
        | Record ↦ λ _. rw no refl
        | Separator ↦ λ _. rw no refl
        | Plain ↦ λ _. rw no refl
        | Quoted ↦ λ h. absurd h
        | Quote ↦ λ _. rw no refl
        | Return ↦ λ h. absurd h
      ] is

  -- ---- values

  -- a byte that may be in a plain field
  abbrev IsPlainByte : ℕ → Type 0
  IsPlainByte byte = (byte ≢ form.separator) × (byte ≢ 34) × (byte ≢ 10) × (byte ≢ 13)

  abbrev IsPlainPlace : Before → Type 0
  IsPlainPlace Plain = ⊤
  IsPlainPlace before = IsStart before

  at_plain : (place : Place) (before : Before) (byte : ℕ) → IsPlainPlace before → IsPlainByte byte → step_behind form place before byte ≡ value_step place Plain byte
  at_plain place before byte at is =
      let first : eqb byte 34 ≡ false = ne_eqb byte 34 is.1 in
      let second : eqb byte form.separator ≡ false = ne_eqb byte form.separator is.0 in
      let third : eqb byte 10 ≡ false = ne_eqb byte 10 is.2 in
      let fourth : eqb byte 13 ≡ false = ne_eqb byte 13 is.3 in
      let outside : outside_step form place byte (value_step place Plain byte) ≡ value_step place Plain byte = ap (λ b. cond b (separator_step place) (cond (eqb byte 10) (end_step form place) (cond (eqb byte 13) (Drops (moved place Return)) (value_step place Plain byte)))) second
      ∙ ap (λ b. cond b (end_step form place) (cond (eqb byte 13) (Drops (moved place Return)) (value_step place Plain byte))) third
      ∙ ap (λ b. cond b (Drops (moved place Return)) (value_step place Plain byte)) fourth in
      elim before as (λ b. IsPlainPlace b → step_behind form place b byte ≡ value_step place Plain byte) [
        | Record ↦ λ _. ap (λ b. cond b (Drops (moved place Quoted)) (outside_step form place byte (value_step place Plain byte))) first ∙ outside
        | Separator ↦ λ _. ap (λ b. cond b (Drops (moved place Quoted)) (outside_step form place byte (value_step place Plain byte))) first ∙ outside
        | Plain ↦ λ _. ap (λ b. cond b (Flawed Flaw.Quote) (outside_step form place byte (value_step place Plain byte))) first ∙ outside
        | Quoted ↦ λ h. absurd h
        | Quote ↦ λ h. absurd h
        | Return ↦ λ h. absurd h
      ] at

  shown_more : (place : Place) (byte : ℕ) (value : List ℕ) → shown_at place (byte ∷ []) ++ shown_at place value ≡ shown_at place (byte ∷ value)
  shown_more place byte value = elim (has_first place.columns) as (λ b. cond b (byte ∷ []) [] ++ cond b value [] ≡ cond b (byte ∷ value) []) [ true ↦ refl | false ↦ refl ]

  shown_nothing : (place : Place) → shown_at place [] ≡ []
  shown_nothing place = elim (has_first place.columns) as (λ b. cond {A = List ℕ} b [] [] ≡ []) [ true ↦ refl | false ↦ refl ]

  -- what is passed on of a value's byte and then of what is behind it
  value_more : (place : Place) (before : Before) (byte : ℕ) (value : List ℕ) (rest : Place → Option (List ℕ)) (left : Option (List ℕ)) → (has_first place.columns ≡ true → IsShown byte)
      → rest (moved place before) ≡ prepend_known (shown_at place value) left
      → shown_step (value_step place before byte) rest ≡ prepend_known (shown_at place (byte ∷ value)) left
  value_more place before byte value rest left fits is =
      value_shown place before byte rest fits
      ∙ ap (prepend_known (shown_at place (byte ∷ []))) is
      ∙ prepend_twice (shown_at place (byte ∷ [])) (shown_at place value) left
      ∙ ap (λ front. prepend_known front left) (shown_more place byte value)

  -- the place behind a plain value
  abbrev behind_plain : (value : List ℕ) → Before → Before
  behind_plain [] before = before
  behind_plain (byte ∷ value) before = Plain

  same_plain : (place : Place) (value : List ℕ) → moved place (behind_plain value Plain) ≡ moved place Plain
  same_plain place [] = refl
  same_plain place (byte ∷ value) = refl

  plain_read : (value : List ℕ) (place : Place) (before : Before) (rest : List ℕ) → IsPlainPlace before → IsPlain form.separator value → (has_first place.columns ≡ true → All IsShown value)
      → text_of form (moved place before) (value ++ rest) ≡ prepend_known (shown_at place value) (text_of form (moved place (behind_plain value before)) rest)
  plain_read [] place before rest at is fits = sym (ap (λ front. prepend_known front (text_of form (moved place before) rest)) (shown_nothing place) ∙ prepend_none (text_of form (moved place before) rest))
  plain_read (byte ∷ value) place before rest at is fits =
      let later = plain_read value place Plain rest tt (others_of IsPlainByte byte value is) (λ e. others_of IsShown byte value (fits e)) in
      let same : moved place (behind_plain value Plain) ≡ moved place Plain = same_plain place value in
      ap (λ s. shown_step s (λ next. text_of form next (value ++ rest))) (at_plain (moved place before) before byte at (first_of IsPlainByte byte value is))
      ∙ value_more (moved place before) Plain byte value (λ next. text_of form next (value ++ rest)) (text_of form (moved place Plain) rest) (λ e. first_of IsShown byte value (fits e))
      (later ∙ ap (λ p. prepend_known (shown_at place value) (text_of form p rest)) same)

  quoted_read : (value : List ℕ) (place : Place) (rest : List ℕ) → (has_first place.columns ≡ true → All IsShown value)
      → text_of form (moved place Quoted) (doubled value ++ 34 ∷ rest) ≡ prepend_known (shown_at place value) (text_of form (moved place Quote) rest)
  quoted_read [] place rest fits = sym (ap (λ front. prepend_known front (text_of form (moved place Quote) rest)) (shown_nothing place) ∙ prepend_none (text_of form (moved place Quote) rest))
  quoted_read (byte ∷ value) place rest fits =
      let later = quoted_read value place rest (λ e. others_of IsShown byte value (fits e)) in
      let left = text_of form (moved place Quote) rest in
      (elim (eqb byte 34) as (λ b. eqb byte 34 ≡ b → text_of form (moved place Quoted) (cond b (34 ∷ 34 ∷ doubled value) (byte ∷ doubled value) ++ 34 ∷ rest) ≡ prepend_known (shown_at place (byte ∷ value)) left) [
        | true ↦ λ e.
            let is : byte ≡ 34 = grind (arith, nat_tests) in
            value_more (moved place Quote) Quoted 34 value (λ next. text_of form next (doubled value ++ 34 ∷ rest)) left (λ t. subst IsShown is (first_of IsShown byte value (fits t))) later
            ∙ ap (λ (b : ℕ). prepend_known (shown_at place (b ∷ value)) left) (sym is)
        | false ↦ λ e.
            ap (λ b. shown_step (cond b (Drops (moved place Quote)) (value_step (moved place Quoted) Quoted byte)) (λ next. text_of form next (doubled value ++ 34 ∷ rest))) e
            ∙ value_more (moved place Quoted) Quoted byte value (λ next. text_of form next (doubled value ++ 34 ∷ rest)) left (λ t. first_of IsShown byte value (fits t)) later
      ]) refl

  at_quote : (place : Place) (before : Before) → IsStart before → step_behind form place before 34 ≡ Drops (moved place Quoted)
  at_quote place before at = elim before as (λ b. IsStart b → step_behind form place b 34 ≡ Drops (moved place Quoted)) [
    | Record ↦ λ _. refl
    | Separator ↦ λ _. refl
    | Plain ↦ λ h. absurd h
    | Quoted ↦ λ h. absurd h
    | Quote ↦ λ h. absurd h
    | Return ↦ λ h. absurd h
  ] at

  -- where a field has been read
  pub record IsBehind (place : Place) (before : Before) (value bytes : List ℕ) : Type 0 where
    pub after : Before
    pub outside : IsOutside after
    pub some : 0 < length bytes → HasByte after
    pub later : HasByte before → HasByte after
    pub passes : (rest : List ℕ) → text_of form (moved place before) (bytes ++ rest) ≡ prepend_known (shown_at place value) (text_of form (moved place after) rest)

  plain_at : (before : Before) → IsStart before → IsPlainPlace before
  plain_at before at = elim before as (λ b. IsStart b → IsPlainPlace b) [
    | Record ↦ λ _. tt
    | Separator ↦ λ _. tt
    | Plain ↦ λ _. tt
    | Quoted ↦ λ h. h
    | Quote ↦ λ h. h
    | Return ↦ λ h. h
  ] at

  outside_at : (before : Before) → IsStart before → IsOutside before
  outside_at before at = elim before as (λ b. IsStart b → IsOutside b) [
    | Record ↦ λ _. tt
    | Separator ↦ λ _. tt
    | Plain ↦ λ _. tt
    | Quoted ↦ λ h. h
    | Quote ↦ λ _. tt
    | Return ↦ λ h. h
  ] at

  plain_outside : (value : List ℕ) (before : Before) → IsStart before → IsOutside (behind_plain value before)
  plain_outside [] before at = outside_at before at
  plain_outside (byte ∷ value) before at = tt

  plain_some : (value : List ℕ) (before : Before) → 0 < length value → HasByte (behind_plain value before)
  plain_some [] before some = absurd (omega arith)
  plain_some (byte ∷ value) before some = tt

  plain_later : (value : List ℕ) (before : Before) → HasByte before → HasByte (behind_plain value before)
  plain_later [] before has = has
  plain_later (byte ∷ value) before has = tt

  pub spelled_read : (value bytes : List ℕ) → IsSpelled form.separator value bytes → (place : Place) (before : Before) → IsStart before → (has_first place.columns ≡ true → All IsShown value) → IsBehind place before value bytes
  spelled_read _ _ (plain value is) place before at fits = record {
    after = behind_plain value before;
    outside = plain_outside value before at;
    some = plain_some value before;
    later = plain_later value before;
    passes = λ rest. plain_read value place before rest (plain_at before at) is fits;
  }
  spelled_read _ _ (quoted value) place before at fits = record {
    after = Quote;
    outside = tt;
    some = λ _. tt;
    later = λ _. tt;
    passes = λ rest.
        ap (λ s. shown_step s (λ next. text_of form next ((doubled value ++ 34 ∷ []) ++ rest))) (at_quote place before at)
        ∙ ap (text_of form (moved place Quoted)) (append_assoc (doubled value) (34 ∷ []) rest)
        ∙ quoted_read value place rest fits;
  }

-- What a block of bytes has of a text, and what a reader of records has left after a read.
use Rattle.std.proofs.Common.{◌≡◌, ℕ, suc, ◌+◌, ◌<◌, ◌≤◌, List, [], ◌∷◌, ◌++◌, length, take, drop, get_or, set, Option, None, Some, refl, sym, subst, ap, ◌∙◌, arith, append_assoc, append-nil}
use Rattle.std.proofs.lemmas.List.{take_more_set, drop-set-lt, length-set}
use Rattle.std.proofs.Math.Seq.{drop-cons}
use Rattle.std.specs.Option.{option_map, IsSome}
use Rattle.std.specs.Prelude.{Result, Ok, Err, MatchResult, IfOk, IfErr, OnErr}
use Rattle.std.proofs.lemmas.Result.{IfOk-weaker, MatchResult-weaker}
use Rattle.std.proofs.lemmas.Option.{none-some, same_Some}
use Rattle.keys_records.specs.declared.records.Records.{Records}
use Rattle.std.specs.Io.KnownBytes.{Consumes, ReadConsumes, Keeps, IsAtEnd, prepend_known}
use Rattle.keys_records.specs.declared.form.Form.{Form}
use Rattle.keys_records.specs.declared.place.Place.{Place}
use Rattle.keys_records.specs.declared.place.Step.TheVariants.{Shows, Drops}
use Rattle.keys_records.specs.declared.stage.Stage.{Stage}
use Rattle.keys_records.specs.Steps.{step, shown_step, text_of}
use Rattle.keys_records.specs.Stages.{rest_of, known_rest, records_remaining, Passes, HasNone, Finishes}

-- ---- known bytes

pub prepend_more : (front : List ℕ) (byte : ℕ) (known : Option (List ℕ)) → prepend_known front (option_map (λ bytes. byte ∷ bytes) known) ≡ prepend_known (front ++ byte ∷ []) known
prepend_more front byte None = refl
prepend_more front byte (Some bytes) = ap Some (sym (append_assoc front (byte ∷ []) bytes))

pub prepend_none : (known : Option (List ℕ)) → prepend_known [] known ≡ known
prepend_none None = refl
prepend_none (Some bytes) = refl

-- ---- blocks

-- So many bytes of a block are read, and what is passed on of them is at its front.
pub record IsPassing (form : Form) (start : Place) (block : List ℕ) (i : ℕ) (place : Place) (count : ℕ) (now : List ℕ) : Type 0 where
  pub fits : count ≤ i
  pub kept : length now ≡ length block
  pub passes : (more : List ℕ) → text_of form start (block ++ more) ≡ prepend_known (take count now) (text_of form place (drop i now ++ more))

pub starts : (form : Form) (start : Place) (block : List ℕ) → IsPassing form start block 0 start 0 block
starts form start block = record {
  fits = omega arith;
  kept = refl;
  passes = λ more. sym (prepend_none (text_of form start (block ++ more)));
}

module _ (form : Form) (start : Place) (block : List ℕ) (i : ℕ) (place : Place) (count : ℕ) (now : List ℕ) (is : IsPassing form start block i place count now) (within : i < length block) (next : Place) where
  some : i < length now
  some = omega (arith, is.kept)

  parted : drop i now ≡ get_or now i 0 ∷ drop (i + 1) now
  parted = drop-cons now i 0 some ∙ ap (λ (n : ℕ). get_or now i 0 ∷ drop n now) {x = suc i} {y = i + 1} (omega arith)

  pub at_byte : (more : List ℕ) → text_of form start (block ++ more) ≡ prepend_known (take count now) (shown_step (step form place (get_or now i 0)) (λ after. text_of form after (drop (i + 1) now ++ more)))
  at_byte more = is.passes more ∙ ap (λ bytes. prepend_known (take count now) (text_of form place (bytes ++ more))) parted

  pub dropped : step form place (get_or now i 0) ≡ Drops next → IsPassing form start block (i + 1) next count now
  dropped e = record {
    fits = omega (arith, is.fits);
    kept = is.kept;
    passes = λ more. at_byte more ∙ ap (λ s. prepend_known (take count now) (shown_step s (λ after. text_of form after (drop (i + 1) now ++ more)))) e;
  }

  pub shown : (byte : ℕ) → step form place (get_or now i 0) ≡ Shows byte next → IsPassing form start block (i + 1) next (count + 1) (set now count byte)
  shown byte e =
      let same : drop (i + 1) (set now count byte) ≡ drop (i + 1) now = drop-set-lt (i + 1) now count byte (omega (arith, is.fits)) in
      record {
        fits = omega (arith, is.fits);
        kept = length-set now count byte ∙ is.kept;
        passes = λ more.
            at_byte more
            ∙ ap (λ s. prepend_known (take count now) (shown_step s (λ after. text_of form after (drop (i + 1) now ++ more)))) e
            ∙ prepend_more (take count now) byte (text_of form next (drop (i + 1) now ++ more))
            ∙ ap (λ front. prepend_known front (text_of form next (drop (i + 1) now ++ more))) (sym (take_more_set now count byte (omega (arith, is.fits, some))))
            ∙ ap (λ bytes. prepend_known (take (count + 1) (set now count byte)) (text_of form next (bytes ++ more))) (sym same);
      }

-- ---- readers

consumed : (a b : Option (List ℕ)) (bytes : List ℕ) → a ≡ prepend_known bytes b → Consumes a b bytes
consumed None b bytes e = tt
consumed (Some xs) None bytes e = absurd (none-some xs (sym e))
consumed (Some xs) (Some ys) bytes e = same_Some xs (bytes ++ ys) e

kept_known : (a b : Option (List ℕ)) → a ≡ prepend_known [] b → Keeps a b
kept_known None b e = tt
kept_known (Some xs) None e = absurd (none-some xs (sym e))
kept_known (Some xs) (Some ys) e = sym (same_Some xs ys e)

-- a read of the text's reader gives so many bytes
read_known : (form : Form) (stage after : Stage) (a b : Option (List ℕ)) (block front : List ℕ) → Consumes a b block → ((more : List ℕ) → rest_of form stage (block ++ more) ≡ prepend_known front (rest_of form after more)) → IsSome a
    → IsSome b × (known_rest form stage a ≡ prepend_known front (known_rest form after b))
read_known form stage after None b block front read leaves known = absurd (cc)
read_known form stage after (Some xs) None block front read leaves known = absurd read
read_known form stage after (Some xs) (Some ys) block front read leaves known = (refl, ap (rest_of form stage) read ∙ leaves ys)

-- a read of the text's reader fails
failed_known : (form : Form) (stage : Stage) (a b : Option (List ℕ)) → Keeps a b → IsSome a → IsSome b × (known_rest form stage a ≡ prepend_known [] (known_rest form stage b))
failed_known form stage None b keeps known = absurd (cc)
failed_known form stage (Some xs) None keeps known = absurd keeps
failed_known form stage (Some xs) (Some ys) keeps known = (refl, ap (rest_of form stage) (sym keeps) ∙ sym (prepend_none (rest_of form stage ys)))

-- the text's reader is at the end
ended_known : (form : Form) (stage after : Stage) (a b : Option (List ℕ)) (bytes : List ℕ) → Consumes a b [] → IsAtEnd b → Finishes form stage after bytes → IsSome a
    → IsSome b × (known_rest form stage a ≡ prepend_known bytes (known_rest form after b))
ended_known form stage after None b bytes read end is known = absurd (cc)
ended_known form stage after (Some xs) None bytes read end is known = absurd read
ended_known form stage after (Some xs) (Some ys) bytes read end is known = (
  refl,
  ap (rest_of form stage) (read ∙ end) ∙ is.0 ∙ ap Some (sym (append-nil bytes)) ∙ ap (prepend_known bytes) (sym is.1 ∙ ap (rest_of form after) (sym end)),
)

none_known : (form : Form) (after : Stage) (b : Option (List ℕ)) → IsAtEnd b → rest_of form after [] ≡ Some [] → IsSome b → known_rest form after b ≡ Some []
none_known form after None end is known = absurd (cc)
none_known form after (Some ys) end is known = ap (rest_of form after) end ∙ is

at_end : (form : Form) (stage : Stage) (b : Option (List ℕ)) → (IsSome b → known_rest form stage b ≡ Some []) → IsAtEnd (known_rest form stage b)
at_end form stage None is = tt
at_end form stage (Some ys) is = rw (is refl) refl

-- from a text that is known to be flawed nothing is promised
flawed_known : (form : Form) (stage : Stage) (a : Option (List ℕ)) → ((text : List ℕ) → rest_of form stage text ≡ None) → known_rest form stage a ≡ None
flawed_known form stage None is = refl
flawed_known form stage (Some xs) is = is xs

-- the text's reader is at the end, and the end shows a flaw
none_at_end : (form : Form) (stage : Stage) (a b : Option (List ℕ)) → Consumes a b [] → IsAtEnd b → rest_of form stage [] ≡ None → known_rest form stage a ≡ None
none_at_end form stage None b read end is = refl
none_at_end form stage (Some xs) None read end is = absurd read
none_at_end form stage (Some xs) (Some ys) read end is = ap (rest_of form stage) (read ∙ end) ∙ is

by_first : (form : Form) (stage : Stage) (a : Option (List ℕ)) → (IsSome a → known_rest form stage a ≡ None) → known_rest form stage a ≡ None
by_first form stage None is = refl
by_first form stage (Some xs) is = is refl

both : {T E : Type 0} (r : Result T E) (P : T → Type 0) (Q : E → Type 0) → IfOk r P → IfErr r Q → MatchResult r P Q
both (Ok x) P Q p q = p
both (Err e) P Q p q = q

module _ {R : Type 0} (remaining : R → Option (List ℕ)) where
  pub stays : (records : Records R) → Passes remaining records records []
  stays records known = (known, sym (prepend_none (records_remaining remaining records)))

  pub passes_on : (first old new : Records R) (bytes : List ℕ) → Passes remaining first old [] → Passes remaining old new bytes → Passes remaining first new bytes
  passes_on first old new bytes before after known =
      let was = before known in
      let is = after was.0 in
      (is.0, was.1 ∙ prepend_none (records_remaining remaining old) ∙ is.1)

  by_known : (form : Form) (stage : Stage) (a b : Option (List ℕ)) (bytes : List ℕ) → (IsSome a → known_rest form stage a ≡ prepend_known bytes b) → Consumes (known_rest form stage a) b bytes
  by_known form stage None b bytes is = tt
  by_known form stage (Some xs) b bytes is = consumed (rest_of form stage xs) b bytes (is refl)

  pub passes_consumes : (old new : Records R) (bytes : List ℕ) → Passes remaining old new bytes → Consumes (records_remaining remaining old) (records_remaining remaining new) bytes
  passes_consumes old new bytes is = by_known old.form old.stage (remaining old.inner) (records_remaining remaining new) bytes (λ known. (is known).1)

  by_kept : (form : Form) (stage : Stage) (a b : Option (List ℕ)) → (IsSome a → known_rest form stage a ≡ prepend_known [] b) → Keeps (known_rest form stage a) b
  by_kept form stage None b is = tt
  by_kept form stage (Some xs) b is = kept_known (rest_of form stage xs) b (is refl)

  pub passes_keeps : (old new : Records R) → Passes remaining old new [] → Keeps (records_remaining remaining old) (records_remaining remaining new)
  passes_keeps old new is = by_kept old.form old.stage (remaining old.inner) (records_remaining remaining new) (λ known. (is known).1)

  pub has_none_end : (records : Records R) → HasNone remaining records → IsAtEnd (records_remaining remaining records)
  has_none_end records is = at_end records.form records.stage (remaining records.inner) is

  -- a read passes on what a block has
  pub block_passes : (old new : Records R) (block front : List ℕ) → new.form ≡ old.form → Consumes (remaining old.inner) (remaining new.inner) block
      → ((more : List ℕ) → rest_of old.form old.stage (block ++ more) ≡ prepend_known front (rest_of old.form new.stage more)) → Passes remaining old new front
  block_passes old new block front same read leaves known =
      subst (λ f. IsSome (remaining new.inner) × (records_remaining remaining old ≡ prepend_known front (known_rest f new.stage (remaining new.inner)))) (sym same)
      (read_known old.form old.stage new.stage (remaining old.inner) (remaining new.inner) block front read leaves known)

  pub failed_passes : (old new : Records R) → new.form ≡ old.form → new.stage ≡ old.stage → Keeps (remaining old.inner) (remaining new.inner) → Passes remaining old new []
  failed_passes old new same same_stage keeps known =
      subst (λ s. IsSome (remaining new.inner) × (records_remaining remaining old ≡ prepend_known [] (known_rest new.form s (remaining new.inner)))) (sym same_stage)
      (subst (λ f. IsSome (remaining new.inner) × (records_remaining remaining old ≡ prepend_known [] (known_rest f old.stage (remaining new.inner)))) (sym same)
      (failed_known old.form old.stage (remaining old.inner) (remaining new.inner) keeps known))

  pub end_passes : (old new : Records R) (bytes : List ℕ) → new.form ≡ old.form → Consumes (remaining old.inner) (remaining new.inner) [] → IsAtEnd (remaining new.inner) → Finishes old.form old.stage new.stage bytes → Passes remaining old new bytes
  end_passes old new bytes same read end is known =
      subst (λ f. IsSome (remaining new.inner) × (records_remaining remaining old ≡ prepend_known bytes (known_rest f new.stage (remaining new.inner)))) (sym same)
      (ended_known old.form old.stage new.stage (remaining old.inner) (remaining new.inner) bytes read end is known)

  unknown_first : (first old : Records R) → Passes remaining first old [] → records_remaining remaining old ≡ None → records_remaining remaining first ≡ None
  unknown_first first old before none = by_first first.form first.stage (remaining first.inner) (λ known. let is = before known in is.1 ∙ ap (prepend_known []) none)

  module _ {E : Type 0} (first old : Records R) (b : Option (List ℕ)) (after : Stage) (result : Result ℕ E) (length_read : ℕ) (block buf : List ℕ)
      (before : Passes remaining first old []) (none : length_read ≡ 0) (room : 0 < length block)
      (read : Consumes (remaining old.inner) b (take length_read block) × (length_read ≡ 0 → 0 < length block → IsAtEnd b))
      (ends : IfOk result (λ count. Finishes old.form old.stage after (take count buf))) (fails : OnErr result (rest_of old.form old.stage [] ≡ None)) where
    nothing : Consumes (remaining old.inner) b []
    nothing = subst (λ (n : ℕ). Consumes (remaining old.inner) b (take n block)) none read.0

    last : IsAtEnd b
    last = read.1 none room

    flawed : rest_of old.form old.stage [] ≡ None → records_remaining remaining first ≡ None
    flawed is = unknown_first first old before (none_at_end old.form old.stage (remaining old.inner) b nothing last is)

    finishes : (bytes : List ℕ) → Finishes old.form old.stage after bytes → IsSome (remaining first.inner) → IsSome b × (records_remaining remaining first ≡ prepend_known bytes (known_rest old.form after b))
    finishes bytes is known =
        let was = before known in
        let now = ended_known old.form old.stage after (remaining old.inner) b bytes nothing last is was.0 in
        (now.0, was.1 ∙ prepend_none (records_remaining remaining old) ∙ now.1)

    pub finish_passes : IfOk result (λ count. IsSome (remaining first.inner) → IsSome b × (records_remaining remaining first ≡ prepend_known (take count buf) (known_rest old.form after b)))
    finish_passes = IfOk-weaker result _ _ (λ count is. finishes (take count buf) is) ends

    pub finish_end : IfOk result (λ count. count ≡ 0 → 0 < length buf → IsSome b → known_rest old.form after b ≡ Some [])
    finish_end = IfOk-weaker result _ _ (λ count is empty some known. none_known old.form after b last is.1 known) ends

    pub finish_bytes : ReadConsumes (records_remaining remaining first) (known_rest old.form after b) result buf
    finish_bytes = MatchResult-weaker result (both result _ _ ends fails) (λ count is. (
      by_known first.form first.stage (remaining first.inner) (known_rest old.form after b) (take count buf) (λ known. (finishes (take count buf) is known).1),
      λ empty some. at_end old.form after b (λ known. none_known old.form after b last is.1 known),
    )) (λ _ is. subst (λ known. Keeps known (known_rest old.form after b)) (sym (flawed is)) tt)

-- What is left to be passed on after a step of reading.
use Rattle.std.proofs.Common.{◌≡◌, ℕ, ◌+◌, ◌-◌, ◌^◌, ◌<◌, ◌≤◌, Bool, true, false, cond, List, [], ◌∷◌, ◌++◌, Option, Some, None, length, take, take_all, le_refl, length-append, length-drop, refl, sym, ap, subst, ◌∙◌, arith, append_assoc}
use Rattle.std.specs.Prelude.{IsSome, drop, min}
use Rattle.std.specs.List.{count_by}
use Rattle.std.proofs.lemmas.List.Sums.{sum_by-append}
use Rattle.std.specs.Io.KnownBytes.{Keeps, Consumes, IsAtEnd, prepend_known}
use Rattle.std.proofs.lemmas.List.{take_at, drop_all}
use Rattle.std.proofs.lemmas.Option.{none-some, same_Some}
use Rattle.keys_lines.specs.Lines.{Lacks, lines_after}
use Rattle.keys_lines.proofs.Texts.{lines_after-line, lines_after-lacking}
use Rattle.keys_fields.specs.declared.mapped.Mapped.{Mapped}
use Rattle.keys_fields.specs.Ahead.{ahead_remaining}
use Rattle.keys_fields.specs.Passing.{bytes_for, is_left_out}
use Rattle.keys_fields.specs.Mapping.{onto_lines, lines_for, count_with, count_after, left_for, mapped_remaining, SameLeft, Passes}

-- ---- known bytes

pub prepend_twice : (front more : List ℕ) (known : Option (List ℕ)) → prepend_known front (prepend_known more known) ≡ prepend_known (front ++ more) known
prepend_twice front more None = refl
prepend_twice front more (Some bytes) = ap Some (sym (append_assoc front more bytes))

pub prepend_none : (known : Option (List ℕ)) → prepend_known [] known ≡ known
prepend_none None = refl
prepend_none (Some bytes) = refl

consumed : (a b : Option (List ℕ)) (bytes : List ℕ) → a ≡ prepend_known bytes b → Consumes a b bytes
consumed None b bytes e = tt
consumed (Some xs) None bytes e = absurd (none-some xs (sym e))
consumed (Some xs) (Some ys) bytes e = same_Some xs (bytes ++ ys) e

kept_known : (a b : Option (List ℕ)) → a ≡ prepend_known [] b → Keeps a b
kept_known None b e = tt
kept_known (Some xs) None e = absurd (none-some xs (sym e))
kept_known (Some xs) (Some ys) e = sym (same_Some xs ys e)

module _ (passed : List ℕ → Option (List ℕ)) (counted : List ℕ → Bool) where
  -- a line is passed on as these bytes
  line_put : (o : Option (List ℕ)) (bytes : List ℕ) (others : Option (List ℕ)) → o ≡ Some bytes → onto_lines o others ≡ prepend_known bytes others
  line_put o bytes others e = ap (λ front. onto_lines front others) e

  module _ (waiting : List ℕ) (count : ℕ) (begun : List ℕ) where
    -- nothing is read
    pub same_kept : (text rest : Option (List ℕ)) → Keeps text rest → SameLeft passed counted waiting count begun text waiting count begun rest
    same_kept None rest keeps known = absurd (cc)
    same_kept (Some text) None keeps known = absurd keeps
    same_kept (Some text) (Some rest) keeps known = (refl, ap (λ t. left_for passed counted waiting count begun (Some t)) (sym keeps))

    -- a piece without an LF
    pub piece_read : (text rest : Option (List ℕ)) (piece : List ℕ) → Consumes text rest piece → Lacks 10 piece → SameLeft passed counted waiting count begun text waiting count (begun ++ piece) rest
    piece_read None rest piece read lacks known = absurd (cc)
    piece_read (Some text) None piece read lacks known = absurd read
    piece_read (Some text) (Some rest) piece read lacks known =
        (refl, ap (λ t. left_for passed counted waiting count begun (Some t)) read ∙ ap (λ lines. left_of lines) (lines_after-lacking begun piece rest lacks))
      where
        left_of : List (List ℕ) → Option (List ℕ) × ℕ
        left_of lines = (prepend_known waiting (lines_for passed lines), count_after counted count lines)

    -- a line is next
    pub line_next : (line bytes : List ℕ) (lines : List (List ℕ)) → passed line ≡ Some bytes
        → ◌≡◌ {A = Option (List ℕ) × ℕ} (prepend_known waiting (lines_for passed (line ∷ lines)), count_after counted count (line ∷ lines))
        (prepend_known (waiting ++ bytes) (lines_for passed lines), count_after counted (count_with (counted line) count) lines)
    line_next line bytes lines put =
        ap with_count
        (ap (prepend_known waiting) (line_put (passed line) bytes (lines_for passed lines) put) ∙ prepend_twice waiting bytes (lines_for passed lines))
      where
        with_count : Option (List ℕ) → Option (List ℕ) × ℕ
        with_count known = (known, count_after counted (count_with (counted line) count) lines)

    -- the rest of a line, with its LF
    pub line_read : (text rest : Option (List ℕ)) (front bytes : List ℕ) → Consumes text rest (front ++ 10 ∷ []) → Lacks 10 front → passed (begun ++ front) ≡ Some bytes
        → SameLeft passed counted waiting count begun text (waiting ++ bytes) (count_with (counted (begun ++ front)) count) [] rest
    line_read None rest front bytes read lacks put known = absurd (cc)
    line_read (Some text) None front bytes read lacks put known = absurd read
    line_read (Some text) (Some rest) front bytes read lacks put known = (
      refl,
      ap (λ t. left_for passed counted waiting count begun (Some t)) (read ∙ append_assoc front (10 ∷ []) rest)
          ∙ ap (λ lines. left_of lines) (lines_after-line begun front rest lacks)
          ∙ line_next (begun ++ front) bytes (lines_after [] rest) put,
    )
      where
        left_of : List (List ℕ) → Option (List ℕ) × ℕ
        left_of lines = (prepend_known waiting (lines_for passed lines), count_after counted count lines)

    -- as much as the reader showed, through an LF
    pub shown_line : (text rest : Option (List ℕ)) (shown front behind bytes waiting_now begun_now : List ℕ) (count_now length_read : ℕ) → length_read ≡ length front + 1 → shown ≡ front ++ 10 ∷ behind → Lacks 10 front
        → Consumes text rest (take length_read shown) → passed (begun ++ front) ≡ Some bytes → waiting_now ≡ waiting ++ bytes → count_now ≡ count_with (counted (begun ++ front)) count → begun_now ≡ []
        → SameLeft passed counted waiting count begun text waiting_now count_now begun_now rest
    shown_line text rest shown front behind bytes waiting_now begun_now count_now length_read measured parts lacks read put waits counts ended =
        let piece : take length_read shown ≡ front ++ 10 ∷ [] = ap (take length_read) (parts ∙ sym (append_assoc front (10 ∷ []) behind)) ∙ take_at (front ++ 10 ∷ []) behind length_read (length-append front (10 ∷ []) ∙ sym measured) in
        subst (λ b. SameLeft passed counted waiting count begun text waiting_now count_now b rest) (sym ended)
        (subst (λ (n : ℕ). SameLeft passed counted waiting count begun text waiting_now n [] rest) (sym counts)
        (subst (λ w. SameLeft passed counted waiting count begun text w (count_with (counted (begun ++ front)) count) [] rest) (sym waits)
        (line_read text rest front bytes (subst (Consumes text rest) piece read) lacks put)))

    -- all that the reader showed
    pub shown_piece : (text rest : Option (List ℕ)) (shown begun_now : List ℕ) (length_read : ℕ) → length_read ≡ length shown → Lacks 10 shown → Consumes text rest (take length_read shown) → begun_now ≡ begun ++ shown
        → SameLeft passed counted waiting count begun text waiting count begun_now rest
    shown_piece text rest shown begun_now length_read measured lacks read grows =
        let piece : take length_read shown ≡ shown = ap (λ n. take n shown) measured ∙ take_all (length shown) shown (le_refl _) in
        subst (λ b. SameLeft passed counted waiting count begun text waiting count b rest) (sym grows)
        (piece_read text rest shown (subst (Consumes text rest) piece read) lacks)

    -- the text has no more
    pub end_read : (text rest : Option (List ℕ)) (waiting_now : List ℕ) (count_now : ℕ) (begun_now : List ℕ) → Keeps text rest → (IsSome text → text ≡ Some [])
        → SameLeft passed counted waiting count begun (Some []) waiting_now count_now begun_now (Some []) → SameLeft passed counted waiting count begun text waiting_now count_now begun_now rest
    end_read None rest waiting_now count_now begun_now keeps ended same known = absurd (cc)
    end_read (Some text) None waiting_now count_now begun_now keeps ended same known = absurd keeps
    end_read (Some text) (Some rest) waiting_now count_now begun_now keeps ended same known =
        let none = same_Some text [] (ended refl) in (
          refl,
          ap (λ t. left_for passed counted waiting count begun (Some t)) none ∙ (same refl).1 ∙ ap (λ t. left_for passed counted waiting_now count_now begun_now (Some t)) (sym (keeps ∙ none)),
        )

  -- one step after another
  pub same_more : (w : List ℕ) (n : ℕ) (b w' : List ℕ) (n' : ℕ) (b' w'' : List ℕ) (n'' : ℕ) (b'' : List ℕ) (text rest last : Option (List ℕ)) → SameLeft passed counted w n b text w' n' b' rest → SameLeft passed counted w' n' b' rest w'' n'' b'' last → SameLeft passed counted w n b text w'' n'' b'' last
  same_more w n b w' n' b' w'' n'' b'' text rest last first second known =
      let was = first known in
      let is = second was.0 in
      (is.0, was.1 ∙ is.1)

-- ---- what a reader shows

-- as much as it showed, through an LF
pub cut_length : (shown front behind : List ℕ) (count : ℕ) → count ≡ length front + 1 → shown ≡ front ++ 10 ∷ behind → count ≤ length shown
cut_length shown front behind count counted parts = omega (arith, counted, ap length parts ∙ length-append front (10 ∷ behind))

-- nothing is left at the end
pub at_end : (text rest : Option (List ℕ)) → Keeps text rest → IsAtEnd rest → IsSome text → text ≡ Some []
at_end None rest keeps end known = absurd (cc)
at_end (Some text) None keeps end known = absurd keeps
at_end (Some text) (Some rest) keeps end known = ap Some (sym keeps ∙ end)

-- what is shown is consumed
pub shown_consumed : (a b c : Option (List ℕ)) (bytes : List ℕ) → Keeps a b → Consumes b c bytes → Consumes a c bytes
shown_consumed None b c bytes keeps read = tt
shown_consumed (Some xs) None c bytes keeps read = absurd keeps
shown_consumed (Some xs) (Some ys) None bytes keeps read = absurd read
shown_consumed (Some xs) (Some ys) (Some zs) bytes keeps read = sym keeps ∙ read

pub empty_of : {X : Type 0} (xs : List X) → length xs ≡ 0 → xs ≡ []
empty_of [] none = refl
empty_of (x ∷ xs) none = absurd (omega (arith, none))

-- nothing waited, and lines were read
pub refilled : (f : List ℕ → Option (List ℕ)) (c : List ℕ → Bool) (given : ℕ) (waiting cleared : List ℕ) (n : ℕ) (b w' : List ℕ) (n' : ℕ) (b' : List ℕ) (t t' : Option (List ℕ)) → length waiting ≤ given → cleared ≡ [] → SameLeft f c cleared n b t w' n' b' t'
    → IsSome t → IsSome t' × ((left_for f c (drop given waiting) n b t).0 ≡ prepend_known [] (left_for f c w' n' b' t').0) × ((left_for f c (drop given waiting) n b t).1 ≡ (left_for f c w' n' b' t').1)
refilled f c given waiting cleared n b w' n' b' t t' all none same known =
    let is = same known in
    let whole : left_for f c (drop given waiting) n b t ≡ left_for f c w' n' b' t' = ap (λ w. left_for f c w n b t) (drop_all given waiting all ∙ sym none) ∙ is.1 in
    (is.0, ap (λ x. x.0) whole ∙ sym (prepend_none (left_for f c w' n' b' t').0), ap (λ x. x.1) whole)

-- something waits
pub some_waits : (given : ℕ) (waiting : List ℕ) → given < length waiting → drop given waiting ≡ [] → ⊥
some_waits given waiting some none = omega (arith, some, sym (length-drop given waiting) ∙ ap length none)

-- nothing waits, and the text has no more
pub none_waits : (f : List ℕ → Option (List ℕ)) (c : List ℕ → Bool) (w : List ℕ) (n : ℕ) (b : List ℕ) (t : Option (List ℕ)) → w ≡ [] → b ≡ [] → IsAtEnd t → IsSome t → ((left_for f c w n b t).0 ≡ Some []) × ((left_for f c w n b t).1 ≡ n)
none_waits f c w n b None none ended end known = absurd (cc)
none_waits f c w n b (Some text) none ended end known =
    let whole : left_for f c w n b (Some text) ≡ (Some [], n) = ap (λ x. left_for f c x n b (Some text)) none ∙ ap (λ x. left_for f c [] n x (Some text)) ended ∙ ap (λ x. left_for f c [] n [] (Some x)) end in
    (ap (λ x. x.0) whole, ap (λ x. x.1) whole)

-- bytes are given of those that wait
pub given_left : (f : List ℕ → Option (List ℕ)) (c : List ℕ → Bool) (w bytes w' : List ℕ) (n : ℕ) (b : List ℕ) (t : Option (List ℕ)) → w ≡ bytes ++ w'
    → ((left_for f c w n b t).0 ≡ prepend_known bytes (left_for f c w' n b t).0) × ((left_for f c w n b t).1 ≡ (left_for f c w' n b t).1)
given_left f c w bytes w' n b None e = (refl, refl)
given_left f c w bytes w' n b (Some text) e =
    (ap (λ x. prepend_known x (lines_for f (lines_after b text))) e ∙ sym (prepend_twice bytes w' (lines_for f (lines_after b text))), refl)

-- a count of lines, one after another
pub count-cons : (c : List ℕ → Bool) (line : List ℕ) (lines : List (List ℕ)) → count_by c (line ∷ lines) ≡ count_by c (line ∷ []) + count_by c lines
count-cons c line lines = sum_by-append (λ x. cond (c x) 1 0) (line ∷ []) lines

pub count_more : (c : List ℕ → Bool) (n : ℕ) (lines : List (List ℕ)) → n ≤ 2 ^ 64 - 1 → count_after c n lines ≡ min (n + count_by c lines) (2 ^ 64 - 1)
count_more c n [] small = omega (arith, small)
count_more c n (line ∷ lines) small =
    (elim (c line) as (λ t. c line ≡ t → count_after c (count_with t n) lines ≡ min (n + count_by c (line ∷ lines)) (2 ^ 64 - 1)) [
      | true ↦ λ e. count_more c (min (n + 1) (2 ^ 64 - 1)) lines (omega arith) ∙ omega (arith, small, count-cons c line lines, ap (λ t. 0 + cond t 1 0) e)
      | false ↦ λ e. count_more c n lines small ∙ omega (arith, small, count-cons c line lines, ap (λ t. 0 + cond t 1 0) e)
    ]) refl

-- ---- the reader

module _ {R : Type 0} (remaining : R → Option (List ℕ)) (old new : Mapped R) where
  by_left : (t u : Option (List ℕ)) (bytes : List ℕ) (f : List ℕ → Option (List ℕ)) (c : List ℕ → Bool) (w : List ℕ) (n : ℕ) (b : List ℕ) → (IsSome t → (left_for f c w n b t).0 ≡ prepend_known bytes u) → Consumes (left_for f c w n b t).0 u bytes
  by_left None u bytes f c w n b is = tt
  by_left (Some t) u bytes f c w n b is = consumed (left_for f c w n b (Some t)).0 u bytes (is refl)

  pub passes_consumes : (bytes : List ℕ) → Passes remaining old new bytes → Consumes (mapped_remaining remaining old) (mapped_remaining remaining new) bytes
  passes_consumes bytes is =
      by_left (ahead_remaining remaining old.ahead) (mapped_remaining remaining new) bytes (bytes_for old.passing) (is_left_out old.passing) (drop old.given old.waiting.items) old.left_out old.begun.items (λ known. (is known).1)

  kept_left : (t u : Option (List ℕ)) (f : List ℕ → Option (List ℕ)) (c : List ℕ → Bool) (w : List ℕ) (n : ℕ) (b : List ℕ) → (IsSome t → (left_for f c w n b t).0 ≡ prepend_known [] u) → Keeps (left_for f c w n b t).0 u
  kept_left None u f c w n b is = tt
  kept_left (Some t) u f c w n b is = kept_known (left_for f c w n b (Some t)).0 u (is refl)

  pub passes_keeps : Passes remaining old new [] → Keeps (mapped_remaining remaining old) (mapped_remaining remaining new)
  passes_keeps is = kept_left (ahead_remaining remaining old.ahead) (mapped_remaining remaining new) (bytes_for old.passing) (is_left_out old.passing) (drop old.given old.waiting.items) old.left_out old.begun.items (λ known. (is known).1)

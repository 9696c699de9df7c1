-- Lines that are read one after another and put into groups.
use Rattle.std.proofs.Common.{ℕ, ◌≡◌, ◌++◌, eqb, cond, true, false, List, [], ◌∷◌, Option, Some, None, refl, sym, ap, ◌∙◌, subst, append_assoc, append-nil}
use Rattle.std.specs.Prelude.{IfSome}
use Rattle.std.specs.Io.KnownBytes.{prepend_known}
use Rattle.std.specs.Io.Buffered.{reader_remaining, reader_inner, reader_buffer, reader_capacity}
use Rattle.std.specs.declared.io.buffered.BufReader.{BufReader}
use Rattle.keys_lines.specs.Lines.{lines_of}
use Rattle.keys_groups.specs.Groups.{without_lf}
use Rattle.keys_groups.specs.Reading.{ReadsLine, ContinuesLines}

-- a new reader has all of its source
reader_known : {R A : Type 0} (remaining : R → Option (List ℕ)) (reader : BufReader R A) (source : R) → reader_inner reader ≡ source → reader_buffer reader ≡ [] → eqb (reader_capacity reader) 0 ≡ false →
    reader_remaining remaining reader ≡ prepend_known [] (remaining source)
reader_known remaining reader source inner empty room =
    ap (λ b. cond b None (prepend_known (reader_buffer reader) (remaining (reader_inner reader)))) room
    ∙ ap (λ bs. prepend_known bs (remaining (reader_inner reader))) empty
    ∙ ap (λ r. prepend_known [] (remaining r)) inner

continues_known : (known : Option (List ℕ)) (P : List (List ℕ) → Type 0) → P [] → ContinuesLines known (prepend_known [] known) P
continues_known None P holds = tt
continues_known (Some text) P holds = ([], refl, holds)

pub begins : {R A : Type 0} (remaining : R → Option (List ℕ)) (reader : BufReader R A) (source : R) (P : List (List ℕ) → Type 0) → reader_inner reader ≡ source → reader_buffer reader ≡ [] → eqb (reader_capacity reader) 0 ≡ false → P [] →
    ContinuesLines (remaining source) (reader_remaining remaining reader) P
begins remaining reader source P inner empty room holds =
    subst (λ (known : Option (List ℕ)). ContinuesLines (remaining source) known P) (sym (reader_known remaining reader source inner empty room)) (continues_known (remaining source) P holds)

-- one more line was read
one_read : (text left bytes : List ℕ) (new : Option (List ℕ)) (P Q : List (List ℕ) → Type 0) (taken : List (List ℕ)) → lines_of text ≡ taken ++ lines_of left → P taken → ReadsLine (Some left) new bytes true →
    ((done : List (List ℕ)) → P done → Q (done ++ without_lf bytes ∷ [])) → ContinuesLines (Some text) new Q
one_read text left bytes new P Q taken parted holds read step =
    subst (λ (known : Option (List ℕ)). ContinuesLines (Some text) known Q) (sym read.1) (
      taken ++ without_lf bytes ∷ [],
      parted ∙ ap (λ ls. taken ++ ls) read.2 ∙ sym (append_assoc taken (without_lf bytes ∷ []) (lines_of read.0)),
      step taken holds,
    )

pub continues : (old now new : Option (List ℕ)) (bytes : List ℕ) (P Q : List (List ℕ) → Type 0) → ContinuesLines old now P → ReadsLine now new bytes true →
    ((done : List (List ℕ)) → P done → Q (done ++ without_lf bytes ∷ [])) → ContinuesLines old new Q
continues None now new bytes P Q so_far read step = tt
continues (Some text) None new bytes P Q so_far read step = absurd so_far
continues (Some text) (Some left) new bytes P Q so_far read step = one_read text left bytes new P Q so_far.0 so_far.1 so_far.2 read step

-- no line was left
pub ends : (old now new : Option (List ℕ)) (bytes : List ℕ) (P : List (List ℕ) → Type 0) → ContinuesLines old now P → ReadsLine now new bytes false → IfSome old (λ text. P (lines_of text))
ends None now new bytes P so_far read = tt
ends (Some text) None new bytes P so_far read = absurd so_far
ends (Some text) (Some left) new bytes P so_far read =
    subst P (sym (so_far.1 ∙ ap (λ ls. so_far.0 ++ ls) read ∙ append-nil so_far.0)) so_far.2

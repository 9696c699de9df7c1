-- Files that are counted one after another, each by itself.
use Rattle.std.proofs.Common.{◌≡◌, ℕ, List, [], ◌∷◌, ◌++◌, Option, Some, None, refl, sym, ap, subst, ◌∙◌, append_assoc, append-nil}
use Rattle.std.specs.Prelude.{IfSome, String, string_bytes}
use Rattle.core_compact.specs.CompactState.{Compact}
use Rattle.keys_lines.specs.Lines.{lines_of}
use Rattle.keys_sketches.specs.Keys.{value_of_lines, sketch_of_value}
use Rattle.distinct_arguments.specs.Settings.{OptionValues}
use Rattle.distinct_messages.specs.Failures.{display_name}
use Rattle.distinct_inputs.specs.Failures.{chosen_hashing, NotesNext}
use Rattle.distinct_inputs.specs.Lists.{names_of}
use Rattle.distinct_commands.specs.Answers.{sketch_of, file_text, files_text}
use Rattle.distinct_commands.specs.Eval.{sketch_of_text, SketchesNext}
use Rattle.distinct_commands.specs.Texts.{file_count_text}

-- the sketch of one text
alone : (options : OptionValues) (seed : ℕ) (text : List ℕ) → sketch_of options seed (text ∷ []) ≡ sketch_of_text options seed text
alone options seed text = ap (λ lines. sketch_of_value seed (value_of_lines (chosen_hashing options seed) options.lg_k lines)) (append-nil (lines_of text))

-- the first of the files that are left
none_left : (options : OptionValues) (seed : ℕ) (last : List ℕ) (names : List (List ℕ)) → files_text options seed last names [] ≡ []
unfolding files_text
none_left options seed last names = refl

beyond_names : (options : OptionValues) (seed : ℕ) (last text : List ℕ) (texts : List (List ℕ)) → files_text options seed last [] (text ∷ texts) ≡ file_text options seed last text ++ files_text options seed last [] texts
unfolding files_text
beyond_names options seed last text texts = refl

one_named : (options : OptionValues) (seed : ℕ) (last name : List ℕ) (names : List (List ℕ)) (text : List ℕ) (texts : List (List ℕ)) →
    files_text options seed last (name ∷ names) (text ∷ texts) ≡ file_text options seed name text ++ files_text options seed name names texts
unfolding files_text
one_named options seed last name names text texts = refl

next_file : {A : Type 0} (options : OptionValues) (seed : ℕ) (last : List ℕ) (left : List (String A)) (new_last : List ℕ) (new_left : List (String A)) (text : List ℕ) (texts : List (List ℕ)) → NotesNext last left new_last new_left →
    files_text options seed last (names_of left) (text ∷ texts) ≡ file_text options seed new_last text ++ files_text options seed new_last (names_of new_left) texts
next_file options seed last [] new_last new_left text texts noted =
    rw (noted.0, noted.1) (beyond_names options seed last text texts)
next_file options seed last (name ∷ left) new_last new_left text texts noted =
    rw (noted.0, noted.1) (one_named options seed last (string_bytes name) (names_of left) text texts)

-- the lines so far, followed by those of the files that are left, are all lines
abbrev pub CountsSoFar : OptionValues → (seed : ℕ) → (old now : Option (List (List ℕ))) → (head first : List ℕ) → (names : List (List ℕ)) → (so_far last : List ℕ) → (left : List (List ℕ)) → Type 0
CountsSoFar options seed None now head first names so_far last left = Unit {0}
CountsSoFar options seed (Some all) None head first names so_far last left = ⊥
CountsSoFar options seed (Some all) (Some texts) head first names so_far last left = head ++ files_text options seed first names all ≡ so_far ++ files_text options seed last left texts

pub counts_begin : (options : OptionValues) (seed : ℕ) (old : Option (List (List ℕ))) (head first : List ℕ) (names : List (List ℕ)) (so_far : List ℕ) → so_far ≡ head → CountsSoFar options seed old old head first names so_far first names
counts_begin options seed None head first names so_far is = tt
counts_begin options seed (Some all) head first names so_far is = ap (λ text. text ++ files_text options seed first names all) (sym is)

pub counts_more : {A : Type 0} (options : OptionValues) (seed : ℕ) (old now new : Option (List (List ℕ))) (head first : List ℕ) (names : List (List ℕ)) (so_far last : List ℕ) (left : List (String A)) (new_last : List ℕ) (new_left : List (String A))
    (o : Option (Compact ℕ)) (s : Compact ℕ) (line new_text : List ℕ) →
    CountsSoFar options seed old now head first names so_far last (names_of left) → SketchesNext options seed now new o → o ≡ Some s → NotesNext last left new_last new_left →
    line ≡ file_count_text options (display_name new_last) s → new_text ≡ so_far ++ line → CountsSoFar options seed old new head first names new_text new_last (names_of new_left)
counts_more options seed None now new head first names so_far last left new_last new_left o s line new_text counts next is noted printed put = tt
counts_more options seed (Some all) None new head first names so_far last left new_last new_left o s line new_text counts next is noted printed put = absurd counts
counts_more options seed (Some all) (Some texts) new head first names so_far last left new_last new_left o s line new_text counts next is noted printed put =
    let one = subst (SketchesNext options seed (Some texts) new) is next in
    let rest = files_text options seed new_last (names_of new_left) one.texts_after in
    let same : file_text options seed new_last one.text ≡ line =
    ap (file_count_text options (display_name new_last)) (alone options seed one.text ∙ sym one.sketched) ∙ sym printed in
    subst (λ (o : Option (List (List ℕ))). CountsSoFar options seed (Some all) o head first names new_text new_last (names_of new_left)) (sym one.leaves) (
    counts ∙ ap (λ ts. so_far ++ files_text options seed last (names_of left) ts) one.parted
    ∙ ap (λ text. so_far ++ text) (next_file options seed last left new_last new_left one.text one.texts_after noted)
    ∙ ap (λ text. so_far ++ (text ++ rest)) same
    ∙ sym (append_assoc so_far line rest)
    ∙ ap (λ text. text ++ rest) (sym put))

all_counted : (options : OptionValues) (seed : ℕ) (all : List (List ℕ)) (now new : Option (List (List ℕ))) (head first : List ℕ) (names : List (List ℕ)) (so_far last : List ℕ) (left : List (List ℕ)) →
    CountsSoFar options seed (Some all) now head first names so_far last left → SketchesNext options seed now new None → so_far ≡ head ++ files_text options seed first names all
all_counted options seed all None new head first names so_far last left counts next = absurd counts
all_counted options seed all (Some texts) new head first names so_far last left counts next =
    sym (counts ∙ ap (λ ts. so_far ++ files_text options seed last left ts) next ∙ ap (λ text. so_far ++ text) (none_left options seed last left) ∙ append-nil so_far)

pub counts_end : (options : OptionValues) (seed : ℕ) (old now new : Option (List (List ℕ))) (head first : List ℕ) (names : List (List ℕ)) (so_far last : List ℕ) (left : List (List ℕ)) (o : Option (Compact ℕ)) →
    CountsSoFar options seed old now head first names so_far last left → SketchesNext options seed now new o → o ≡ None → IfSome old (λ all. so_far ≡ head ++ files_text options seed first names all)
counts_end options seed None now new head first names so_far last left o counts next is = tt
counts_end options seed (Some all) now new head first names so_far last left o counts next is =
    all_counted options seed all now new head first names so_far last left counts (subst (SketchesNext options seed now new) is next)

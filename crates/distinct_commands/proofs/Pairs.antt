-- All pairs of named sketches.
use Rattle.std.proofs.Common.{◌≡◌, ℕ, ◌<◌, suc, false, List, [], ◌∷◌, ◌++◌, length, map, Option, Some, None, refl, sym, ap, subst, ◌∙◌, append_assoc, append-nil, arith}
use Rattle.std.specs.Prelude.{IfSome, IfOk, Result, Ok, Err, String, string_bytes}
use Rattle.std.specs.List.{AllByRecursion}
use Rattle.sketch_base.specs.Seed.{seed_hash}
use Rattle.core_compact.specs.CompactState.{Compact, compact_value}
use Rattle.core_laws.specs.Entries.{hash_key}
use Rattle.core_laws.specs.Samples.{IsSample, AreSamples}
use Rattle.keys_sketches.specs.Shards.{values_of_sketches, AreRead}
use Rattle.keys_sketches.specs.Sources.{Continues}
use Rattle.distinct_arguments.specs.Settings.{OptionValues}
use Rattle.distinct_messages.specs.Failures.{display_name}
use Rattle.distinct_messages.specs.declared.failure.Failure.{Failure}
use Rattle.distinct_inputs.specs.Failures.{NotesNext}
use Rattle.distinct_inputs.specs.Lists.{names_of}
use Rattle.distinct_commands.specs.Matrix.{NamedSketch, named_of, sketches_in, matrix_head, pairs_text, row_text, pair_text, AreNamed, AreCountedWith, ArePairsCounted, IsMatrix}
use Rattle.distinct_commands.specs.declared.matrix.Named.{Named}
use Rattle.distinct_commands.proofs.Overlaps.{ThetaFacts, spelled_theta, counts_of}

-- ---- one sketch more

pub named-more : (items : List Named) (n : Named) → map named_of (items ++ n ∷ []) ≡ map named_of items ++ named_of n ∷ []
named-more [] n = refl
named-more (m ∷ items) n = ap (λ ns. named_of m ∷ ns) (named-more items n)

pub sketches-more : (items : List Named) (n : Named) → sketches_in (map named_of (items ++ n ∷ [])) ≡ sketches_in (map named_of items) ++ n.sketch ∷ []
sketches-more [] n = refl
sketches-more (m ∷ items) n = ap (λ ss. m.sketch ∷ ss) (sketches-more items n)

-- nothing is read yet
pub nothing_read : (seed : ℕ) (o : Option (List (List ℕ))) (items : List Named) → items ≡ [] → Continues o o (λ taken. AreRead seed taken (sketches_in (map named_of items)))
nothing_read seed None items none = tt
nothing_read seed (Some all) items none = ([], refl, subst (λ (ns : List Named). AreRead seed [] (sketches_in (map named_of ns))) (sym none) tt)

-- ---- names

-- sketches with the names that are left have, behind those so far, all names
abbrev pub NamesSoFar : (all left : List (List ℕ)) → (so_far : List NamedSketch) → Type 0
NamesSoFar all left so_far = (more : List NamedSketch) → AreNamed left more → AreNamed all (so_far ++ more)

pub names_begin : (all : List (List ℕ)) (items : List Named) → items ≡ [] → NamesSoFar all all (map named_of items)
names_begin all items none = subst (λ (ns : List Named). NamesSoFar all all (map named_of ns)) (sym none) (λ more are. are)

-- the next sketch has the name of the next file
next_name : {A : Type 0} (all : List (List ℕ)) (left : List (String A)) (so_far : List NamedSketch) (n : NamedSketch) (current new_current : List ℕ) (new_left : List (String A)) →
    NamesSoFar all (names_of left) so_far → NotesNext current left new_current new_left → n.name ≡ display_name new_current → NamesSoFar all (names_of new_left) (so_far ++ n ∷ [])
next_name all [] so_far n current new_current new_left names noted is = λ more are.
    subst (AreNamed all) (sym (append_assoc so_far (n ∷ []) more)) (names (n ∷ more) tt)
next_name all (name ∷ left) so_far n current new_current new_left names noted is = λ more are.
    subst (AreNamed all) (sym (append_assoc so_far (n ∷ []) more))
    (names (n ∷ more) (is ∙ ap display_name noted.0, subst (λ l. AreNamed (names_of l) more) noted.1 are))

pub name_more : {A : Type 0} (all : List (List ℕ)) (left : List (String A)) (items new : List Named) (n : Named) (current new_current : List ℕ) (new_left : List (String A)) →
    NamesSoFar all (names_of left) (map named_of items) → NotesNext current left new_current new_left → string_bytes n.name ≡ display_name new_current → new ≡ items ++ n ∷ [] →
    NamesSoFar all (names_of new_left) (map named_of new)
name_more all left items new n current new_current new_left names noted is put =
    subst (NamesSoFar all (names_of new_left)) (sym (ap (map named_of) put ∙ named-more items n))
    (next_name all left (map named_of items) (named_of n) current new_current new_left names noted is)

none_more : (left : List (List ℕ)) → AreNamed left []
none_more [] = tt
none_more (name ∷ left) = tt

pub names_end : (all left : List (List ℕ)) (so_far : List NamedSketch) → NamesSoFar all left so_far → AreNamed all so_far
names_end all left so_far names = subst (AreNamed all) (append-nil so_far) (names [] (none_more left))

-- ---- pairs of samples

all_facts : (seed : ℕ) (images : List (List ℕ)) (sketches : List (Compact ℕ)) → AreRead seed images sketches → AllByRecursion ThetaFacts sketches
all_facts seed [] [] read = tt
all_facts seed [] (s ∷ sketches) read = absurd read
all_facts seed (image ∷ images) [] read = absurd read
all_facts seed (image ∷ images) (s ∷ sketches) read = (spelled_theta image (seed_hash seed) s read.0.spelled, all_facts seed images sketches read.1)

counted_with : (seed : ℕ) (a : Compact ℕ) (xs : List ℕ) (others : List (Compact ℕ)) (wholes : List (List ℕ)) → ThetaFacts a → AllByRecursion ThetaFacts others →
    IsSample hash_key (compact_value hash_key a) xs → AreSamples hash_key (values_of_sketches others) wholes → AreCountedWith seed a xs others wholes
counted_with seed a xs [] [] facts all sample samples = tt
counted_with seed a xs [] (ys ∷ wholes) facts all sample samples = tt
counted_with seed a xs (b ∷ others) [] facts all sample samples = tt
counted_with seed a xs (b ∷ others) (ys ∷ wholes) facts all sample samples =
    (counts_of seed a b xs ys facts all.0 (sample, (samples.0, tt)), counted_with seed a xs others wholes facts all.1 sample samples.1)

pairs_counted : (seed : ℕ) (sketches : List (Compact ℕ)) (wholes : List (List ℕ)) → AllByRecursion ThetaFacts sketches → AreSamples hash_key (values_of_sketches sketches) wholes → ArePairsCounted seed sketches wholes
pairs_counted seed [] [] all samples = tt
pairs_counted seed [] (xs ∷ wholes) all samples = tt
pairs_counted seed (a ∷ others) [] all samples = tt
pairs_counted seed (a ∷ others) (xs ∷ wholes) all samples =
    (counted_with seed a xs others wholes all.0 all.1 samples.0 samples.1, pairs_counted seed others wholes all.1 samples.1)

-- ---- the table of all pairs

pub matrix_if_known : {V : Type 0} (r : Result V Failure) (items : V → List ℕ) (options : OptionValues) (seed : ℕ) (names : List (List ℕ)) (known : Option (List (List ℕ))) (named : List NamedSketch) →
    IfSome known (λ all. AreRead seed all (sketches_in named)) → (options.hex ≡ false → AreNamed names named) →
    IfOk r (λ v. items v ≡ matrix_head options.form ++ pairs_text options seed named) →
    IfSome known (λ all. IfOk r (λ v. IsMatrix options seed names all (items v)))
matrix_if_known r items options seed names None named read are printed = tt
matrix_if_known (Err f) items options seed names (Some all) named read are printed = tt
matrix_if_known (Ok v) items options seed names (Some all) named read are printed = record {
  sketches = named;
  read = read;
  named = are;
  printed = printed;
  whole = λ wholes samples. pairs_counted seed (sketches_in named) wholes (all_facts seed all (sketches_in named) read) samples;
}

-- ---- fewer than two images

read_count : (seed : ℕ) (images : List (List ℕ)) (sketches : List (Compact ℕ)) → AreRead seed images sketches → length images ≡ length sketches
read_count seed [] [] read = refl
read_count seed [] (s ∷ sketches) read = absurd read
read_count seed (image ∷ images) [] read = absurd read
read_count seed (image ∷ images) (s ∷ sketches) read = ap suc (read_count seed images sketches read.1)

sketch_count : (items : List Named) → length (sketches_in (map named_of items)) ≡ length items
sketch_count [] = refl
sketch_count (n ∷ items) = ap suc (sketch_count items)

pub few_read : (seed : ℕ) (known : Option (List (List ℕ))) (items : List Named) → IfSome known (λ all. AreRead seed all (sketches_in (map named_of items))) → length items < 2 → IfSome known (λ all. length all < 2)
few_read seed None items read few = tt
few_read seed (Some all) items read few = subst (λ n. n < 2) (sym (read_count seed all (sketches_in (map named_of items)) read ∙ sketch_count items)) few

-- ---- lines

-- a text of two texts, with others before, between and behind them, each part added in turn
pub added_in_turn : (one two three four all a first b second rest : List ℕ) → one ≡ a → two ≡ one ++ first → three ≡ two ++ b → four ≡ three ++ second → all ≡ four ++ rest → all ≡ a ++ (first ++ (b ++ (second ++ rest)))
added_in_turn one two three four all a first b second rest e1 e2 e3 e4 e5 =
    e5 ∙ ap (λ t. t ++ rest) (e4 ∙ ap (λ t. t ++ second) (e3 ∙ ap (λ t. t ++ b) (e2 ∙ ap (λ t. t ++ first) e1)))
    ∙ append_assoc ((a ++ first) ++ b) second rest ∙ append_assoc (a ++ first) b (second ++ rest) ∙ append_assoc a first (b ++ (second ++ rest))

-- the next line, and the next row
pub line_more : (options : OptionValues) (seed : ℕ) (first : NamedSketch) (all text line : List ℕ) (left : List Named) (second : Named) (more : List Named) →
    all ≡ text ++ row_text options seed first (map named_of left) → left ≡ second ∷ more → line ≡ pair_text options seed first (named_of second) →
    all ≡ (text ++ line) ++ row_text options seed first (map named_of more)
line_more options seed first all text line left second more so_far parted is =
    so_far ∙ ap (λ (l : List Named). text ++ row_text options seed first (map named_of l)) parted
    ∙ ap (λ l. text ++ (l ++ row_text options seed first (map named_of more))) (sym is)
    ∙ sym (append_assoc text line (row_text options seed first (map named_of more)))

pairs-first : (options : OptionValues) (seed : ℕ) (first : NamedSketch) (others : List NamedSketch) → pairs_text options seed (first ∷ others) ≡ row_text options seed first others ++ pairs_text options seed others
unfolding pairs_text
pairs-first options seed first others = refl

pairs-none : (options : OptionValues) (seed : ℕ) → pairs_text options seed [] ≡ []
unfolding pairs_text
pairs-none options seed = refl

pub row_more : (options : OptionValues) (seed : ℕ) (all text row : List ℕ) (left : List Named) (first : Named) (others : List Named) →
    all ≡ text ++ pairs_text options seed (map named_of left) → left ≡ first ∷ others → row ≡ row_text options seed (named_of first) (map named_of others) →
    all ≡ (text ++ row) ++ pairs_text options seed (map named_of others)
row_more options seed all text row left first others so_far parted is =
    so_far ∙ ap (λ (l : List Named). text ++ pairs_text options seed (map named_of l)) parted
    ∙ ap (λ l. text ++ l) (pairs-first options seed (named_of first) (map named_of others))
    ∙ ap (λ l. text ++ (l ++ pairs_text options seed (map named_of others))) (sym is)
    ∙ sym (append_assoc text row (pairs_text options seed (map named_of others)))

pub last_line : (options : OptionValues) (seed : ℕ) (first : NamedSketch) (all text : List ℕ) (left : List Named) → all ≡ text ++ row_text options seed first (map named_of left) → length left ≡ 0 → text ≡ all
last_line options seed first all text [] so_far none = sym (so_far ∙ append-nil text)
last_line options seed first all text (n ∷ left) so_far none = absurd (omega arith)

pub last_row : (options : OptionValues) (seed : ℕ) (all text : List ℕ) (left : List Named) → all ≡ text ++ pairs_text options seed (map named_of left) → length left ≡ 0 → text ≡ all
last_row options seed all text [] so_far none = sym (so_far ∙ ap (λ l. text ++ l) (pairs-none options seed) ∙ append-nil text)
last_row options seed all text (n ∷ left) so_far none = absurd (omega arith)

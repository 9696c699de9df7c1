-- What `matrix` prints.
use Rattle.std.specs.Prelude.{ℕ, ◌≡◌, ◌++◌, ⊤, Bool, false, List, [], ◌∷◌, map, flat_map, is_some, codes, decimal, string_bytes}
use Rattle.core_compact.specs.CompactState.{Compact}
use Rattle.core_laws.specs.Entries.{hash_key}
use Rattle.core_laws.specs.Samples.{AreSamples}
use Rattle.keys_reports.specs.Names.{escaped_name, json_string}
use Rattle.keys_sketches.specs.Shards.{values_of_sketches, AreRead}
use Rattle.similarities.specs.Forms.{similarity_line, similarity_json_rest, similarity_tsv_row}
use Rattle.similarities.specs.Similarities.{similarity_of}
use Rattle.similarities.specs.declared.similarity.Similarity.{Similarity}
use Rattle.distinct_arguments.specs.Settings.{OptionValues}
use Rattle.distinct_arguments.specs.declared.options.Form.{Form}
use Rattle.distinct_arguments.specs.declared.options.Form.TheVariants.{Plain, Tsv, Json}
use Rattle.distinct_messages.specs.Failures.{display_name}
use Rattle.distinct_inputs.specs.Images.{images_of}
use Rattle.distinct_commands.specs.Similarity.{comparison_of, overlap_of, Counts}
use Rattle.distinct_commands.specs.Texts.{chosen_deviations}
use Rattle.distinct_commands.specs.declared.matrix.Named.{Named}
use Rattle.distinct_commands.specs.declared.similarity.Comparison.{Comparison}

-- a sketch, and the name under which it is printed
pub record NamedSketch : Type 0 where
  pub name : List ℕ
  pub sketch : Compact ℕ

abbrev pub named_of : Named → NamedSketch
named_of n = record { name = string_bytes n.name; sketch = n.sketch }

abbrev pub sketches_in : List NamedSketch → List (Compact ℕ)
sketches_in named = map (λ n. n.sketch) named

-- how the line of a pair begins: with both names, and the estimates of what both have, and each alone, a tab behind each
abbrev pub pair_columns : (first second : List ℕ) → Comparison → List ℕ
pair_columns first second c =
    escaped_name first ++ (codes "\t" ++ escaped_name second
    ++ (codes "\t" ++ decimal c.both ++ codes "\t" ++ decimal c.first ++ codes "\t" ++ decimal c.second ++ codes "\t"))

-- .. as fields of a JSON object
abbrev pub pair_fields : (first second : List ℕ) → Comparison → List ℕ
pair_fields first second c =
    codes "{\"first\":" ++ (json_string first ++ (codes ",\"second\":" ++ json_string second
    ++ (codes ",\"both\":" ++ decimal c.both
    ++ codes ",\"first_only\":" ++ decimal c.first
    ++ codes ",\"second_only\":" ++ decimal c.second
    ++ codes ",")))

-- the line of a pair, with its similarity as `similarity` prints it
abbrev pub pair_in : Form → (with_bounds : Bool) → (first second : List ℕ) → Comparison → Similarity → List ℕ
pair_in Plain with_bounds first second c s = pair_columns first second c ++ similarity_line with_bounds s
pair_in Tsv with_bounds first second c s = pair_columns first second c ++ similarity_tsv_row s
pair_in Json with_bounds first second c s = pair_fields first second c ++ similarity_json_rest s

-- the line of two sketches
abbrev pub pair_text : OptionValues → (seed : ℕ) → (first second : NamedSketch) → List ℕ
pair_text options seed first second =
    pair_in options.form (is_some options.bounds) first.name second.name (comparison_of seed first.sketch second.sketch)
    (similarity_of (chosen_deviations options) (overlap_of seed first.sketch second.sketch))

-- the lines of a sketch and each of others, in their order
abbrev pub row_text : OptionValues → (seed : ℕ) → (first : NamedSketch) → (others : List NamedSketch) → List ℕ
row_text options seed first others = flat_map (pair_text options seed first) others

-- the lines of all pairs, each sketch first with each of those behind it
unfoldable pub pairs_text : OptionValues → (seed : ℕ) → List NamedSketch → List ℕ
pairs_text options seed [] = []
pairs_text options seed (first ∷ others) = row_text options seed first others ++ pairs_text options seed others

-- what is printed before all lines
abbrev pub matrix_head : Form → List ℕ
matrix_head Plain = []
matrix_head Tsv = codes "first\tsecond\tboth\tfirst_only\tsecond_only\tsimilarity\tlower\tupper\texact\tshared\tunited\ttheta\n"
matrix_head Json = []

-- sketches have the names of their files, as messages print them
abbrev pub AreNamed : (names : List (List ℕ)) → List NamedSketch → Type 0
AreNamed names [] = ⊤
AreNamed [] (n ∷ named) = ⊤
AreNamed (name ∷ names) (n ∷ named) = (n.name ≡ display_name name) × AreNamed names named

-- a sketch and each of others are compared as whole sets of which they are samples
abbrev pub AreCountedWith : (seed : ℕ) → (first : Compact ℕ) → (whole : List ℕ) → (others : List (Compact ℕ)) → (wholes : List (List ℕ)) → Type 0
AreCountedWith seed first xs (second ∷ others) (ys ∷ wholes) = Counts (overlap_of seed first second) xs ys × AreCountedWith seed first xs others wholes
AreCountedWith seed first xs others wholes = ⊤

-- .. each two of them
abbrev pub ArePairsCounted : (seed : ℕ) → List (Compact ℕ) → (wholes : List (List ℕ)) → Type 0
ArePairsCounted seed (first ∷ others) (xs ∷ wholes) = AreCountedWith seed first xs others wholes × ArePairsCounted seed others wholes
ArePairsCounted seed sketches wholes = ⊤

-- The lines of all pairs of the sketches in images. If each image is a file, each sketch has the name of its file, else its name is
-- unspecified. Of any whole streams of which the sketches are samples, each pair is compared by the hashes below the lesser theta.
pub record IsMatrix (options : OptionValues) (seed : ℕ) (names images : List (List ℕ)) (out : List ℕ) : Type 0 where
  pub sketches : List NamedSketch
  pub read : AreRead seed images (sketches_in sketches)
  pub named : options.hex ≡ false → AreNamed names sketches
  pub printed : out ≡ matrix_head options.form ++ pairs_text options seed sketches
  pub whole : (wholes : List (List ℕ)) → AreSamples hash_key (values_of_sketches (sketches_in sketches)) wholes →
      ArePairsCounted seed (sketches_in sketches) wholes

-- .. that files have
abbrev pub IsMatrixOf : OptionValues → (seed : ℕ) → (names texts : List (List ℕ)) → List ℕ → Type 0
IsMatrixOf options seed names texts out = IsMatrix options seed names (images_of false options.hex texts) out

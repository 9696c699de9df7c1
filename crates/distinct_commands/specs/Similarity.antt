-- What `similarity` prints.
use Rattle.std.specs.Prelude.{ℕ, ◌≡◌, ◌++◌, min, Bool, true, false, List, [], ◌∷◌, length, is_some}
use Rattle.core_compact.specs.CompactState.{Compact}
use Rattle.core_laws.specs.Entries.{hash_key, first_hash}
use Rattle.core_laws.specs.Maps.{below}
use Rattle.core_laws.specs.Operators.{common, lacking}
use Rattle.core_laws.specs.Samples.{AreSamples}
use Rattle.keys_reports.specs.Reports.{report_of}
use Rattle.keys_sketches.specs.Shards.{values_of_sketches, AreRead}
use Rattle.similarities.specs.Forms.{similarity_line, similarity_json_line, similarity_tsv_head, similarity_tsv_row}
use Rattle.similarities.specs.Similarities.{similarity_of}
use Rattle.similarities.specs.declared.similarity.Nonempty.{Nonempty}
use Rattle.similarities.specs.declared.similarity.Nonempty.TheVariants.{Neither, One, Both}
use Rattle.similarities.specs.declared.similarity.Overlap.{Overlap}
use Rattle.similarities.specs.declared.similarity.Similarity.{Similarity}
use Rattle.distinct_arguments.specs.Settings.{OptionValues}
use Rattle.distinct_arguments.specs.declared.options.Form.{Form}
use Rattle.distinct_arguments.specs.declared.options.Form.TheVariants.{Plain, Tsv, Json}
use Rattle.distinct_inputs.specs.Images.{images_of}
use Rattle.keys_joins.specs.Joins.{intersection_of, difference_of}
use Rattle.distinct_commands.specs.Texts.{chosen_deviations}
use Rattle.distinct_commands.specs.declared.similarity.Counted.{Counted}
use Rattle.distinct_commands.specs.declared.similarity.Comparison.{Comparison}

-- how many of two sketches aren't empty
abbrev pub nonempty_of : (first_empty second_empty : Bool) → Nonempty
nonempty_of true true = Neither
nonempty_of true false = One
nonempty_of false true = One
nonempty_of false false = Both

-- what two sketches retain below the lesser of their thetas: in their intersection, and in both differences
abbrev pub overlap_of : (seed : ℕ) → (first second : Compact ℕ) → Overlap
overlap_of seed first second = record {
  nonempty = nonempty_of first.empty second.empty;
  shared = length (intersection_of seed (first ∷ second ∷ [])).entries;
  first = length (difference_of seed first second).entries;
  second = length (difference_of seed second first).entries;
  theta = min first.theta second.theta;
}

-- what is counted of a sketch: its retained hashes, and its estimate, as `count` prints it
abbrev pub counted_of : Compact ℕ → Counted
counted_of s = record { retained = length s.entries; estimate = (report_of 2 s).estimate }

-- what two sketches have in common, and each alone: the estimates are those of their intersection and of both differences
abbrev pub comparison_of : (seed : ℕ) → (first second : Compact ℕ) → Comparison
comparison_of seed first second = record {
  overlap = overlap_of seed first second;
  both = (counted_of (intersection_of seed (first ∷ second ∷ []))).estimate;
  first = (counted_of (difference_of seed first second)).estimate;
  second = (counted_of (difference_of seed second first)).estimate;
}

-- an overlap has, of the hashes of two sets that are below its theta, how many both have, and how many each has alone
pub record Counts (o : Overlap) (xs ys : List ℕ) : Type 0 where
  pub shared : o.shared ≡ length (below hash_key (common hash_key first_hash xs ys) o.theta)
  pub first : o.first ≡ length (below hash_key (lacking hash_key hash_key xs ys) o.theta)
  pub second : o.second ≡ length (below hash_key (lacking hash_key hash_key ys xs) o.theta)

-- a similarity as it is printed
abbrev pub similarity_in : Form → (with_bounds : Bool) → Similarity → List ℕ
similarity_in Plain with_bounds s = similarity_line with_bounds s
similarity_in Tsv with_bounds s = similarity_tsv_head ++ similarity_tsv_row s
similarity_in Json with_bounds s = similarity_json_line s

-- what is printed of two sketches
abbrev pub similarity_text : OptionValues → (seed : ℕ) → (first second : Compact ℕ) → List ℕ
similarity_text options seed first second =
    similarity_in options.form (is_some options.bounds) (similarity_of (chosen_deviations options) (overlap_of seed first second))

-- The similarity of the sketches in two images. It is computed from the hashes below the lesser theta of any whole streams of which the
-- sketches are samples: of these hashes it has how many both streams have, and how many each has alone.
pub record IsCompared (options : OptionValues) (seed : ℕ) (images : List (List ℕ)) (out : List ℕ) : Type 0 where
  pub first : Compact ℕ
  pub second : Compact ℕ
  pub read : AreRead seed images (first ∷ second ∷ [])
  pub printed : out ≡ similarity_text options seed first second
  pub whole : (xs ys : List ℕ) → AreSamples hash_key (values_of_sketches (first ∷ second ∷ [])) (xs ∷ ys ∷ []) →
      Counts (overlap_of seed first second) xs ys

-- .. that files have
abbrev pub IsComparedOf : OptionValues → (seed : ℕ) → (texts : List (List ℕ)) → List ℕ → Type 0
IsComparedOf options seed texts out = IsCompared options seed (images_of false options.hex texts) out

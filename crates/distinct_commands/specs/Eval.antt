-- What `eval` prints or writes.
use Rattle.std.specs.Prelude.{ℕ, ◌≡◌, ◌++◌, ⊤, Bool, true, false, List, [], ◌∷◌, length, map, Option, Some, None}
use Rattle.std.specs.Prelude.{is_some, nat_lt, ◌&&◌, if◌then◌else◌}
use Rattle.sketch_base.specs.Seed.{seed_hash}
use Rattle.core_compact.specs.CompactState.{Compact, ordered_sketch}
use Rattle.core_laws.specs.Entries.{hash_key}
use Rattle.core_laws.specs.Samples.{IsSample, AreSamples}
use Rattle.theta_sketches.specs.Image.{written}
use Rattle.keys_lines.specs.Lines.{lines_of}
use Rattle.keys_sketches.specs.Keys.{key_set, value_of_lines, sketch_of_value}
use Rattle.keys_sketches.specs.Shards.{AreRead, sketches_of_texts}
use Rattle.expression_text.specs.declared.operator.Step.{Step}
use Rattle.expression_text.specs.Grammar.{IsExpressionText}
use Rattle.expression_evaluation.specs.Values.{hashes_value, set_of}
use Rattle.expression_evaluation.specs.Running.{values_of}
use Rattle.distinct_arguments.specs.Settings.{OptionValues}
use Rattle.distinct_commands.specs.EvalGroups.{AreEvaluated}
use Rattle.distinct_commands.specs.EvalSums.{IsSumsEvaluated}
use Rattle.distinct_inputs.specs.Failures.{chosen_hashing}
use Rattle.distinct_inputs.specs.Images.{images_of, in_form}
use Rattle.distinct_commands.specs.Texts.{shown_text, head_of}

-- the sketch of a text's lines, with the key and the size that the options set
abbrev pub sketch_of_text : OptionValues → (seed : ℕ) → (text : List ℕ) → Compact ℕ
sketch_of_text options seed text = sketch_of_value seed (value_of_lines (chosen_hashing options seed) options.lg_k (lines_of text))

-- the next sketch is that of the lines of the first text that was left
pub record SketchesFirst (options : OptionValues) (seed : ℕ) (texts : List (List ℕ)) (s : Compact ℕ) (left : Option (List (List ℕ))) : Type 0 where
  pub text : List ℕ
  pub texts_after : List (List ℕ)
  pub parted : texts ≡ text ∷ texts_after
  pub sketched : s ≡ sketch_of_text options seed text
  pub leaves : left ≡ Some texts_after

-- the next text was sketched, or there is none
abbrev pub SketchesNext : OptionValues → (seed : ℕ) → (old new : Option (List (List ℕ))) → Option (Compact ℕ) → Type 0
SketchesNext options seed None new next = ⊤
SketchesNext options seed (Some texts) new None = texts ≡ []
SketchesNext options seed (Some texts) new (Some s) = SketchesFirst options seed texts s new

-- each text's lines are sketched by themselves
abbrev pub AreSketchesOfTexts : OptionValues → (seed : ℕ) → (texts : List (List ℕ)) → List (Compact ℕ) → Type 0
AreSketchesOfTexts options seed texts sketches = sketches ≡ sketches_of_texts (chosen_hashing options seed) options.lg_k texts

-- the sketches of an expression's names: with `--keys` those of the texts' lines, else those that the texts have as images
abbrev pub AreOperands : (keys : Bool) → OptionValues → (seed : ℕ) → (texts : List (List ℕ)) → List (Compact ℕ) → Type 0
AreOperands true options seed texts sketches = AreSketchesOfTexts options seed texts sketches
AreOperands false options seed texts sketches = AreRead seed (images_of false options.hex texts) sketches

-- the whole streams of the names' sketches, as sets of hashes: with `--keys` those of the texts' lines, else any of
-- which the sketches are samples
abbrev pub AreWholeSets : (keys : Bool) → OptionValues → (seed : ℕ) → (texts : List (List ℕ)) → List (Compact ℕ) → (sets : List (List ℕ)) → Type 0
AreWholeSets true options seed texts sketches sets = sets ≡ map (λ text. key_set (chosen_hashing options seed) (lines_of text)) texts
AreWholeSets false options seed texts sketches sets = AreSamples hash_key (values_of sketches) sets

-- whether a result has a lower theta than each of the sketches that it is made of
abbrev pub is_cut : {X : Type 0} → (result : Compact X) → (sketches : List (Compact X)) → Bool
is_cut result [] = true
is_cut result (s ∷ sketches) = nat_lt result.theta s.theta && is_cut result sketches

-- what is printed of a sketch, as the result of an expression, or its image if it goes to a file
abbrev pub evaluated_text : OptionValues → (expression : List ℕ) → Compact ℕ → List ℕ
evaluated_text options expression s =
    if is_some options.output then in_form options.hex (written s)
    else head_of options.form ++ shown_text options expression s

-- The result of an expression over the sketches of texts, one for each of its names, in the order in which it first has
-- them. It retains exactly the hashes of the expression of the whole streams that are below its theta.
pub record IsEvaluated (options : OptionValues) (seed : ℕ) (expression : List ℕ) (texts : List (List ℕ)) (out : List ℕ) : Type 0 where
  pub names : List (List ℕ)
  pub steps : List Step
  pub spelled : IsExpressionText expression names steps
  pub sketches : List (Compact ℕ)
  pub operands : AreOperands options.keys options seed texts sketches
  pub counted : length names ≡ length sketches
  pub result : out ≡ evaluated_text options expression (ordered_sketch (hashes_value options.lg_k (values_of sketches) spelled.tree) (seed_hash seed))
  pub whole : (sets : List (List ℕ)) → AreWholeSets options.keys options seed texts sketches sets →
      IsSample hash_key (hashes_value options.lg_k (values_of sketches) spelled.tree) (set_of sets spelled.tree)

-- .. or over the groups of images in texts
abbrev pub IsEvaluatedIn : (by_groups : Bool) → OptionValues → (seed : ℕ) → (expression : List ℕ) → (texts : List (List ℕ)) → List ℕ → Type 0
IsEvaluatedIn false options seed expression texts out = IsEvaluated options seed expression texts out
IsEvaluatedIn true options seed expression texts out = AreEvaluated options seed expression texts out

-- .. over theta sketches, or over sketches of sums
abbrev pub IsEvaluatedBy : (sums : Bool) → OptionValues → (seed : ℕ) → (expression : List ℕ) → (texts : List (List ℕ)) → List ℕ → Type 0
IsEvaluatedBy false options seed expression texts out = IsEvaluatedIn options.groups options seed expression texts out
IsEvaluatedBy true options seed expression texts out = IsSumsEvaluated options seed expression texts out

-- .. if there is one expression
abbrev pub IsEvaluatedOf : OptionValues → (seed : ℕ) → (expressions texts : List (List ℕ)) → List ℕ → Type 0
IsEvaluatedOf options seed [] texts out = ⊥
IsEvaluatedOf options seed (expression ∷ []) texts out = IsEvaluatedBy options.sums options seed expression texts out
IsEvaluatedOf options seed (expression ∷ other ∷ expressions) texts out = ⊥

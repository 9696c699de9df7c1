-- What `eval --sums` prints or writes.
use Rattle.std.specs.Prelude.{ℕ, ◌≡◌, true, List, length, is_some, if◌then◌else◌}
use Rattle.sketch_base.specs.Seed.{seed_hash}
use Rattle.core_compact.specs.CompactState.{Compact, ordered_sketch}
use Rattle.core_laws.specs.Samples.{IsSample, AreSamples}
use Rattle.core_slots.specs.Entry.{tuple_key}
use Rattle.core_slots.specs.declared.entry.TupleEntry.{TupleEntry}
use Rattle.keys_sums.specs.Images.{AreReadSums, written_sums}
use Rattle.expression_text.specs.declared.operator.Step.{Step}
use Rattle.expression_text.specs.Grammar.{IsExpressionText}
use Rattle.expression_evaluation.specs.Values.{sums_value, whole_sums_in}
use Rattle.expression_evaluation.specs.Running.{sums_values}
use Rattle.distinct_arguments.specs.Settings.{OptionValues}
use Rattle.distinct_inputs.specs.Failures.{chosen_summary}
use Rattle.distinct_inputs.specs.Images.{images_of, in_form}
use Rattle.distinct_commands.specs.Sums.{total_text}

-- what is printed of a sketch of sums: its total, or its image if it goes to a file
abbrev pub evaluated_sums_text : OptionValues → Compact (TupleEntry ℕ) → List ℕ
evaluated_sums_text options s = if is_some options.output then in_form options.hex (written_sums s) else total_text options s

-- The result of an expression over the sketches of sums in files, one for each of its names, in the order in which it
-- first has them. It retains exactly the keys of the expression of the whole streams that are below its theta, with
-- their sums, which are combined as the options say.
pub record IsSumsEvaluated (options : OptionValues) (seed : ℕ) (expression : List ℕ) (texts : List (List ℕ)) (out : List ℕ) : Type 0 where
  pub names : List (List ℕ)
  pub steps : List Step
  pub spelled : IsExpressionText expression names steps
  pub sketches : List (Compact (TupleEntry ℕ))
  pub operands : AreReadSums seed (images_of true options.hex texts) sketches
  pub counted : length names ≡ length sketches
  pub result : out ≡ evaluated_sums_text options
      (ordered_sketch (sums_value (chosen_summary options) options.lg_k (sums_values sketches) spelled.tree) (seed_hash seed))
  pub whole : (wholes : List (List (TupleEntry ℕ))) → AreSamples tuple_key (sums_values sketches) wholes →
      IsSample tuple_key (sums_value (chosen_summary options) options.lg_k (sums_values sketches) spelled.tree)
      (whole_sums_in (chosen_summary options) wholes spelled.tree)

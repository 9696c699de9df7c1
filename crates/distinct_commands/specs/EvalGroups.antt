-- What `eval --groups` prints or writes.
use Rattle.std.specs.Prelude.{ℕ, ◌≡◌, List, length, is_some}
use Rattle.core_laws.specs.Entries.{hash_key}
use Rattle.core_laws.specs.Samples.{IsSample, AreSamples}
use Rattle.core_laws.specs.declared.TheConstants.{MAX_LG_K}
use Rattle.keys_lines.specs.Lines.{lines_of_all}
use Rattle.keys_groups.specs.United.{AreNames}
use Rattle.keys_joins.specs.Tables.{FileGroups}
use Rattle.keys_joins.specs.Joins.{AreGroupsOfEach}
use Rattle.keys_joins.specs.Evaluated.{evaluated_group, groups_in}
use Rattle.expression_text.specs.declared.operator.Step.{Step}
use Rattle.expression_text.specs.Grammar.{IsExpressionText}
use Rattle.expression_evaluation.specs.Values.{hashes_value, set_of}
use Rattle.expression_evaluation.specs.Running.{values_of}
use Rattle.distinct_arguments.specs.Settings.{OptionValues}
use Rattle.distinct_commands.specs.Groups.{listing_of, IsGroupsText}

-- The results of an expression over the groups of images in texts, one text for each of its names, in the order in which it
-- first has them: one for each group in the lines of any text. Each retains exactly the hashes of the expression of the whole
-- streams of the group's sketches that are below its theta. With `--output` their images are written.
pub record AreEvaluated (options : OptionValues) (seed : ℕ) (expression : List ℕ) (texts : List (List ℕ)) (out : List ℕ) : Type 0 where
  pub names : List (List ℕ)
  pub steps : List Step
  pub spelled : IsExpressionText expression names steps
  pub files : List FileGroups
  pub united : AreGroupsOfEach seed MAX_LG_K texts files
  pub counted : length names ≡ length files
  pub groups : List (List ℕ)
  pub named : AreNames (lines_of_all texts) groups
  pub printed : IsGroupsText (listing_of (is_some options.output)) options (evaluated_group seed options.lg_k spelled.tree files) groups out
  pub whole : (group : List ℕ) (sets : List (List ℕ)) → AreSamples hash_key (values_of (groups_in seed files group)) sets →
      IsSample hash_key (hashes_value options.lg_k (values_of (groups_in seed files group)) spelled.tree) (set_of sets spelled.tree)

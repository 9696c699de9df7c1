-- The result of an expression over the groups of files, for each name.
use Rattle.std.specs.Prelude.{ℕ, ◌≡◌, List, map, flat_map, length, unwrap_or}
use Rattle.core_compact.specs.CompactState.{Compact}
use Rattle.core_laws.specs.Values.{Empty}
use Rattle.core_laws.specs.declared.TheConstants.{MAX_LG_K}
use Rattle.keys_lines.specs.Lines.{lines_of_all}
use Rattle.keys_sketches.specs.Keys.{sketch_of_value}
use Rattle.keys_groups.specs.Names.{texts_of}
use Rattle.keys_groups.specs.United.{AreNames}
use Rattle.expression_text.specs.declared.operator.Step.{Step}
use Rattle.expression_text.specs.Expressions.{Expression, postfix, HasIndicesBelow}
use Rattle.expression_evaluation.specs.Values.{hashes_value}
use Rattle.expression_evaluation.specs.Running.{values_of}
use Rattle.keys_joins.specs.Tables.{FileGroups, group_at, AreTablesOf}
use Rattle.keys_joins.specs.Joins.{AreGroupsOfEach}
use Rattle.keys_joins.specs.declared.tables.SketchTable.{SketchTable}
use Rattle.keys_joins.specs.declared.evaluated.EvaluatedGroups.{EvaluatedGroups}

-- the sketch of the group of this name in a file; the empty one of this seed if the file has no such group
abbrev pub group_or_empty : (seed : ℕ) → FileGroups → (name : List ℕ) → Compact ℕ
group_or_empty seed file name = unwrap_or (group_at file name) (sketch_of_value seed Empty)

-- .. in each file
abbrev pub groups_in : (seed : ℕ) → List FileGroups → (name : List ℕ) → List (Compact ℕ)
groups_in seed files name = map (λ file. group_or_empty seed file name) files

-- the sketch of an expression over them, a union in which has 2^lg_k nominal entries
abbrev pub evaluated_group : (seed lg_k : ℕ) → Expression → List FileGroups → (name : List ℕ) → Compact ℕ
evaluated_group seed lg_k tree files name = sketch_of_value seed (hashes_value lg_k (values_of (groups_in seed files name)) tree)

-- the names in tables, one table after another
abbrev pub names_in : List SketchTable → List (List ℕ)
names_in tables = flat_map (λ table. texts_of table.map.entries) tables

-- groups that are left have these names, and the sketches of an expression over the groups of files
abbrev pub ListsEvaluated : (sketch : List ℕ → Compact ℕ) → (names : List (List ℕ)) → EvaluatedGroups → Type 0
ListsEvaluated sketch names groups =
    (files : List FileGroups)
    × (tree : Expression)
    × AreTablesOf files groups.tables.items
    × (groups.steps.now ≡ postfix tree)
    × HasIndicesBelow (length files) tree
    × (sketch ≡ evaluated_group groups.seed groups.lg_k tree files)
    × (names ≡ texts_of groups.names.entries)

-- the groups that any of these texts has in its lines, each with the sketch of the expression that has these steps, over its
-- sketches in the texts
pub record HasEvaluated (seed lg_k : ℕ) (steps : List Step) (texts : List (List ℕ)) (groups : EvaluatedGroups) : Type 0 where
  pub files : List FileGroups
  pub united : AreGroupsOfEach seed MAX_LG_K texts files
  pub counted : length files ≡ length groups.tables.items
  pub names : List (List ℕ)
  pub named : AreNames (lines_of_all texts) names
  pub lists : (tree : Expression) → steps ≡ postfix tree → HasIndicesBelow (length files) tree →
      ListsEvaluated (evaluated_group seed lg_k tree files) names groups

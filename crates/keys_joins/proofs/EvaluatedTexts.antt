-- Groups with the result of an expression: all of them, and the first.
use Rattle.std.proofs.Common.{ℕ, ◌≡◌, ◌<◌, length, arith, List, [], ◌∷◌, Option, Some, None, Vec, refl}
use Rattle.std.specs.Prelude.{IfSome}
use Rattle.std.specs.List.Sorted.{IsStrictlySortedBy}
use Rattle.std.specs.Cmp.Lexicographic.{slice_cmp}
use Rattle.std.specs.Map.{keys_of}
use Rattle.std.specs.Ordering.{nat_cmp}
use Rattle.core_laws.specs.declared.TheConstants.{MAX_LG_K}
use Rattle.keys_sketches.specs.Keys.{HaveSameLines}
use Rattle.keys_groups.specs.Names.{texts_of}
use Rattle.keys_joins.specs.Tables.{FileGroups, AreTablesOf}
use Rattle.keys_joins.specs.Reading.{AreTables}
use Rattle.keys_joins.specs.Evaluated.{names_in, HasEvaluated}
use Rattle.keys_joins.specs.declared.evaluated.EvaluatedGroups.{EvaluatedGroups}
use Rattle.keys_joins.specs.declared.tables.SketchTable.{SketchTable}
use Rattle.keys_joins.proofs.AllNames.{all_named}
use Rattle.keys_joins.proofs.FilesInTurn.{files_of}

counted : (files : List FileGroups) (tables : List SketchTable) → AreTablesOf files tables → length files ≡ length tables
counted [] [] have = refl
counted [] (table ∷ tables) have = absurd have
counted (file ∷ files) [] have = absurd have
counted (file ∷ files) (table ∷ tables) have = omega (arith, counted files tables have.1)

module _ (groups : EvaluatedGroups) (same : HaveSameLines (texts_of groups.names.entries) (names_in groups.tables.items))
    (ascend : IsStrictlySortedBy (λ x y. slice_cmp nat_cmp x.items y.items) (keys_of groups.names.entries)) where
  of_texts : (texts : List (List ℕ)) → AreTables groups.seed MAX_LG_K texts groups.tables.items → HasEvaluated groups.seed groups.lg_k groups.steps.now texts groups
  of_texts texts are =
      let all = files_of groups.seed MAX_LG_K texts groups.tables.items are in
      record {
        files = all.0;
        united = all.1;
        counted = counted all.0 groups.tables.items all.2;
        names = texts_of groups.names.entries;
        named = all_named groups.seed MAX_LG_K texts all.0 groups.tables.items groups.names.entries all.1 all.2 same ascend;
        lists = λ tree spelled within. (all.0, tree, all.2, spelled, within, refl, refl);
      }

  pub evaluated_all : (known : Option (List (List ℕ))) → IfSome known (λ texts. AreTables groups.seed MAX_LG_K texts groups.tables.items) → IfSome known (λ texts. HasEvaluated groups.seed groups.lg_k groups.steps.now texts groups)
  evaluated_all None are = tt
  evaluated_all (Some texts) are = of_texts texts are

-- no name is left
pub no_entries : {A X : Type 0} (entries : List (Vec ℕ A × X)) → (0 < length entries → ⊥) → texts_of entries ≡ []
no_entries [] none = refl
no_entries (entry ∷ entries) none = absurd (none (omega arith))

-- The sketches of the groups of a file, by their names.
use Rattle.std.specs.Prelude.{ℕ, ◌≡◌, ⊤, Bool, List, [], ◌∷◌, Option, Some, None, Vec, if◌then◌else◌}
use Rattle.std.specs.List.{list_any}
use Rattle.std.specs.BTreeMap.{BTreeMap, get_by}
use Rattle.std.specs.Ordering.{nat_cmp}
use Rattle.std.specs.Cmp.Lexicographic.{slice_cmp}
use Rattle.std.specs.Str.{bytes_eq}
use Rattle.core_compact.specs.CompactState.{Compact}
use Rattle.keys_joins.specs.declared.tables.SketchTable.{SketchTable}

-- the groups of a file: their names, and the sketch of each
pub record FileGroups : Type 0 where
  pub names : List (List ℕ)
  pub sketch : List ℕ → Compact ℕ

-- whether a name is one of these
abbrev pub is_named : (name : List ℕ) → (names : List (List ℕ)) → Bool
is_named name names = list_any (λ other. bytes_eq other name) names

-- the sketch of the group of this name in a file, if it has one
abbrev pub group_at : FileGroups → (name : List ℕ) → Option (Compact ℕ)
group_at file name = if is_named name file.names then Some (file.sketch name) else None

-- the sketch of this name in a map, if there is one
abbrev pub sketch_at : {A : Type 0} → BTreeMap (Vec ℕ A) (Compact ℕ) → (name : List ℕ) → Option (Compact ℕ)
sketch_at map name = get_by (λ key. slice_cmp nat_cmp name key.items) map

-- the sketch of this name is this one now, and the others are as they were
abbrev pub SetsSketch : {A : Type 0} → (name : List ℕ) → Compact ℕ → (old new : BTreeMap (Vec ℕ A) (Compact ℕ)) → Type 0
SetsSketch name s old new = (other : List ℕ) → sketch_at new other ≡ (if bytes_eq name other then Some s else sketch_at old other)

-- a map has the sketches of these names, and no others
abbrev pub HasSketchesOf : {A : Type 0} → (names : List (List ℕ)) → (sketch : List ℕ → Compact ℕ) → BTreeMap (Vec ℕ A) (Compact ℕ) → Type 0
HasSketchesOf names sketch map = (name : List ℕ) → sketch_at map name ≡ (if is_named name names then Some (sketch name) else None)

-- .. those of a file's groups
abbrev pub HasGroupsOf : {A : Type 0} → FileGroups → BTreeMap (Vec ℕ A) (Compact ℕ) → Type 0
HasGroupsOf file map = HasSketchesOf file.names file.sketch map

-- each table has the groups of its own file
abbrev pub AreTablesOf : List FileGroups → List SketchTable → Type 0
AreTablesOf [] [] = ⊤
AreTablesOf (file ∷ files) (table ∷ tables) = HasGroupsOf file table.map × AreTablesOf files tables
AreTablesOf [] (table ∷ tables) = ⊥
AreTablesOf (file ∷ files) [] = ⊥

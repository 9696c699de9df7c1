-- The groups of lines, and their sketches.
use Rattle.std.specs.Prelude.{ℕ, ◌≡◌, ◌==◌, ⊤, List, [], ◌∷◌, map, Option, Some, None, Vec, if◌then◌else◌}
use Rattle.std.specs.List.{filter}
use Rattle.std.specs.List.Sorted.{IsStrictlySortedBy}
use Rattle.std.specs.Ordering.{nat_cmp}
use Rattle.std.specs.Cmp.Lexicographic.{slice_cmp}
use Rattle.std.specs.Str.{bytes_eq}
use Rattle.core_compact.specs.CompactState.{Compact}
use Rattle.core_state.specs.Updatable.{Updatable}
use Rattle.keys_lines.specs.Keys.{key_of}
use Rattle.keys_lines.specs.declared.key.Key.{Key}
use Rattle.keys_sketches.specs.Keys.{HaveSameLines, line_state, new_state, with_lines, value_of_lines, sketch_of_value}
use Rattle.keys_groups.specs.declared.groups.Grouping.{Grouping}
use Rattle.keys_groups.specs.declared.groups.Group.{Group}
use Rattle.keys_groups.specs.declared.groups.Groups.{Groups}

-- the lines of the group of this name
abbrev pub lines_in : (by : Key) → (name : List ℕ) → List (List ℕ) → List (List ℕ)
lines_in by name lines = filter (λ line. bytes_eq (key_of by line) name) lines

-- the names of the groups of lines: each once, in the ascending order of their bytes, and no others
pub record AreGroups (by : Key) (lines names : List (List ℕ)) : Type 0 where
  pub ascending : IsStrictlySortedBy (slice_cmp nat_cmp) names
  pub same : HaveSameLines names (map (key_of by) lines)

-- the sketch of a group's lines
abbrev pub group_sketch : Grouping → List (List ℕ) → (name : List ℕ) → Compact ℕ
group_sketch grouping lines name =
    sketch_of_value grouping.hashing.seed (value_of_lines grouping.hashing grouping.lg_k (lines_in grouping.by name lines))

-- entries are groups of these names, each with the state of a sketch of its own lines
abbrev pub AreSketched : {A : Type 0} → Grouping → (lines names : List (List ℕ)) → List (Vec ℕ A × Updatable ℕ) → Type 0
AreSketched grouping lines [] [] = ⊤
AreSketched grouping lines (name ∷ names) (entry ∷ entries) =
    (name ≡ entry.0.items)
    × (line_state entry.1 ≡ with_lines grouping.hashing (new_state grouping.hashing.seed grouping.lg_k) (lines_in grouping.by name lines))
    × AreSketched grouping lines names entries
AreSketched grouping lines [] (entry ∷ entries) = ⊥
AreSketched grouping lines (name ∷ names) [] = ⊥

-- the groups of lines that are left have these names
abbrev pub AreLeft : Grouping → (lines names : List (List ℕ)) → Groups → Type 0
AreLeft grouping lines names groups = AreSketched grouping lines names groups.left.items

-- these are the groups of lines
abbrev pub HasGroups : Grouping → (lines : List (List ℕ)) → Groups → Type 0
HasGroups grouping lines groups =
    (names : List (List ℕ)) × AreGroups grouping.by lines names × AreLeft grouping lines names groups

-- The first of the groups that were left, with its sketch, and the others are left now; there is none only if none was left.
abbrev pub IsFirst : {G : Type 0} → (lists : (names : List (List ℕ)) → G → Type 0) → (sketch : List ℕ → Compact ℕ) → (names : List (List ℕ)) →
    (new : G) → Option Group → Type 0
IsFirst lists sketch names new None = names ≡ []
IsFirst lists sketch names new (Some group) =
    (others : List (List ℕ)) × (names ≡ group.name.items ∷ others) × (group.sketch ≡ sketch group.name.items) × lists others new

-- .. of groups of lines
abbrev pub IsNext : Grouping → (lines names : List (List ℕ)) → (new : Groups) → Option Group → Type 0
IsNext grouping lines names new group = IsFirst (AreLeft grouping lines) (group_sketch grouping lines) names new group

-- groups of lines that are left have these names and these sketches
abbrev pub ListsLines : (sketch : List ℕ → Compact ℕ) → (names : List (List ℕ)) → Groups → Type 0
ListsLines sketch names groups =
    (grouping : Grouping) × (lines : List (List ℕ)) × (sketch ≡ group_sketch grouping lines) × AreLeft grouping lines names groups

-- a text without the LF (10) at its end, if it has one
abbrev pub without_lf : List ℕ → List ℕ
without_lf [] = []
without_lf (byte ∷ []) = if byte == 10 then [] else byte ∷ []
without_lf (byte ∷ next ∷ text) = byte ∷ without_lf (next ∷ text)

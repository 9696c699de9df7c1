-- Groups that take lines.
use Rattle.std.specs.Prelude.{ℕ, ◌≡◌, List, [], ◌∷◌, Option, Some, None, Vec, IsSome, if◌then◌else◌}
use Rattle.std.specs.Option.{option_map, unwrap_or}
use Rattle.std.specs.BTreeMap.{is_at}
use Rattle.std.specs.Map.{lookup}
use Rattle.std.specs.Ordering.{nat_cmp}
use Rattle.std.specs.Cmp.Lexicographic.{slice_cmp}
use Rattle.std.specs.Str.{bytes_eq}
use Rattle.core_state.specs.Updatable.{Updatable}
use Rattle.keys_lines.specs.Keys.{key_of}
use Rattle.keys_lines.specs.declared.key.Hashing.{Hashing}
use Rattle.keys_sketches.specs.Keys.{LineState, line_state, new_state, with_line, with_lines}
use Rattle.keys_groups.specs.Groups.{lines_in}
use Rattle.keys_groups.specs.declared.groups.Grouping.{Grouping}

-- the state of the group of this name, if there is one
abbrev pub state_at : {A : Type 0} → List (Vec ℕ A × Updatable ℕ) → (name : List ℕ) → Option LineState
state_at groups name = option_map line_state (lookup (is_at (λ key. slice_cmp nat_cmp name key.items)) groups)

-- the group of this name has this state now, and the others are as they were
abbrev pub Changes : {A : Type 0} → (name : List ℕ) → Option LineState → (old new : List (Vec ℕ A × Updatable ℕ)) → Type 0
Changes name state old new = (other : List ℕ) → state_at new other ≡ (if bytes_eq name other then state else state_at old other)

-- a line was inserted into the group of this name, which was there
abbrev pub UpdatesGroup : {A : Type 0} → Hashing → (name line : List ℕ) → (old new : List (Vec ℕ A × Updatable ℕ)) → Type 0
UpdatesGroup hashing name line old new =
    Changes name (option_map (λ state. with_line hashing state line) (state_at old name)) old new × IsSome (state_at old name)

-- a line was inserted into its group, which is new if there was none
abbrev pub AddsLine : {A : Type 0} → Grouping → (line : List ℕ) → (old new : List (Vec ℕ A × Updatable ℕ)) → Type 0
AddsLine grouping line old new =
    let name = key_of grouping.by line in
    let state = unwrap_or (state_at old name) (new_state grouping.hashing.seed grouping.lg_k) in
    Changes name (Some (with_line grouping.hashing state line)) old new

-- the state of a sketch of lines; none if there is no line
abbrev pub state_of_lines : Grouping → List (List ℕ) → Option LineState
state_of_lines grouping [] = None
state_of_lines grouping (line ∷ lines) =
    Some (with_lines grouping.hashing (new_state grouping.hashing.seed grouping.lg_k) (line ∷ lines))

-- each group has the state of a sketch of its own lines
abbrev pub IsGrouped : {A : Type 0} → Grouping → (lines : List (List ℕ)) → List (Vec ℕ A × Updatable ℕ) → Type 0
IsGrouped grouping lines groups = (name : List ℕ) → state_at groups name ≡ state_of_lines grouping (lines_in grouping.by name lines)

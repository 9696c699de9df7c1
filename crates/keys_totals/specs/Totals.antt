-- The totals of groups of lines.
use Rattle.std.specs.Prelude.{ℕ, ◌≡◌, ◌+◌, ⊤, Bool, true, false, List, [], ◌∷◌, min, Option, Some, None, Vec, unwrap_or}
use Rattle.std.specs.Prelude.{if◌then◌else◌}
use Rattle.std.specs.BTreeMap.{BTreeMap, get_by}
use Rattle.std.specs.Ordering.{nat_cmp}
use Rattle.std.specs.Cmp.Lexicographic.{slice_cmp}
use Rattle.std.specs.Str.{bytes_eq}
use Rattle.keys_lines.specs.declared.key.Key.{Key}
use Rattle.keys_sums.specs.Amounts.{added_by, AreNumbers}
use Rattle.keys_sums.specs.Sums.{total_added, GREATEST_TOTAL}
use Rattle.keys_sums.specs.declared.addends.Amount.{Amount}
use Rattle.keys_groups.specs.Groups.{lines_in, AreGroups}
use Rattle.keys_totals.specs.declared.grouped.GroupTotal.{GroupTotal}
use Rattle.keys_totals.specs.declared.grouped.GroupTotals.{GroupTotals}

-- the total of what lines add, up to the greatest that is counted
abbrev pub total_of : Amount → (lines : List (List ℕ)) → ℕ
total_of amount lines = min (total_added (added_by amount) lines) GREATEST_TOTAL

-- the total of the group of a name
abbrev pub group_total : (by : Key) → Amount → (lines : List (List ℕ)) → (name : List ℕ) → ℕ
group_total by amount lines name = total_of amount (lines_in by name lines)

-- ---- while lines are read

-- the total of the group of a name, if there is one
abbrev pub total_at : {A : Type 0} → BTreeMap (Vec ℕ A) ℕ → (name : List ℕ) → Option ℕ
total_at totals name = get_by (λ key. slice_cmp nat_cmp name key.items) totals

-- the total of the lines of a group; a group without lines is none
abbrev pub total_if_any : Amount → (lines : List (List ℕ)) → Option ℕ
total_if_any amount [] = None
total_if_any amount (line ∷ lines) = Some (total_of amount (line ∷ lines))

-- each line adds a number, and each group has the total of its own lines
pub record AreTotalled {A : Type 0} (by : Key) (amount : Amount) (lines : List (List ℕ)) (totals : BTreeMap (Vec ℕ A) ℕ) : Type 0 where
  pub numbers : AreNumbers amount lines
  pub own : (name : List ℕ) → total_at totals name ≡ total_if_any amount (lines_in by name lines)

-- a total after a number more, up to the greatest that is counted
abbrev pub total_after : (total number : ℕ) → ℕ
total_after total number = min (total + number) GREATEST_TOTAL

-- the group of this name has this total now, and the others are as they were
abbrev pub SetsTotal : {A : Type 0} → (name : List ℕ) → (total : ℕ) → (old new : BTreeMap (Vec ℕ A) ℕ) → Type 0
SetsTotal name total old new = (other : List ℕ) → total_at new other ≡ (if bytes_eq name other then Some total else total_at old other)

-- the number was added to the total of the group of this name, or there is none and nothing has changed
abbrev pub UpdatesTotal : {A : Type 0} → (name : List ℕ) → (number : ℕ) → (old new : BTreeMap (Vec ℕ A) ℕ) → (found : Bool) → Type 0
UpdatesTotal name number old new true = (total : ℕ) × (total_at old name ≡ Some total) × SetsTotal name (total_after total number) old new
UpdatesTotal name number old new false = (new ≡ old) × (total_at old name ≡ None)

-- the number was added to the total of the group of this name, which was 0 if there was none
abbrev pub AddsTotal : {A : Type 0} → (name : List ℕ) → (number : ℕ) → (old new : BTreeMap (Vec ℕ A) ℕ) → Type 0
AddsTotal name number old new = SetsTotal name (total_after (unwrap_or (total_at old name) 0) number) old new

-- ---- once all lines are read

-- entries are groups of these names, each with its total
abbrev pub AreTotals : {A : Type 0} → (total : List ℕ → ℕ) → (names : List (List ℕ)) → List (Vec ℕ A × ℕ) → Type 0
AreTotals total [] [] = ⊤
AreTotals total (name ∷ names) (entry ∷ entries) = (name ≡ entry.0.items) × (entry.1 ≡ total name) × AreTotals total names entries
AreTotals total [] (entry ∷ entries) = ⊥
AreTotals total (name ∷ names) [] = ⊥

-- the groups that are left have these names and these totals
abbrev pub ListsTotals : (total : List ℕ → ℕ) → (names : List (List ℕ)) → GroupTotals → Type 0
ListsTotals total names totals = AreTotals total names totals.map.entries

-- the first of the groups that were left, with its total, and the others are left now; there is none only if none was left
abbrev pub IsNextTotal : (total : List ℕ → ℕ) → (names : List (List ℕ)) → (new : GroupTotals) → Option GroupTotal → Type 0
IsNextTotal total names new None = names ≡ []
IsNextTotal total names new (Some group) =
    (others : List (List ℕ)) × (names ≡ group.name.items ∷ others) × (group.total ≡ total group.name.items) × ListsTotals total others new

-- these are the groups of lines, each with the total of its own lines
abbrev pub HasTotals : (by : Key) → Amount → (lines : List (List ℕ)) → GroupTotals → Type 0
HasTotals by amount lines totals = (names : List (List ℕ)) × AreGroups by lines names × ListsTotals (group_total by amount lines) names totals

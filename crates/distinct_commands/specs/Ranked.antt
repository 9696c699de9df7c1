-- Groups in the order of the numbers that are printed of them, and the first ones of a list.
use Rattle.std.specs.Prelude.{ℕ, ◌≡◌, ◌==◌, nat_le, Bool, true, false, List, map, take, Option}
use Rattle.std.specs.Option.{option_map_or}
use Rattle.std.specs.List.{All, filter}
use Rattle.std.specs.List.Sorted.{IsPermutation, IsSorted}
use Rattle.std.specs.declared.cmp.Ordering.{Ordering}
use Rattle.std.specs.Ordering.{nat_cmp, ordering_then}
use Rattle.std.specs.Cmp.Lexicographic.{slice_cmp}
use Rattle.distinct_commands.specs.declared.ranked.Ranked.{Ranked}

-- of two groups the one of the greater number is first, and of equal numbers that of the lower name
abbrev pub ranking : (number : ℕ) → (name : List ℕ) → (other_number : ℕ) → (other : List ℕ) → Ordering
ranking number name other_number other = ordering_then (nat_cmp other_number number) (slice_cmp nat_cmp name other)

-- these are the same names in the order of their numbers, the greatest first, and of equal ones in the ascending
-- order of their bytes
abbrev pub AreRanked : (number : List ℕ → ℕ) → (names ordered : List (List ℕ)) → Type 0
AreRanked number names ordered =
    IsPermutation names ordered × IsSorted (λ name other. ranking (number name) name (number other) other) ordered

-- the order of groups
abbrev pub ranked_cmp : Ranked → Ranked → Ordering
ranked_cmp group other = ranking group.number group.name.items other.number other.name.items

-- groups of these names, each with its number and its text
abbrev pub HasTexts : (number : List ℕ → ℕ) → (text : List ℕ → List ℕ) → (names : List (List ℕ)) → List Ranked → Type 0
HasTexts number text names groups =
    (names ≡ map (λ group. group.name.items) groups)
    × All (λ group. (group.number ≡ number group.name.items) × (group.text.items ≡ text group.name.items)) groups

-- whether a number is at least the least one, if there is one
abbrev pub reaches : (least : Option ℕ) → (number : ℕ) → Bool
reaches least number = option_map_or (λ n. nat_le n number) least true

-- the names whose number is
abbrev pub reaching : (least : Option ℕ) → (number : List ℕ → ℕ) → (names : List (List ℕ)) → List (List ℕ)
reaching least number names = filter (λ name. reaches least (number name)) names

-- the first ones, as many as a number says, or all
abbrev pub first_items : {X : Type 0} → (most : Option ℕ) → List X → List X
first_items most xs = option_map_or (λ number. take number xs) most xs

-- whether a number of first ones is 0
abbrev pub is_full : (most : Option ℕ) → Bool
is_full most = option_map_or (λ number. number == 0) most false

-- Groups of several files, joined by their names.
use Rattle.std.specs.Prelude.{ℕ, ◌≡◌, ⊤, Bool, true, false, List, [], ◌∷◌, map, flat_map, Option, Some, None, Vec}
use Rattle.std.specs.Prelude.{if◌then◌else◌}
use Rattle.std.specs.List.{filter, list_all}
use Rattle.std.specs.Option.{option_map_or}
use Rattle.sketch_base.specs.Seed.{seed_hash}
use Rattle.core_compact.specs.CompactState.{Compact, compact_value}
use Rattle.core_laws.specs.Entries.{hash_key, first_hash}
use Rattle.core_laws.specs.Operators.{meet, minus}
use Rattle.theta_sketches.specs.Image.{written}
use Rattle.keys_lines.specs.Lines.{lines_of}
use Rattle.keys_sketches.specs.Keys.{sketch_of_value}
use Rattle.keys_sketches.specs.Shards.{values_of_sketches}
use Rattle.keys_groups.specs.United.{image_line, sketched_text, AreNames, AreUnionSketches}
use Rattle.keys_joins.specs.Tables.{FileGroups, group_at, is_named}
use Rattle.keys_joins.specs.declared.joins.Join.{Join}
use Rattle.keys_joins.specs.declared.joins.Join.TheVariants.{Meet, Minus}

-- the ordered sketches of an intersection and of a difference
abbrev pub intersection_of : (seed : ℕ) → List (Compact ℕ) → Compact ℕ
intersection_of seed sketches = sketch_of_value seed (meet hash_key first_hash (values_of_sketches sketches))

abbrev pub difference_of : (seed : ℕ) → (first second : Compact ℕ) → Compact ℕ
difference_of seed first second = sketch_of_value seed (minus hash_key hash_key (compact_value hash_key first) (compact_value hash_key second))

-- the groups of a text: one for each name in its lines, with the sketch of the union of the images of that name
pub record AreGroupsOf (seed lg_k : ℕ) (text : List ℕ) (file : FileGroups) : Type 0 where
  pub named : AreNames (lines_of text) file.names
  pub united : AreUnionSketches seed lg_k (lines_of text) file.sketch

-- .. of each text
abbrev pub AreGroupsOfEach : (seed lg_k : ℕ) → (texts : List (List ℕ)) → List FileGroups → Type 0
AreGroupsOfEach seed lg_k [] [] = ⊤
AreGroupsOfEach seed lg_k (text ∷ texts) (file ∷ files) = AreGroupsOf seed lg_k text file × AreGroupsOfEach seed lg_k texts files
AreGroupsOfEach seed lg_k [] (file ∷ files) = ⊥
AreGroupsOfEach seed lg_k (text ∷ texts) [] = ⊥

-- whether each of these files has a group of this name
abbrev pub all_have : (files : List FileGroups) → (name : List ℕ) → Bool
all_have files name = list_all (λ file. is_named name file.names) files

-- the names of groups that all files have, in ascending order
abbrev pub common_names : List FileGroups → List (List ℕ)
common_names [] = []
common_names (first ∷ others) = filter (all_have others) first.names

-- the sketches of this name in files
abbrev pub sketches_at : List FileGroups → (name : List ℕ) → List (Compact ℕ)
sketches_at files name = map (λ file. file.sketch name) files

-- the sketch of a group without what the group of its name in the second file has, if there is one
abbrev pub remainder_at : (seed : ℕ) → (first second : FileGroups) → (name : List ℕ) → Compact ℕ
remainder_at seed first second name = option_map_or (difference_of seed (first.sketch name)) (group_at second name) (first.sketch name)

-- a line for each name that all texts have in their lines, in ascending order, with the image of the intersection of the
-- sketches of its groups
abbrev pub IsMeetText : (seed lg_k : ℕ) → (texts : List (List ℕ)) → List ℕ → Type 0
IsMeetText seed lg_k texts out =
    (files : List FileGroups)
    × AreGroupsOfEach seed lg_k texts files
    × (out ≡ sketched_text (λ name. intersection_of seed (sketches_at files name)) (common_names files))

-- a line for each name that the first of two texts has in its lines, in ascending order, with the image of the difference of
-- the sketches of its groups, or of the sketch of its only group
abbrev pub IsMinusText : (seed lg_k : ℕ) → (texts : List (List ℕ)) → List ℕ → Type 0
IsMinusText seed lg_k texts out =
    (first second : FileGroups)
    × AreGroupsOfEach seed lg_k texts (first ∷ second ∷ [])
    × (out ≡ sketched_text (remainder_at seed first second) first.names)

-- ---- one name

-- the sketch of a group without what the group of its name in the first of the other files has
abbrev pub remainder_of : (seed : ℕ) → (first : FileGroups) → (others : List FileGroups) → (name : List ℕ) → Compact ℕ
remainder_of seed first [] name = first.sketch name
remainder_of seed first (second ∷ others) name = remainder_at seed first second name

-- each sketch of a file is of this seed
abbrev pub IsOfSeed : (seed : ℕ) → FileGroups → Type 0
IsOfSeed seed file = (name : List ℕ) → (file.sketch name).seed_hash ≡ seed_hash seed

-- the line of a name in the first of files and the others: no line if the name is none of the result
abbrev pub joined_line : Join → (seed : ℕ) → (first : FileGroups) → (others : List FileGroups) → (name : List ℕ) → List ℕ
joined_line Meet seed first others name =
    if all_have others name then image_line name (written (intersection_of seed (sketches_at (first ∷ others) name))) else []
joined_line Minus seed first others name = image_line name (written (remainder_of seed first others name))

-- the lines of all names
abbrev pub joined_text : Join → (seed : ℕ) → (first : FileGroups) → (others : List FileGroups) → (names : List (List ℕ)) → List ℕ
joined_text join seed first others names = flat_map (joined_line join seed first others) names

-- the sketches of one name in all files, if each has one, of which the first has this sketch
abbrev pub AreAllAt : {A : Type 0} → (others : List FileGroups) → (name : List ℕ) → Compact ℕ → Option (Vec (Compact ℕ) A) → Type 0
AreAllAt others name s None = all_have others name ≡ false
AreAllAt others name s (Some v) = (all_have others name ≡ true) × (v.items ≡ s ∷ sketches_at others name)

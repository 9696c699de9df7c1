-- An index of names.
use Rattle.std.specs.Prelude.{ℕ, ◌≡◌, ◌+◌, ◌*◌, ◌/◌, ◌%◌, ◌^◌, ◌⊎◌, List, [], ◌∷◌, map, Some, Vec, slice_get}
use Rattle.std.specs.List.{IsDistinct}
use Rattle.std.specs.Str.{bytes_eq}
use Rattle.std.specs.BTreeMap.{BTreeMap, get_by}
use Rattle.std.specs.Ordering.{nat_cmp}
use Rattle.std.specs.Cmp.Lexicographic.{slice_cmp}
use Rattle.keys_lines.specs.Keys.{line_hash}
use Rattle.keys_lines.specs.declared.key.Key.TheVariants.{Line}
pub use Rattle.keys_groups.specs.declared.names.Mark.{Mark}
pub use Rattle.keys_groups.specs.declared.names.Level.{Level}
pub use Rattle.keys_groups.specs.declared.names.NameIndex.{NameIndex}

-- the hash of a name
abbrev pub name_hash : List ℕ → ℕ
name_hash name = line_hash (record { key = Line; seed = 0 }) name

-- the low half of a hash
abbrev pub tag_of : (hash : ℕ) → ℕ
tag_of hash = hash % 4294967296

-- the bucket of a hash in a level
abbrev pub bucket_of : Level → (hash : ℕ) → ℕ
bucket_of level hash = (level.from + ((hash / 2 ^ 32) * level.count % 2 ^ 64) / 2 ^ 31) % 2 ^ 64

-- the names of entries
abbrev pub texts_of : {A V : Type 0} → List (Vec ℕ A × V) → List (List ℕ)
texts_of entries = map (λ entry. entry.0.items) entries

-- the mark of a name of this hash and number
abbrev pub mark_of : (hash number : ℕ) → Mark
mark_of hash number = record { tag = tag_of hash; next = number + 1 }

-- a bucket has the mark of this hash and number
abbrev pub HasMark : List (List Mark) → (bucket hash number : ℕ) → Type 0
HasMark buckets bucket hash number =
    (marks : List Mark) × (place : ℕ) × (slice_get buckets bucket ≡ Some marks) × (slice_get marks place ≡ Some (mark_of hash number))

-- one of the buckets of a hash has its mark
abbrev pub IsReachedIn : List (List Mark) → List Level → (hash number : ℕ) → Type 0
IsReachedIn buckets [] hash number = ⊥
IsReachedIn buckets (level ∷ levels) hash number = HasMark buckets (bucket_of level hash) hash number ⊎ IsReachedIn buckets levels hash number

-- the tree has the number of a name
abbrev pub is_named : {A : Type 0} → BTreeMap (Vec ℕ A) ℕ → List ℕ → ℕ → Type 0
is_named others name number = get_by (λ key. slice_cmp nat_cmp name key.items) others ≡ Some number

-- each name of a list is found, with its place in the list as its number
abbrev pub IsIndex : NameIndex → List (List ℕ) → Type 0
IsIndex index names = (number : ℕ) (name : List ℕ) → slice_get names number ≡ Some name →
    IsReachedIn index.buckets.items index.levels.items (name_hash name) number ⊎ is_named index.others name number

-- no two entries have the same name, and an index finds each by its name
pub record AreNamed {A V : Type 0} (index : NameIndex) (entries : List (Vec ℕ A × V)) : Type 0 where
  pub found : IsIndex index (texts_of entries)
  pub distinct : IsDistinct bytes_eq (texts_of entries)

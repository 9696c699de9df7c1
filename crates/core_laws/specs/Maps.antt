-- Maps. A map is the list of its entries, ascending by key.
use Rattle.std.specs.Prelude.{ℕ, ◌<◌, ◌≡◌, ◌==◌, ⊤, List, [], ◌∷◌, ◌++◌, nat_lt, filter, find, count_by, Option}
use Rattle.std.specs.Prelude.{None, ◌+◌, ◌-◌, IsPermutation}
use Rattle.std.specs.List.{AllByRecursion}
use Rattle.std.specs.Option.{option_map_or}

-- each key is below those after it
unfoldable pub IsAscending : {X : Type 0} → (X → ℕ) → List X → Type 0
IsAscending key [] = ⊤
IsAscending key (x ∷ xs) = AllByRecursion (λ y. key x < key y) xs × IsAscending key xs

-- the entries with a key below t
abbrev pub below : {X : Type 0} → (X → ℕ) → List X → ℕ → List X
below key xs t = filter (λ x. nat_lt (key x) t) xs

-- the entries with a key above h
abbrev pub above : {X : Type 0} → (X → ℕ) → List X → ℕ → List X
above key xs h = filter (λ x. nat_lt h (key x)) xs

-- the entry at a key
abbrev pub entry_at : {X : Type 0} → (X → ℕ) → List X → ℕ → Option X
entry_at key xs h = find (λ x. key x == h) xs

-- each key once
abbrev pub IsApart : {X : Type 0} → (X → ℕ) → List X → Type 0
IsApart key [] = ⊤
IsApart key (x ∷ xs) = (entry_at key xs (key x) ≡ None) × IsApart key xs

-- the map with x at its key, in place of any entry there
abbrev pub with_entry : {X : Type 0} → (X → ℕ) → List X → X → List X
with_entry key xs x = below key xs (key x) ++ x ∷ above key xs (key x)

-- the map of entries in any order
abbrev pub map_of : {X : Type 0} → (X → ℕ) → List X → List X
map_of key [] = []
map_of key (x ∷ xs) = with_entry key (map_of key xs) x

-- how many keys are less than h
abbrev pub rank : {X : Type 0} → (X → ℕ) → List X → ℕ → ℕ
rank key xs h = count_by (λ x. nat_lt (key x) h) xs

-- the key with exactly k smaller ones, or t if there is none
abbrev pub key_of_rank : {X : Type 0} → (X → ℕ) → ℕ → List X → ℕ → ℕ
key_of_rank key k xs t = option_map_or key (find (λ x. rank key xs (key x) == k) xs) t

-- the entries of a map in some order, each once
pub record IsListing {X : Type 0} (key : X → ℕ) (entries sequence : List X) : Type 0 where
  pub each_once : IsPermutation entries sequence
  pub apart : IsApart key sequence
  pub same_map : map_of key sequence ≡ entries

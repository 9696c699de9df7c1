-- Entries in slots.
use Rattle.std.specs.Prelude.{ℕ, ◌<◌, ◌≡◌, ◌-◌, ◌^◌, ◌==◌, not, nat_lt, Bool, false, true, Option, Some, None, List}
use Rattle.std.specs.Prelude.{[], ◌∷◌, length, map, get_or, option_map, unwrap_or}
use Rattle.core_laws.specs.Maps.{map_of}
use Rattle.core_slots.specs.Probe.{probe}

-- the entries in the slots, in their order
abbrev pub filled : {X : Type 0} → List (Option X) → List X
filled [] = []
filled (None ∷ slots) = filled slots
filled (Some x ∷ slots) = x ∷ filled slots

-- the entries that slots in memory hold, in the order of the slots; `content` reads a slot
abbrev pub entries_in : {S X : Type 0} → (content : S → Option X) → List S → List X
entries_in content slots = filled (map content slots)

-- the map of the entries that slots in memory hold
abbrev pub slot_map : {S X : Type 0} → (key : X → ℕ) → (content : S → Option X) → List S → List X
slot_map key content slots = map_of key (entries_in content slots)

-- the entry in a slot, if any
abbrev pub slot : {X : Type 0} → List (Option X) → ℕ → Option X
slot slots p = get_or slots p None

-- whether a slot has an entry with another hash
abbrev pub is_other : {X : Type 0} → (X → ℕ) → ℕ → Option X → Bool
is_other key h None = false
is_other key h (Some x) = not (key x == h)

-- whether there is an entry, with a hash less than h
abbrev pub holds_below : {X : Type 0} → (X → ℕ) → (h : ℕ) → Option X → Bool
holds_below key h None = false
holds_below key h (Some x) = nat_lt (key x) h

-- the greatest number of 64 bits, which is above every window of hashes
abbrev pub greatest_word : ℕ
greatest_word = 2 ^ 64 - 1

-- the hash of the entry if there is one, or else the greatest number
abbrev pub hash_or_greatest : {X : Type 0} → (X → ℕ) → Option X → ℕ
hash_or_greatest key o = unwrap_or (option_map key o) greatest_word

-- other hashes are in the first n slots on the path of h
unfoldable pub HasOthers : {X : Type 0} → (X → ℕ) → (lg : ℕ) → List (Option X) → (h n : ℕ) → Type 0
HasOthers key lg slots h n = (i : ℕ) → i < n → is_other key h (slot slots (probe h lg i)) ≡ true

-- the slot p is on the path of h, and only other hashes are before it
pub record IsOnPath {X : Type 0} (key : X → ℕ) (lg : ℕ) (slots : List (Option X)) (h p : ℕ) : Type 0 where
  pub step : ℕ
  pub in_range : step < 2 ^ lg
  pub present : probe h lg step ≡ p
  pub others : HasOthers key lg slots h step

-- each hash is on its path, and only other hashes are before it
pub record IsLaidOut {X : Type 0} (key : X → ℕ) (lg : ℕ) (slots : List (Option X)) : Type 0 where
  pub size : length slots ≡ 2 ^ lg
  pub on_path : (p : ℕ) (x : X) → slot slots p ≡ Some x → IsOnPath key lg slots (key x) p

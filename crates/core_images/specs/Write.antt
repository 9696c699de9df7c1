-- The image of a state, in any family.
use Rattle.std.specs.Prelude.{ℕ, ◌++◌, ◌==◌, List, [], ◌∷◌, length, nat_lt, if◌then◌else◌}
use Rattle.std.specs.Int.{w16, w32, w64, to_le_bytes}
use Rattle.std.specs.List.{flat_map}
use Rattle.core_compact.specs.CompactState.{Compact}
use Rattle.core_laws.specs.declared.TheConstants.{MAX_THETA}

-- how many preamble longs are written
abbrev pub longs_of : {X : Type 0} → Compact X → ℕ
longs_of s = if nat_lt s.theta MAX_THETA then 3 else (if length s.entries == 1 then 1 else 2)

-- the first eight bytes of an image
abbrev pub head : (longs family kind flags seed_hash : ℕ) → List ℕ
head longs family kind flags seed_hash = longs ∷ 3 ∷ family ∷ kind ∷ 0 ∷ flags ∷ to_le_bytes w16 seed_hash

-- a count of entries and four bytes of 0
abbrev pub counted_bytes : (count : ℕ) → List ℕ
counted_bytes count = to_le_bytes w32 count ++ 0 ∷ 0 ∷ 0 ∷ 0 ∷ []

-- the second eight bytes of the image of a state: the number of its entries
abbrev pub counted : {X : Type 0} → Compact X → List ℕ
counted s = counted_bytes (length s.entries)

-- the image of a state, in a family and kind, with each entry's text
abbrev pub written_image : {X : Type 0} → (X → List ℕ) → (family kind : ℕ) → Compact X → List ℕ
written_image text family kind s =
    if s.empty then head 1 family kind 0x1e 0
    else (head (longs_of s) family kind (if s.ordered then 0x1a else 0x0a) s.seed_hash
    ++ (if nat_lt s.theta MAX_THETA then (counted s ++ to_le_bytes w64 s.theta) else (if length s.entries == 1 then [] else counted s))
    ++ flat_map text s.entries)

-- the preamble of that image: the image without the bytes of its entries
abbrev pub written_preamble : {X : Type 0} → (family kind : ℕ) → Compact X → List ℕ
written_preamble family kind s = written_image (λ _. []) family kind s

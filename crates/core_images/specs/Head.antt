-- The head of an image, which is what its preamble says, for each family; and why bytes are no image: the first reason in
-- the order in which these definitions ask.
use Rattle.std.specs.Prelude.{ℕ, ◌+◌, ◌*◌, ◌==◌, ◌&&◌, ◌||◌, ◌≡◌, ◌<◌, ◌≤◌, not, nat_lt, nat_le, Bool, true, false, ⊤}
use Rattle.std.specs.Prelude.{List, length, slice_index, Option, Some, None, Result, Ok, Err, if◌then◌else◌}
use Rattle.core_laws.specs.declared.TheConstants.{MAX_THETA}
use Rattle.core_images.specs.Preamble.{has_bit, is_empty, is_ordered, is_vacant, seed_hash_at, count_at, theta_at, announced}
use Rattle.core_images.specs.declared.preamble.Preamble.{Preamble}
use Rattle.core_images.specs.declared.preamble.ImageLayout.{ImageLayout}
use Rattle.core_images.specs.declared.preamble.ImageLayout.TheVariants.{Empty, Filled}
use Rattle.core_images.specs.declared.head.Head.{Head}
use Rattle.core_images.specs.declared.flaw.Flaw.{Flaw}
use Rattle.core_images.specs.declared.flaw.Flaw.TheVariants.{Short, Family, Version, BigEndian, Malformed, Cut, Seed, Theta, Damaged, Longer}

-- the first bytes of an image: the count of its preamble longs, its version, its family and, of tuples, its sketch type
abbrev pub longs_at : List ℕ → ℕ
longs_at bytes = slice_index bytes 0

abbrev pub version_at : List ℕ → ℕ
version_at bytes = slice_index bytes 1

abbrev pub family_at : List ℕ → ℕ
family_at bytes = slice_index bytes 2

abbrev pub type_at : List ℕ → ℕ
type_at bytes = slice_index bytes 3

-- whether there are 1 to 3 preamble longs
abbrev pub has_longs : List ℕ → Bool
has_longs bytes = nat_le 1 (longs_at bytes) && nat_le (longs_at bytes) 3

-- what the first longs say: a single one means one entry, and fewer than three the greatest theta
abbrev pub preamble_of : List ℕ → (longs : ℕ) → (ordered : Bool) → Preamble
preamble_of bytes longs ordered =
    announced longs (if longs == 1 then 1 else count_at bytes) (if longs == 3 then theta_at bytes else MAX_THETA) ordered

-- the head of an image of the empty sketch, whose seed hash is not checked
abbrev pub vacant : (length : ℕ) → Head
vacant length = record { layout = Empty; seed_hash = None; length = length }

-- the head of an image with this preamble, which asks for a seed hash and has `size` bytes for each entry
abbrev pub filled : (size : ℕ) → Preamble → (seed_hash : Option ℕ) → Head
filled size p seed_hash = record { layout = Filled p; seed_hash = seed_hash; length = p.start + size * p.count }

-- images with flags: the flag of the empty sketch means that nothing else is read
unfoldable pub flagged_head : (size : ℕ) → List ℕ → (longs : ℕ) → Result Head Flaw
flagged_head size bytes longs =
    if is_empty bytes then Ok (vacant 8)
    else if nat_lt (length bytes) (8 * longs) then Err Cut
    else Ok (filled size (preamble_of bytes longs (is_ordered bytes)) (Some (seed_hash_at bytes)))

-- theta images without flags, whose hashes ascend: no hashes at the greatest theta mean the empty sketch
unfoldable pub unflagged_head : List ℕ → (longs : ℕ) → (seed_hash : Option ℕ) → Result Head Flaw
unflagged_head bytes longs seed_hash =
    if nat_lt (length bytes) (8 * longs) then Err Cut
    else if is_vacant (preamble_of bytes longs true) then Ok (vacant (8 * longs))
    else Ok (filled 8 (preamble_of bytes longs true) seed_hash)

-- version 2, in which a single long means the empty sketch
abbrev pub version_2_head : List ℕ → Result Head Flaw
version_2_head bytes =
    if longs_at bytes == 1 then Ok (vacant 8) else unflagged_head bytes (longs_at bytes) (Some (seed_hash_at bytes))

-- theta images; those of version 1 have three longs whatever their first byte is, and no seed hash
unfoldable pub theta_head : List ℕ → Result Head Flaw
theta_head bytes =
    if nat_lt (length bytes) 8 then Err Short
    else if not (family_at bytes == 3) then Err (Family (family_at bytes))
    else if not (nat_le 1 (version_at bytes) && nat_le (version_at bytes) 3) then Err (Version (version_at bytes))
    else if not (has_longs bytes) then Err Malformed
    else if version_at bytes == 3 then flagged_head 8 bytes (longs_at bytes)
    else if version_at bytes == 2 then version_2_head bytes
    else unflagged_head bytes 3 None

-- the versions and the sketch types of tuple images that are read, in any combination
abbrev pub is_tuple_version : ℕ → Bool
is_tuple_version version = version == 3 || version == 1

abbrev pub is_sketch_type : ℕ → Bool
is_sketch_type kind = kind == 1 || kind == 5

-- tuple images, with `size` bytes for each entry
unfoldable pub tuple_head : (size : ℕ) → List ℕ → Result Head Flaw
tuple_head size bytes =
    if nat_lt (length bytes) 8 then Err Short
    else if not (family_at bytes == 9) then Err (Family (family_at bytes))
    else if not (is_tuple_version (version_at bytes)) then Err (Version (version_at bytes))
    else if not (has_longs bytes && is_sketch_type (type_at bytes)) then Err Malformed
    else flagged_head size bytes (longs_at bytes)

-- whether an image that asks for a seed hash may be read under the reader's, h
abbrev pub is_of_seed : (h : ℕ) → (asked : Option ℕ) → Bool
is_of_seed h None = true
is_of_seed h (Some other) = other == h

-- whether the theta of a layout is from 1 to MAX_THETA
abbrev pub has_theta : ImageLayout → Bool
has_theta Empty = true
has_theta (Filled p) = nat_lt 0 p.theta && nat_le p.theta MAX_THETA

-- the layout of an image with this head, of which so many bytes are present, for a reader of the seed hash h, which is not 0
unfoldable pub layout_of : (h present : ℕ) → Result Head Flaw → Result ImageLayout Flaw
layout_of h present (Err flaw) = Err flaw
layout_of h present (Ok head) =
    if nat_lt present head.length then Err Cut
    else if not (nat_lt 0 h && is_of_seed h head.seed_hash) then Err Seed
    else if not (has_theta head.layout) then Err Theta
    else Ok head.layout

-- the bytes have the whole preamble, and its theta is from 1 to MAX_THETA
abbrev pub IsWholeLayout : List ℕ → Result ImageLayout Flaw → Type 0
IsWholeLayout bytes (Err flaw) = ⊤
IsWholeLayout bytes (Ok Empty) = ⊤
IsWholeLayout bytes (Ok (Filled p)) = (p.start ≤ length bytes) × (0 < p.theta) × (p.theta ≤ MAX_THETA)

-- whether bytes are flagged as an image of numbers with the highest byte first: theta images of version 3 and tuple images
-- have flags
abbrev pub is_big_endian : List ℕ → Bool
is_big_endian bytes = nat_le 8 (length bytes) && ((version_at bytes == 3 || family_at bytes == 9) && has_bit bytes 5 1)

-- the flaw that is reported for this one: an image with the highest byte first is named so before what its numbers seem to say
abbrev pub named : (big_endian : Bool) → Flaw → Flaw
named big_endian Short = Short
named big_endian (Family family) = Family family
named big_endian (Version version) = Version version
named big_endian BigEndian = BigEndian
named big_endian Malformed = if big_endian then BigEndian else Malformed
named big_endian Cut = if big_endian then BigEndian else Cut
named big_endian Seed = if big_endian then BigEndian else Seed
named big_endian Theta = if big_endian then BigEndian else Theta
named big_endian Damaged = if big_endian then BigEndian else Damaged
named big_endian Longer = if big_endian then BigEndian else Longer

-- the flaw of bytes with this layout that aren't read: that of the layout, or the entries are damaged
abbrev pub flaw_of_layout : List ℕ → Result ImageLayout Flaw → Flaw
flaw_of_layout bytes (Err flaw) = named (is_big_endian bytes) flaw
flaw_of_layout bytes (Ok layout) = named (is_big_endian bytes) Damaged

-- the length of an image, and the number of its entries
abbrev pub length_of : Result Head Flaw → Option ℕ
length_of (Err flaw) = None
length_of (Ok head) = Some head.length

abbrev pub count_in : ImageLayout → ℕ
count_in Empty = 0
count_in (Filled p) = p.count

abbrev pub count_of : Result Head Flaw → ℕ
count_of (Err flaw) = 0
count_of (Ok head) = count_in head.layout

-- whether bytes follow the image
abbrev pub is_followed : List ℕ → Result Head Flaw → Bool
is_followed bytes (Err flaw) = false
is_followed bytes (Ok head) = nat_lt head.length (length bytes)

-- the flaw of bytes that aren't one image alone, by the preamble: that of the layout, or bytes follow, or the entries are damaged
abbrev pub flaw_behind : (big_endian followed : Bool) → Result ImageLayout Flaw → Flaw
flaw_behind big_endian followed (Err flaw) = named big_endian flaw
flaw_behind big_endian followed (Ok layout) = named big_endian (if followed then Longer else Damaged)

abbrev pub flaw_of_image : List ℕ → (h : ℕ) → Result Head Flaw → Flaw
flaw_of_image bytes h head = flaw_behind (is_big_endian bytes) (is_followed bytes head) (layout_of h (length bytes) head)

-- the layout of a theta image for a reader of the seed hash h, and the flaw of bytes that aren't read as one
abbrev pub theta_layout : (h : ℕ) → List ℕ → Result ImageLayout Flaw
theta_layout h bytes = layout_of h (length bytes) (theta_head bytes)

abbrev pub theta_flaw : (h : ℕ) → List ℕ → Flaw
theta_flaw h bytes = flaw_of_layout bytes (theta_layout h bytes)

-- .. and of a tuple image with at least `size` bytes for each entry
abbrev pub tuple_layout : (size h : ℕ) → List ℕ → Result ImageLayout Flaw
tuple_layout size h bytes = layout_of h (length bytes) (tuple_head size bytes)

abbrev pub tuple_flaw : (size h : ℕ) → List ℕ → Flaw
tuple_flaw size h bytes = flaw_of_layout bytes (tuple_layout size h bytes)

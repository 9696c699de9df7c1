-- Images of theta sketches of whatever seed.
use Rattle.std.specs.Prelude.{ℕ, Bool, List, unwrap_or, if◌then◌else◌, Result, Ok, Err}
use Rattle.core_compact.specs.CompactState.{Compact}
use Rattle.core_images.specs.Head.{theta_head}
use Rattle.core_images.specs.declared.flaw.Flaw.{Flaw}
use Rattle.core_images.specs.declared.head.Head.{Head}
use Rattle.theta_sketches.specs.Image.{Reads}

-- The bytes are the image of the sketch: they are read as it under some seed hash. An image that has a seed hash is read under no other.
abbrev pub IsImageOf : List ℕ → Compact ℕ → Type 0
IsImageOf bytes s = (h : ℕ) × Reads bytes h s

-- the bytes are the image of some sketch
abbrev pub IsOfSomeSeed : List ℕ → Type 0
IsOfSomeSeed bytes = (s : Compact ℕ) × IsImageOf bytes s

-- the bytes are the image of no sketch, of whatever seed
abbrev pub IsOfNoSeed : List ℕ → Type 0
IsOfNoSeed bytes = IsOfSomeSeed bytes → ⊥

-- the seed hash that an image with this head asks for, or this one if it asks for none
abbrev pub asked_hash : (h : ℕ) → Result Head Flaw → ℕ
asked_hash h (Err flaw) = h
asked_hash h (Ok head) = unwrap_or head.seed_hash h

-- the seed hash of a reader of the bytes: of images of whatever seed, or of this seed hash alone
abbrev pub reader_hash : (any_seed : Bool) → (h : ℕ) → List ℕ → ℕ
reader_hash any_seed h bytes = if any_seed then asked_hash h (theta_head bytes) else h

-- Unions of images.
use Rattle.std.specs.Prelude.{ℕ, ◌≡◌, false, List}
use Rattle.sketch_base.specs.Seed.{seed_hash}
use Rattle.core_laws.specs.Entries.{hash_key}
use Rattle.core_laws.specs.declared.TheConstants.{MAX_THETA}
use Rattle.core_operators.specs.Union.{Union, empty_union, union_value}
use Rattle.core_compact.specs.CompactState.{Compact}
use Rattle.theta_sketches.specs.Image.{written}
use Rattle.keys_lines.specs.Keys.{hashing_of}
use Rattle.keys_lines.specs.Lines.{lines_of_all}
use Rattle.keys_lines.specs.declared.key.Key.{Key}
use Rattle.keys_sketches.specs.Keys.{sketch_of_value, image_of_lines, HaveSameLines}
use Rattle.keys_sketches.specs.Shards.{united, values_of_sketches, AreRead, AreImagesOfTexts}

-- a union is ready for images: it hasn't failed, and its sketches are of this seed
pub record IsReady {X P : Type 0} (seed : ℕ) (u : Union X P) : Type 0 where
  pub sound : u.failed ≡ false
  pub seeded : u.seed_hash ≡ seed_hash seed

-- a union of 2^lg_k nominal entries, of this seed, has the value of the union of the sketches in these images
pub record HasUnited {P : Type 0} (seed lg_k : ℕ) (images : List (List ℕ)) (u : Union ℕ P) : Type 0 where
  pub sketches : List (Compact ℕ)
  pub are_read : AreRead seed images sketches
  pub value : union_value hash_key u ≡ united lg_k (values_of_sketches sketches)
  pub made : u ≡ record (empty_union lg_k MAX_THETA (seed_hash seed) u.policy) { empty = u.empty; content = u.content }

-- the image of the union of the sketches in images
abbrev pub IsUnitedImage : (seed lg_k : ℕ) → (images : List (List ℕ)) → List ℕ → Type 0
IsUnitedImage seed lg_k images bytes =
    (sketches : List (Compact ℕ))
    × AreRead seed images sketches
    × (bytes ≡ written (sketch_of_value seed (united lg_k (values_of_sketches sketches))))

-- for images of texts that were sketched apart, by one key, with this seed and at least this lg_k, it is the image of all
-- their lines, in any order
abbrev pub UnitesTexts : (seed lg_k : ℕ) → (images : List (List ℕ)) → List ℕ → Type 0
UnitesTexts seed lg_k images bytes =
    (key : Key) (texts lines : List (List ℕ))
    → AreImagesOfTexts (hashing_of key seed) lg_k images texts
    → HaveSameLines (lines_of_all texts) lines
    → bytes ≡ image_of_lines (hashing_of key seed) lg_k lines

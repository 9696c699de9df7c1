-- Unions of images in batches.
use Rattle.std.specs.Prelude.{ℕ, ◌≡◌, ◌++◌, List}
use Rattle.keys_sketches.specs.Shards.{AreReadBy}

-- a union has united the first of these images, and the sketches that wait were read from the others
pub record HasRead {U S : Type 0} (HasUnited : List (List ℕ) → U → Type 0) (Reads : List ℕ → S → Type 0)
    (images : List (List ℕ)) (u : U) (waiting : List S) : Type 0 where
  pub first : List (List ℕ)
  pub others : List (List ℕ)
  pub parted : images ≡ first ++ others
  pub united : HasUnited first u
  pub are_read : AreReadBy Reads others waiting

-- a union is ready for images, and the sketches that wait were read from some
pub record IsReadyFor {U S : Type 0} (IsReady : U → Type 0) (Reads : List ℕ → S → Type 0) (u : U) (waiting : List S) : Type 0 where
  pub ready : IsReady u
  pub others : List (List ℕ)
  pub are_read : AreReadBy Reads others waiting

-- Calls on batches: theta sketches that are merged into a union together.
use Rattle.std.specs.Prelude.{◌≡◌, ◌++◌, ◌∷◌, ◌⊎◌, ℕ, List, []}
use Rattle.core_compact.specs.CompactState.{Compact}
use Rattle.sketch_base.specs.Seed.{seed_hash}
use Rattle.theta_sketches.specs.Image.{Reads}
use Rattle.theta_sketches.specs.Streams.{value_of}
use Rattle.c_objects.specs.Streams.{IsBatchOfNone, GathersPart, GathersSketch}
use Rattle.c_objects.specs.Thetas.{IsReadRefusal, IsCompactForm}
use Rattle.c_objects.specs.declared.batch.SeededBatch.{SeededBatch}
use Rattle.c_objects.specs.declared.compact.CompactSketch.{CompactSketch}
use Rattle.c_objects.specs.declared.theta.SeededSketch.{SeededSketch}

-- a new batch, without sketches, which reads images under this seed
abbrev pub IsNewBatch : (seed : ℕ) → SeededBatch → Type 0
IsNewBatch seed b = (b.seed ≡ seed) × (b.sketches.items ≡ []) × IsBatchOfNone b.sketches.items

-- a sketch was put behind those of the batch, which has one part more
abbrev pub HasMore : (old new : SeededBatch) → Compact ℕ → Type 0
HasMore old new s =
    (new.seed ≡ old.seed)
    × (new.sketches.items ≡ old.sketches.items ++ s ∷ [])
    × GathersPart (value_of s) old.sketches.items new.sketches.items

-- the batch has the same sketches as before
abbrev pub IsSameBatch : (old new : SeededBatch) → Type 0
IsSameBatch old new = (new.seed ≡ old.seed) × (new.sketches.items ≡ old.sketches.items)

-- the ordered compact form of a sketch that takes updates was put into the batch, with status 0, and so what the sketch was
-- given; or memory was refused, with 3, and the batch has the same sketches as before
abbrev pub AddsSketch : SeededSketch → (old : SeededBatch) → (status : ℕ) → (new : SeededBatch) → Type 0
AddsSketch t old status new =
    ((status ≡ 0)
    × ((s : CompactSketch) × IsCompactForm t s × HasMore old new s.sketch)
    × GathersSketch t.sketch old.sketches.items new.sketches.items)
    ⊎ ((status ≡ 3) × IsSameBatch old new)

-- a copy of a compact sketch was put into the batch, with status 0; or memory was refused, with 3, and the batch has the same
-- sketches as before
abbrev pub AddsCompact : CompactSketch → (old : SeededBatch) → (status : ℕ) → (new : SeededBatch) → Type 0
AddsCompact s old status new = ((status ≡ 0) × HasMore old new s.sketch) ⊎ ((status ≡ 3) × IsSameBatch old new)

-- the sketch that bytes begin with, read under the batch's seed, was put into it, with status 0; or reading was refused, with
-- 2 or 3, or memory, with 3, and the batch has the same sketches as before
abbrev pub AddsImage : (image : List ℕ) → (old : SeededBatch) → (status : ℕ) → (new : SeededBatch) → Type 0
AddsImage image old status new =
    ((status ≡ 0) × ((s : Compact ℕ) × Reads image (seed_hash old.seed) s × HasMore old new s))
    ⊎ (IsReadRefusal image old.seed status × IsSameBatch old new)

-- the batch has no sketches, as when it was new
abbrev pub EmptiesBatch : (old : SeededBatch) → (status : ℕ) → (new : SeededBatch) → Type 0
EmptiesBatch old status new = (status ≡ 0) × IsNewBatch old.seed new

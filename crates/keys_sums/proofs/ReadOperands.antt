-- Sketches of sums read one after another.
use Rattle.std.proofs.Common.{◌≡◌, ℕ, List, [], ◌∷◌, ◌++◌, Option, Some, None, inl, inr}
use Rattle.std.specs.Prelude.{◌⊎◌, IsTrue, true}
use Rattle.sketch_base.specs.declared.error.ErrorKind.TheVariants.{OutOfMemory}
use Rattle.std.specs.List.{AllByRecursion}
use Rattle.sketch_base.specs.Seed.{seed_hash}
use Rattle.sketch_base.specs.declared.error.ErrorKind.{ErrorKind}
use Rattle.core_compact.specs.CompactState.{Compact}
use Rattle.core_slots.specs.declared.entry.TupleEntry.{TupleEntry}
use Rattle.keys_sketches.specs.declared.sketching.ReadError.{ReadError}
use Rattle.keys_sketches.specs.declared.sketching.ReadError.TheVariants as read_error
use Rattle.keys_sums.specs.Operands.{IsReadSumsError}

-- one more sketch of the seed
pub seeded_one_more : (seed : ℕ) (sketches : List (Compact (TupleEntry ℕ))) (s : Compact (TupleEntry ℕ)) → AllByRecursion (λ t. t.seed_hash ≡ seed_hash seed) sketches → s.seed_hash ≡ seed_hash seed → AllByRecursion (λ t. t.seed_hash ≡ seed_hash seed) (sketches ++ s ∷ [])
seeded_one_more seed [] s all one = (one, tt)
seeded_one_more seed (t ∷ ts) s all one = (all.0, seeded_one_more seed ts s all.1 one)

pub read_error_memory : {Fault : Type 0} (kind : ErrorKind) → (◌≡◌ {A = Option ErrorKind} None (Some kind)) ⊎ ((kind ≡ OutOfMemory) × IsTrue true) → IsReadSumsError Fault (read_error.Refused kind)
read_error_memory kind (inl is) = absurd (cc)
read_error_memory kind (inr memory) = inl memory.0

-- .. is one of the images
pub read_error_among : (Fault Among : Type 0) (u : ReadError) → (Fault → Among) → IsReadSumsError Fault u → IsReadSumsError Among u
read_error_among Fault Among (read_error.Refused kind) step (inl memory) = inl memory
read_error_among Fault Among (read_error.Refused kind) step (inr none) = inr (none.0, step none.1)
read_error_among Fault Among (read_error.Failed error) step is = tt

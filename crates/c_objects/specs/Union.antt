-- Calls on unions of theta sketches.
use Rattle.std.specs.Prelude.{◌≡◌, ◌≢◌, ◌⊎◌, ◌^◌, ℕ, List, true, not, None}
use Rattle.sketch_base.specs.Seed.{seed_hash}
use Rattle.sketch_base.specs.declared.error.ErrorKind.{ErrorKind}
use Rattle.core_compact.specs.CompactState.{Compact, IsAnswer, shown_of}
use Rattle.core_laws.specs.Entries.{hash_key}
use Rattle.core_laws.specs.Shown.{Shown, shown_value}
use Rattle.core_laws.specs.Values.{cut_value}
use Rattle.core_operators.specs.Union.{empty_union, union_value, update_refusal, failure, JoinsHashes, UnitesHashes}
use Rattle.core_operators.specs.Union.{IsHashUpdateError, all_empty, update_all_refusal, JoinsAllHashes}
use Rattle.core_operators.specs.Union.{UnitesAllHashes, IsHashUpdateAllError, lower_refusal, lower_allocates, lowered}
use Rattle.theta_sketches.specs.Image.{written}
use Rattle.c_objects.specs.Status.{status_of, IsRefusal}
use Rattle.c_objects.specs.Streams.{IsUnionOfNone, GivesPart, GivesSketch, GivesBatch, GivesLowered, HasUnion, IsReadAs}
use Rattle.c_objects.specs.Thetas.{OfSketch}
use Rattle.c_objects.specs.declared.batch.SeededBatch.{SeededBatch}
use Rattle.c_objects.specs.declared.compact.CompactSketch.{CompactSketch}
use Rattle.c_objects.specs.declared.theta.SeededSketch.{SeededSketch}
use Rattle.c_objects.specs.declared.union.SeededUnion.{SeededUnion}

-- a new union, without sketches, that begins at a theta
abbrev pub IsNewUnion : (lg_k start seed : ℕ) → SeededUnion → Type 0
IsNewUnion lg_k start seed u =
    (u.seed ≡ seed) × (u.union ≡ empty_union lg_k start (seed_hash seed) u.union.policy) × IsUnionOfNone lg_k start u.union

-- a sketch that shows this was merged, with status 0: the union's value is united with the sketch's, and an Empty sketch
-- changes nothing; the union was given one part more
abbrev pub Merges : Shown → (listing : List ℕ) → (old new : SeededUnion) → Type 0
Merges shown listing old new =
    (update_refusal old.union shown ≡ None)
    × (shown.empty ≡ true → new.union ≡ old.union)
    × UnitesHashes old.union new.union shown listing
    × JoinsHashes old.union new.union shown listing
    × (new.union ≡ record old.union { empty = new.union.empty; content = new.union.content })
    × GivesPart (shown_value hash_key shown listing) old.union new.union

-- a sketch was merged; or the union refused it, with 1 for another seed and with 5 if it has failed, and is unchanged; or
-- memory was refused, with 3, and the union has failed
abbrev pub AddsShown : Shown → (listing : List ℕ) → (old : SeededUnion) → (status : ℕ) → (new : SeededUnion) → Type 0
AddsShown shown listing old status new =
    (new.seed ≡ old.seed)
    × (((status ≡ 0) × Merges shown listing old new) ⊎ ((e : ErrorKind) × (status ≡ status_of e) × IsHashUpdateError old.union new.union shown e))

-- a sketch that takes updates was merged, as `AddsShown` says; with status 0 the union was given what the sketch was given
abbrev pub AddsUpdatable : SeededSketch → (old : SeededUnion) → (status : ℕ) → (new : SeededUnion) → Type 0
AddsUpdatable t old status new = OfSketch AddsShown t old status new × (status ≡ 0 → GivesSketch t.sketch old.union new.union)

-- sketches were merged together, with status 0: the union's value is united with all of theirs, as by one update after
-- another, and if all are Empty nothing changes; the union was given what these were given
abbrev pub MergesAll : List (Compact ℕ) → (old new : SeededUnion) → Type 0
MergesAll sketches old new =
    (update_all_refusal old.union (shown_of hash_key) sketches ≡ None)
    × (all_empty (shown_of hash_key) sketches ≡ true → new.union ≡ old.union)
    × UnitesAllHashes old.union new.union (shown_of hash_key) (λ s. s.entries) sketches
    × JoinsAllHashes old.union new.union (shown_of hash_key) (λ s. s.entries) sketches
    × (new.union ≡ record old.union { empty = new.union.empty; content = new.union.content })
    × GivesBatch sketches old.union new.union

-- sketches were merged; or the union refused them, with 1 if one that isn't Empty has another seed and with 5 if it has
-- failed, and is unchanged; or memory was refused, with 3, and the union has failed, or is unchanged
abbrev pub AddsAll : List (Compact ℕ) → (old : SeededUnion) → (status : ℕ) → (new : SeededUnion) → Type 0
AddsAll sketches old status new =
    (new.seed ≡ old.seed)
    × (((status ≡ 0) × MergesAll sketches old new)
    ⊎ (((e : ErrorKind) × (status ≡ status_of e) × IsHashUpdateAllError old.union new.union (shown_of hash_key) sketches e)
    ⊎ ((status ≡ 3) × (new.union ≡ old.union))))

-- the sketches of a batch were merged
abbrev pub AddsBatch : SeededBatch → (old : SeededUnion) → (status : ℕ) → (new : SeededUnion) → Type 0
AddsBatch batch old status new = AddsAll batch.sketches.items old status new

-- an ordered compact sketch of the union's value, with the least hashes of what the union was given; the union hasn't failed
abbrev pub IsValueOf : SeededUnion → Compact ℕ → Type 0
IsValueOf u s =
    (failure u.union.failed ≡ None) × IsAnswer hash_key (union_value hash_key u.union) u.union.seed_hash true s × HasUnion u.union s

-- the union's value as an ordered compact sketch
abbrev pub IsUnionResult : SeededUnion → CompactSketch → Type 0
IsUnionResult u s = IsValueOf u s.sketch

-- the image of the union's value, ordered, which is read as that sketch, and as no other
abbrev pub IsUnionImage : SeededUnion → List ℕ → Type 0
IsUnionImage u image = (s : Compact ℕ) × (image ≡ written s) × IsValueOf u s × IsReadAs image s

-- the refusal of the result: 5 if the union has failed, and otherwise 3
abbrev pub IsResultRefusal : SeededUnion → (status : ℕ) → Type 0
IsResultRefusal u status = IsRefusal (failure u.union.failed) (not u.union.failed) status

-- the union was lowered to 2^lg_k nominal entries, with status 0: its value is cut to those, and it was given nothing; or it
-- refused, with 5 if it has failed, with 1 unless lg_k is from 4 to its own, and with 3, and is unchanged
abbrev pub LowersUnion : (lg_k : ℕ) → (old : SeededUnion) → (status : ℕ) → (new : SeededUnion) → Type 0
LowersUnion lg_k old status new =
    (new.seed ≡ old.seed)
    × (status ≡ 0 → (lower_refusal old.union lg_k ≡ None)
    × (new.union ≡ lowered hash_key lg_k old.union)
    × (union_value hash_key new.union ≡ cut_value hash_key (2 ^ lg_k) (union_value hash_key old.union))
    × GivesLowered lg_k old.union new.union)
    × (status ≢ 0 → IsRefusal (lower_refusal old.union lg_k) (lower_allocates old.union lg_k) status × (new.union ≡ old.union))

-- the union is as when it was new
abbrev pub ResetsUnion : (old : SeededUnion) → (status : ℕ) → (new : SeededUnion) → Type 0
ResetsUnion old status new =
    (status ≡ 0)
    × (new.seed ≡ old.seed)
    × (new.union ≡ empty_union old.union.lg_k old.union.start old.union.seed_hash old.union.policy)
    × IsUnionOfNone old.union.lg_k old.union.start new.union

-- Images of tuple sketches whose summaries are the caller's, of any length: their preambles, and sketches of their keys.
use Rattle.std.specs.Prelude.{ℕ, ◌≡◌, ◌<◌, ◌≤◌, List, length, map, Option, Result, Ok, Err}
use Rattle.sketch_base.specs.Seed.{seed_hash}
use Rattle.core_compact.specs.CompactState.{Compact, IsCompact, empty_compact}
use Rattle.core_images.specs.Entry.{state_after_preamble}
use Rattle.core_images.specs.Head.{tuple_head, tuple_layout, length_of, flaw_of_image}
use Rattle.core_images.specs.Write.{written_preamble}
use Rattle.core_images.specs.declared.flaw.Flaw.{Flaw as ImageFlaw}
use Rattle.core_images.specs.declared.preamble.ImageLayout.{ImageLayout}
use Rattle.core_images.specs.declared.preamble.ImageLayout.TheVariants.{Empty, Filled}
use Rattle.core_laws.specs.Entries.{hash_key}
use Rattle.core_laws.specs.declared.TheConstants.{MAX_THETA}
use Rattle.core_slots.specs.Entry.{tuple_key}
use Rattle.core_slots.specs.declared.entry.TupleEntry.{TupleEntry}
use Rattle.keys_sketches.specs.Header.{file_flaw}
use Rattle.keys_sketches.specs.declared.header.Flaw.{Flaw}
use Rattle.c_objects.specs.Flaws.{IsFinding}
use Rattle.c_objects.specs.Settings.{order_number}
use Rattle.c_objects.specs.Status.{IsUnreadStatus}
use Rattle.c_objects.specs.Thetas.{compact_state}
use Rattle.c_objects.specs.declared.compact.CompactSketch.{CompactSketch}
use Rattle.c_objects.specs.declared.flaws.Finding.{Finding}
use Rattle.c_objects.specs.declared.state.State.{State}

-- the keys of a tuple sketch, as a sketch of hashes
abbrev pub keys_of : {S : Type 0} → Compact (TupleEntry S) → Compact ℕ
keys_of t =
    record { empty = t.empty; entries = map tuple_key t.entries; theta = t.theta; seed_hash = t.seed_hash; ordered = t.ordered }

-- the preamble of the image of a tuple sketch with these keys: that image without the bytes of its entries
abbrev pub tuple_preamble : Compact ℕ → List ℕ
tuple_preamble s = written_preamble 9 1 s

abbrev pub IsTuplePreamble : CompactSketch → List ℕ → Type 0
IsTuplePreamble s bytes = bytes ≡ tuple_preamble s.sketch

-- why bytes are not the image of a tuple sketch of entries of at least eight bytes, by their preamble, and its least length
abbrev pub tuple_flaw_of : (h : ℕ) → List ℕ → Flaw
tuple_flaw_of h bytes = file_flaw (flaw_of_image bytes h (tuple_head 8 bytes)) bytes

abbrev pub least_length : List ℕ → Option ℕ
least_length bytes = length_of (tuple_head 8 bytes)

abbrev pub IsTupleFinding : (bytes : List ℕ) → (seed : ℕ) → Finding → Type 0
IsTupleFinding bytes seed found = IsFinding (tuple_flaw_of (seed_hash seed) bytes) (least_length bytes) found

-- what a layout says of a sketch: its state, its order, and where its entries begin
abbrev pub state_in : ImageLayout → State
state_in Empty = record { retained = 0; theta = MAX_THETA; empty = 1 }
state_in (Filled p) = record { retained = p.count; theta = p.theta; empty = 0 }

abbrev pub order_in : ImageLayout → ℕ
order_in Empty = 1
order_in (Filled p) = order_number p.ordered

abbrev pub start_in : ImageLayout → ℕ
start_in Empty = 8
start_in (Filled p) = p.start

-- what a layout says was written, with status 0; without a layout the status is 2, and nothing is written
abbrev pub WritesHead : Result ImageLayout ImageFlaw
    → (state_before : State)
    → (order_before start_before : ℕ)
    → (status : ℕ)
    → (state : State)
    → (order start : ℕ)
    → Type 0
WritesHead (Ok layout) state_before order_before start_before status state order start =
    (status ≡ 0) × (state ≡ state_in layout) × (order ≡ order_in layout) × (start ≡ start_in layout)
WritesHead (Err flaw) state_before order_before start_before status state order start =
    (status ≡ 2) × (state ≡ state_before) × (order ≡ order_before) × (start ≡ start_before)

-- the same of the preamble of the image of a tuple sketch, for a reader of this seed
abbrev pub WritesTupleHead : (bytes : List ℕ)
    → (seed : ℕ)
    → (state_before : State)
    → (order_before start_before : ℕ)
    → (status : ℕ)
    → (state : State)
    → (order start : ℕ)
    → Type 0
WritesTupleHead bytes seed = WritesHead (tuple_layout 8 (seed_hash seed) bytes)

-- the layout of `count` hashes without a preamble that says this state and order
abbrev pub IsLayoutOf : (state : State) → (order count : ℕ) → ImageLayout → Type 0
IsLayoutOf state order count Empty = (state ≡ state_in Empty) × (order ≡ 1) × (count ≡ 0)
IsLayoutOf state order count (Filled p) =
    (state ≡ state_in (Filled p)) × (order ≡ order_number p.ordered) × (count ≡ p.count) × (p.start ≡ 0) × (0 < p.theta) × (p.theta ≤ MAX_THETA)

-- the sketch of such a layout and of hashes
abbrev pub keys_by : ImageLayout → (h : ℕ) → List ℕ → Compact ℕ
keys_by Empty h hashes = empty_compact h
keys_by (Filled p) h hashes = state_after_preamble p h hashes

-- a layout is that of the image of a tuple sketch: with the sketch's hashes it has the sketch's keys
abbrev pub IsLayoutOfKeys : {S : Type 0} → Result ImageLayout ImageFlaw → (h : ℕ) → Compact (TupleEntry S) → Type 0
IsLayoutOfKeys (Err flaw) h t = ⊥
IsLayoutOfKeys (Ok layout) h t = keys_by layout h (map tuple_key t.entries) ≡ keys_of t

-- no compact sketch of so many hashes has this state and this order
abbrev pub IsNoForm : (state : State) → (order count : ℕ) → Type 0
IsNoForm state order count =
    (s : CompactSketch)
    → IsCompact hash_key s.sketch
    → compact_state s ≡ state
    → order_number s.sketch.ordered ≡ order
    → length s.sketch.entries ≡ count
    → ⊥

-- a sketch of this seed has this state, this order and these hashes
abbrev pub IsFormOf : (state : State) → (order : ℕ) → (hashes : List ℕ) → (seed : ℕ) → CompactSketch → Type 0
IsFormOf state order hashes seed s =
    (compact_state s ≡ state)
    × (order_number s.sketch.ordered ≡ order)
    × (s.sketch.entries ≡ hashes)
    × (s.sketch.seed_hash ≡ seed_hash seed)
    × (0 < seed_hash seed)

-- the refusal: memory, with 3; or no compact sketch has them, with 2
abbrev pub IsFormRefusal : (state : State) → (order : ℕ) → (hashes : List ℕ) → (seed : ℕ) → (status : ℕ) → Type 0
IsFormRefusal state order hashes seed status =
    IsUnreadStatus ((s : CompactSketch) × IsCompact hash_key s.sketch × IsFormOf state order hashes seed s) status

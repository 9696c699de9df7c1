-- The value of a hash table, its laws and its sizes.
use Rattle.std.specs.Prelude.{ℕ, ◌<◌, ◌≤◌, ◌≡◌, ◌==◌, ◌+◌, ◌-◌, ◌*◌, ◌/◌, ◌%◌, ◌^◌, ◌&&◌, ◌||◌, ◌⊎◌, true, false}
use Rattle.std.specs.Prelude.{List, [], nat_lt, nat_le, min, Bool, if◌then◌else◌, Option, length, is_some, IsTrue}
use Rattle.std.specs.Prelude.{Result, IfOk, OnOk, OnErr, IsOk, None}
use Rattle.std.specs.Int.Count.{count_leading_zeros}
use Rattle.std.specs.List.{concat}
use Rattle.sketch_base.specs.Seed.{seed_hash, hash_of}
use Rattle.sketch_base.specs.declared.error.ErrorKind.{ErrorKind}
use Rattle.core_laws.specs.declared.TheConstants.{MAX_THETA, MIN_LG_K, MIN_LG_SLOTS}
use Rattle.core_laws.specs.Cuts.{Retained, cut, none_below, IsRetained}
use Rattle.core_laws.specs.Maps.{entry_at}
use Rattle.core_laws.specs.Entries.{hash_key, hash_step}
use Rattle.core_laws.specs.Insertion.{is_screened, creates, after_upsert, after_upserts, upsert_allocates}
use Rattle.core_laws.specs.Insertion.{RefusesAsStep, RefusesUpsert}
use Rattle.core_laws.specs.Parts.{StopsAt}
use Rattle.core_laws.specs.Refusal.{Refuses}
use Rattle.core_laws.specs.Step.{Step}
use Rattle.core_table.specs.declared.insertion.Counts.{Counts}
use Rattle.core_slots.specs.SlotLayout.{filled, IsLaidOut}

-- what a table retains, and what it was made with: its nominal logarithm, whether it has slots at all, its starting theta,
-- its seed and that seed's hash
pub record MapTable (X : Type 0) : Type 0 where
  pub kept : Retained X
  pub lg_nom : ℕ
  pub has_slots : Bool
  pub start : ℕ
  pub seed : ℕ
  pub seed_hash : ℕ

-- the slots of a table, their binary logarithm, and by how much it grows at once
pub record TableLayout (X : Type 0) : Type 0 where
  pub lg_cur : ℕ
  pub grow : ℕ
  pub slots : List (Option X)

-- what clauses see of a table: its map, its entries in the order in which it returns them, which is unspecified, its slots,
-- and the counts of its work
pub record Table (X : Type 0) : Type 0 where
  pub map : MapTable X
  pub sequence : List X
  pub layout : TableLayout X
  pub counts : Counts

-- a table with no entries and its starting theta
abbrev pub empty_table : {X : Type 0} → (lg_nom start seed : ℕ) → MapTable X
empty_table lg_nom start seed =
    record { kept = none_below start; lg_nom = lg_nom; has_slots = true; start = start; seed = seed; seed_hash = seed_hash seed }

-- a table with no entries below a theta, with slots or without, that starts at the greatest theta
abbrev pub set_table : {X : Type 0} → (lg_nom : ℕ) → (has_slots : Bool) → (theta seed hash : ℕ) → MapTable X
set_table lg_nom has_slots theta seed hash =
    record { kept = none_below theta; lg_nom = lg_nom; has_slots = has_slots; start = MAX_THETA; seed = seed; seed_hash = hash }

-- the sizes that a table of an operator may have: twice as many slots as nominal entries, or no slots and one nominal entry
abbrev pub IsSized : (lg_cur lg_nom : ℕ) → Type 0
IsSized lg_cur lg_nom = (lg_cur ≡ lg_nom + 1) ⊎ ((lg_cur ≡ 0) × (lg_nom ≡ 0))

-- a seed and its hash, which isn't 0
abbrev pub IsSeedHash : (seed hash : ℕ) → Type 0
IsSeedHash seed hash = (hash ≡ seed_hash seed) × (0 < hash)

-- the table after a reset: with no entries and its starting theta
abbrev pub after_reset : {X : Type 0} → MapTable X → MapTable X
after_reset t = record t { kept = none_below t.start }

-- the settings that a table may be made with
pub record IsMadeWith (lg_nom start seed hash : ℕ) : Type 0 where
  pub lg_nom_high : lg_nom ≤ 32
  pub start_low : 0 < start
  pub start_high : start ≤ MAX_THETA
  pub of_seed : hash ≡ seed_hash seed
  pub hash_low : 0 < hash

-- the hash of a key whose bytes are given in pieces, under the seed of a table
abbrev pub key_hash : {X : Type 0} → MapTable X → List (List ℕ) → ℕ
key_hash t pieces = hash_of t.seed (concat pieces)

-- a table after an insertion of a hash
abbrev pub after_insertion : {X : Type 0} → (key : X → ℕ) → (hash : ℕ) → Step X → MapTable X → MapTable X
after_insertion key hash step t = record t { kept = after_upsert key (2 ^ t.lg_nom) hash step t.kept }

-- a table of hashes after an insertion of one
abbrev pub after_hash : (hash : ℕ) → MapTable ℕ → MapTable ℕ
after_hash hash t = after_insertion hash_key hash (hash_step hash) t

-- whether inserting a hash makes an entry
abbrev pub creates_hash : (hash : ℕ) → Retained ℕ → Bool
creates_hash hash v = creates hash_key hash (hash_step hash) v

-- whether inserting a hash may allocate
abbrev pub hash_allocates : (hash : ℕ) → Retained ℕ → Bool
hash_allocates hash v = upsert_allocates hash_key hash (hash_step hash) v

-- a table trimmed to its nominal entries
abbrev pub trimmed_table : {X : Type 0} → (key : X → ℕ) → MapTable X → MapTable X
trimmed_table key t = record t { kept = cut key (2 ^ t.lg_nom) t.kept.entries t.kept.theta }

-- a table cut below a theta and to 2^lg_nom nominal entries
abbrev pub cut_table : {X : Type 0} → (key : X → ℕ) → (lg_nom theta : ℕ) → MapTable X → MapTable X
cut_table key lg_nom theta t = record t { kept = cut key (2 ^ lg_nom) t.kept.entries theta; lg_nom = lg_nom }

-- a table of hashes after more of them were inserted in turn
abbrev pub after_hashes : List ℕ → MapTable ℕ → MapTable ℕ
after_hashes hashes t = record t { kept = after_upserts hash_key (2 ^ t.lg_nom) hash_step hashes t.kept }

-- an insertion of hashes stopped at one that makes an entry, because memory was refused: exactly the hashes before it
-- are inserted
abbrev pub StopsAtMemory : (hashes : List ℕ) → (old new : MapTable ℕ) → Type 0
StopsAtMemory hashes old new = StopsAt hashes (λ front hash. (new ≡ after_hashes front old) × IsTrue (hash_allocates hash new.kept))

-- the laws of every table
pub record IsTable {X : Type 0} (key : X → ℕ) (t : MapTable X) : Type 0 where
  pub kept : IsRetained key t.kept
  pub limited : 8 ≤ 2 ^ t.lg_nom → length t.kept.entries ≤ 15 * 2 ^ t.lg_nom / 8
  pub made : IsMadeWith t.lg_nom t.start t.seed t.seed_hash
  pub without_slots : t.has_slots ≡ false → t.lg_nom ≡ 0

-- the binary logarithm of a number below 2^64, rounded down, and 0 for 0
abbrev pub whole_log : ℕ → ℕ
whole_log n = 63 - count_leading_zeros 64 n

-- the binary logarithm of slots that n entries fill to at most fifteen sixteenths
abbrev pub lg_size_for : ℕ → ℕ
lg_size_for n = if nat_lt (2 ^ (whole_log n + 1) * 15 / 16) n then whole_log n + 2 else whole_log n + 1

-- whether there is room for one more entry: always from sixteen slots on, since they are rebuilt before they are full; with
-- fewer slots, while two are free
abbrev pub has_room : {X : Type 0} → MapTable X → Bool
has_room t = nat_le 3 t.lg_nom || (t.has_slots && nat_lt (length t.kept.entries + 1) (2 ^ (t.lg_nom + 1)))

-- whether a hash may be inserted: it is screened, or retained, or there is room
abbrev pub may_insert : {X : Type 0} → (X → ℕ) → ℕ → MapTable X → Bool
may_insert key h t = is_screened h t.kept.theta || (is_some (entry_at key t.kept.entries h) || has_room t)

-- how many entries the slots may have before they grow or are rebuilt
abbrev pub threshold : (lg_cur lg_nom : ℕ) → ℕ
threshold lg_cur lg_nom = if nat_le lg_cur lg_nom then 2 ^ lg_cur / 2 else 2 ^ lg_cur - 2 ^ lg_cur / 16

-- the binary logarithm of the slots that a table begins with: at least low, and such that growth by `grow` reaches the
-- target
abbrev pub sub_multiple : (target low grow : ℕ) → ℕ
sub_multiple target low grow = if nat_le target low then low else if grow == 0 then target else ((target - low) % grow + low)

-- how many slots the table of an operator has: none if their logarithm is 0
abbrev pub slots_of_operator : ℕ → ℕ
slots_of_operator lg = if lg == 0 then 0 else 2 ^ lg

-- counts that are all 0
abbrev pub nothing_done : Counts
nothing_done = record { inserted = 0; placed = 0; rebuilds = 0; fresh = 0; looks = 0; trims = 0 }

-- 2^lg_cur slots may have count entries, if their logarithm grows by `grow`
pub record HasSize (lg_cur lg_nom grow count : ℕ) : Type 0 where
  pub limited : count ≤ threshold lg_cur lg_nom
  pub room : count < 2 ^ lg_cur
  pub within : lg_cur ≤ lg_nom + 1
  pub nom_high : lg_nom ≤ 32
  pub grow_high : grow ≤ 3
  pub grows : lg_cur ≤ lg_nom → (MIN_LG_SLOTS ≤ lg_cur) × (1 ≤ grow)
  pub starts : MIN_LG_K ≤ lg_nom → sub_multiple (lg_nom + 1) MIN_LG_SLOTS grow ≤ lg_cur

-- the laws of every table in slots
pub record IsSlotted {X : Type 0} (key : X → ℕ) (t : MapTable X) (lg_cur grow count : ℕ) (slots : List (Option X)) : Type 0 where
  pub table : IsTable key t
  pub laid_out : t.has_slots ≡ true → IsLaidOut key lg_cur slots
  pub without : t.has_slots ≡ false → slots ≡ []
  pub counted : count ≡ length (filled slots)
  pub sized : t.has_slots ≡ true → HasSize lg_cur t.lg_nom grow count

-- few entries were placed: before the first rebuild fewer than the slots and twice the entries, and from the first rebuild
-- on at most three times those that were created before the fresh ones
abbrev pub ArePlaced : (lg_cur lg_nom count : ℕ) → Counts → Type 0
ArePlaced lg_cur lg_nom count done =
    ((done.fresh ≡ done.inserted)
    × ((count ≤ done.inserted)
    × ((2 * done.placed ≤ 2 ^ lg_cur + 2 * lg_cur) × (done.placed ≤ 3 * done.inserted))))
    ⊎ ((lg_nom < lg_cur) × (done.placed + 3 * done.fresh ≤ 3 * done.inserted))

-- counts against the retained entries: all beyond the nominal ones are fresh, rebuilds are rare, and few entries were
-- placed if only insertions cut any
pub record CountsAgree (lg_cur lg_nom count : ℕ) (done : Counts) : Type 0 where
  pub fresh : count ≤ 2 ^ lg_nom + done.fresh
  pub rare : 7 * 2 ^ lg_nom * done.rebuilds + 8 * done.fresh ≤ 8 * done.inserted
  pub few_placed : done.trims ≡ 0 → ArePlaced lg_cur lg_nom count done

-- the binary logarithm of the slots after an insertion that creates an entry: greater if they then have more entries than
-- they may and can still grow
abbrev pub size_after : (lg_cur lg_nom grow count : ℕ) → ℕ
size_after lg_cur lg_nom grow count =
    if nat_le (count + 1) (threshold lg_cur lg_nom) then lg_cur
    else if nat_le lg_cur lg_nom then min (lg_cur + grow) (lg_nom + 1)
    else lg_cur

-- how many entries there are after an insertion that creates one: the nominal ones if the slots then have more than they
-- may and cannot grow
abbrev pub count_after : (lg_cur lg_nom count : ℕ) → ℕ
count_after lg_cur lg_nom count =
    if nat_le (count + 1) (threshold lg_cur lg_nom) then count + 1
    else if nat_le lg_cur lg_nom then count + 1
    else 2 ^ lg_nom

-- the counts after an insertion that creates an entry, all but its looks, if the slots have room for it, can grow, or
-- neither: growth places all entries, and a rebuild the nominal ones
abbrev pub ticked_if : (fits grows : Bool) → (nominal count : ℕ) → Counts → Counts
ticked_if true grows nominal count done = record done { inserted = done.inserted + 1; fresh = done.fresh + 1 }
ticked_if false true nominal count done = record done { inserted = done.inserted + 1; fresh = done.fresh + 1; placed = done.placed + (count + 1) }
ticked_if false false nominal count done =
    record done
    { inserted = done.inserted + 1; fresh = 0; placed = done.placed + nominal; rebuilds = done.rebuilds + 1 }

-- the counts after an insertion that creates an entry, all but its looks, by the slots and the entries before it
abbrev pub ticked : (lg_cur lg_nom count : ℕ) → Counts → Counts
ticked lg_cur lg_nom count done = ticked_if (nat_le (count + 1) (threshold lg_cur lg_nom)) (nat_le lg_cur lg_nom) (2 ^ lg_nom) count done

-- the counts of a table after an insertion, all but its looks, by whether the insertion made an entry
abbrev pub counts_after : {X : Type 0} → Table X → (created : Bool) → Counts
counts_after t created = if created then ticked t.layout.lg_cur t.map.lg_nom (length t.map.kept.entries) t.counts else t.counts

-- the binary logarithm of the slots after an insertion, by whether it made an entry
abbrev pub lg_cur_after : {X : Type 0} → Table X → (created : Bool) → ℕ
lg_cur_after t created = if created then size_after t.layout.lg_cur t.map.lg_nom t.layout.grow (length t.map.kept.entries) else t.layout.lg_cur

-- the counts of a table after a trim
abbrev pub counts_after_trim : {X : Type 0} → Table X → Counts
counts_after_trim t =
    if nat_lt (2 ^ t.map.lg_nom) (length t.map.kept.entries)
    then record t.counts { placed = t.counts.placed + 2 ^ t.map.lg_nom; trims = t.counts.trims + 1 }
    else t.counts

-- an insertion counts at most one look for each entry that was there, one more, and n for the nth entry that it places
abbrev pub AreFewLooks : {X : Type 0} → (old new : Table X) → Type 0
AreFewLooks old new =
    2 * new.counts.looks
    ≤ 2 * (old.counts.looks + length old.map.kept.entries + 1) + (new.counts.placed - old.counts.placed) *
    (new.counts.placed - old.counts.placed + 1)

-- an insertion of a hash that isn't screened counts at least one look for its search, and one for each entry that it
-- places
abbrev pub AreEnoughLooks : {X : Type 0} → (hash : ℕ) → (old new : Table X) → Type 0
AreEnoughLooks hash old new =
    is_screened hash old.map.kept.theta ≡ false
    → old.counts.looks + (new.counts.placed - old.counts.placed) < new.counts.looks

-- an insertion of a screened hash counts nothing
abbrev pub IsUncountedIfScreened : {X : Type 0} → (hash : ℕ) → (old new : Table X) → Type 0
IsUncountedIfScreened hash old new = is_screened hash old.map.kept.theta ≡ true → new.counts ≡ old.counts

-- how an insertion of a hash works, by whether it made an entry: what it counts, how the slots grow, and what it leaves as it
-- was if it is refused
pub record Works {X : Type 0} (hash : ℕ) (old : Table X) (result : Result Bool ErrorKind) (new : Table X) : Type 0 where
  pub ticked : IfOk result (λ created. new.counts ≡ record (counts_after old created) { looks = new.counts.looks })
  pub unticked : OnErr result (new.counts ≡ record old.counts { looks = new.counts.looks })
  pub sized : IfOk result (λ created. new.layout.lg_cur ≡ lg_cur_after old created)
  pub grows : new.layout.grow ≡ old.layout.grow
  pub looks : AreFewLooks old new
  pub looked : AreEnoughLooks hash old new
  pub looks_kept : old.counts.looks ≤ new.counts.looks
  pub screened : IsUncountedIfScreened hash old new
  pub layout_err : OnErr result (new.layout ≡ old.layout)

-- a table has fewer entries than its slots may have
abbrev pub IsBelowThreshold : {X : Type 0} → Table X → Type 0
IsBelowThreshold t = length t.map.kept.entries < threshold t.layout.lg_cur t.map.lg_nom

-- below the threshold an insertion is refused only as its step is: for memory only if the step may allocate
abbrev pub RefusesBelowThreshold : {T X : Type 0} → Result T ErrorKind → (key : X → ℕ) → ℕ → Step X → Table X → Type 0
RefusesBelowThreshold r key hash step t = IsBelowThreshold t → RefusesAsStep r key hash step t.map.kept

-- what an insertion of a hash with a step answers, and what it makes of a table's map: whether it made an entry, the map
-- after it, that nothing changes if it is refused, what it is refused for, and that below the threshold it is refused memory
-- only if its step may allocate
pub record Inserts {X : Type 0} (key : X → ℕ) (hash : ℕ) (step : Step X) (old : Table X) (result : Result Bool ErrorKind) (new : Table X) : Type 0 where
  pub ok : IfOk result (λ created. created ≡ creates key hash step old.map.kept)
  pub after : OnOk result (new.map ≡ after_insertion key hash step old.map)
  pub err : OnErr result (new.map ≡ old.map)
  pub refused : RefusesUpsert result key hash step old.map.kept
  pub memory : RefusesBelowThreshold result key hash step old

-- the same of a hash that is its own entry: nothing but memory is refused, and that only to a new hash below theta
pub record InsertsHash (hash : ℕ) (old : Table ℕ) (result : Result Bool ErrorKind) (new : Table ℕ) : Type 0 where
  pub ok : IfOk result (λ created. created ≡ creates_hash hash old.map.kept)
  pub after : OnOk result (new.map ≡ after_hash hash old.map)
  pub err : OnErr result (new.map ≡ old.map)
  pub refused : Refuses result None (hash_allocates hash old.map.kept)
  pub memory : IsBelowThreshold old → IsOk result

-- the laws of every table, its stored threshold and the counts of its work
pub record IsProbing {X : Type 0} (key : X → ℕ) (t : MapTable X) (lg_cur grow most count : ℕ) (slots : List (Option X)) (done : Counts) : Type 0 where
  pub slotted : IsSlotted key t lg_cur grow count slots
  pub bounded : most ≡ (if t.has_slots then threshold lg_cur t.lg_nom else 0)
  pub counted : CountsAgree lg_cur t.lg_nom count done

-- Unions.
use Rattle.std.specs.Prelude.{ℕ, ◌≡◌, ◌==◌, ◌<◌, ◌≤◌, ◌^◌, ◌⊎◌, ◌&&◌, ◌||◌, not, nat_le, nat_lt, Bool, true, false}
use Rattle.std.specs.Prelude.{if◌then◌else◌, Option, Some, None, List, [], ◌∷◌, map, flat_map, filter, min}
use Rattle.std.specs.Prelude.{MatchOption}
use Rattle.std.specs.List.{list_all}
use Rattle.sketch_base.specs.declared.error.ErrorKind.{ErrorKind}
use Rattle.sketch_base.specs.declared.error.ErrorKind.TheVariants.{InvalidArgument, Failed, OutOfMemory, Policy}
use Rattle.core_laws.specs.declared.TheConstants.{MIN_LG_K, MAX_LG_K, MAX_THETA}
use Rattle.core_laws.specs.Cuts.{Retained, retained, cut, none_below}
use Rattle.core_laws.specs.Entries.{hash_key, first_hash}
use Rattle.core_laws.specs.Insertion.{after_upserts}
use Rattle.core_laws.specs.Maps.{below, entry_at}
use Rattle.core_laws.specs.Lawful.{IsWithin}
use Rattle.core_laws.specs.Operators.{joined, least, unite}
use Rattle.core_laws.specs.Parts.{StopsAt}
use Rattle.core_laws.specs.Step.{merge_step}
use Rattle.core_laws.specs.Values.{Sketch, Empty, NonEmpty}
use Rattle.core_laws.specs.Folds.{Fold, Value, fold_key, fold_merges, never, unmarked, unmarked_value}
use Rattle.core_laws.specs.Shown.{Shown, IsShown, shown_value}
use Rattle.core_policies.specs.Summaries.{combined, combine_refused}
use Rattle.core_slots.specs.Entry.{tuple_key}
use Rattle.core_slots.specs.declared.entry.TupleEntry.{TupleEntry}
use Rattle.core_table.specs.HashTable.{MapTable, IsTable}

-- a union: whether it is empty, whether it has failed, its retained entries and theta, its settings and its policy
pub record Union (X P : Type 0) : Type 0 where
  pub empty : Bool
  pub failed : Bool
  pub content : Retained X
  pub lg_k : ℕ
  pub start : ℕ
  pub seed_hash : ℕ
  pub policy : P

-- an empty union
abbrev pub empty_union : {X P : Type 0} → (lg_k start hash : ℕ) → P → Union X P
empty_union lg_k start hash policy =
    record {
      empty = true;
      failed = false;
      content = none_below start;
      lg_k = lg_k;
      start = start;
      seed_hash = hash;
      policy = policy;
    }

-- the value of a union: its retained entries, cut to its nominal entries
abbrev pub union_value : {X P : Type 0} → (X → ℕ) → Union X P → Sketch X
union_value key u = if u.empty then Empty else NonEmpty (cut key (2 ^ u.lg_k) u.content.entries u.content.theta)

-- the invariant of a union: its nominal entries are in range. If it hasn't failed, its theta is at most its start, and
-- if it is also empty, it has no entries and its theta is its start
pub record IsUnion {X P : Type 0} (u : Union X P) : Type 0 where
  pub lg_k_low : MIN_LG_K ≤ u.lg_k
  pub lg_k_high : u.lg_k ≤ MAX_LG_K
  pub theta_high : u.failed ≡ false → u.content.theta ≤ u.start
  pub none_held : u.failed ≡ false → u.empty ≡ true → u.content ≡ none_below u.start

-- a union over a table that meets the laws of tables; its theta is at least 1 and at most its table's
pub record IsUnionOver {X P : Type 0} (key : X → ℕ) (table : MapTable X) (u : Union X P) : Type 0 where
  pub union : IsUnion u
  pub theta_low : 0 < u.content.theta
  pub theta_within : u.content.theta ≤ table.kept.theta
  pub table_sound : IsTable key table

-- the error of an update before anything is merged: a failed union refuses every input; an empty input is not checked;
-- any other of another seed is refused
abbrev pub update_refusal : {X P : Type 0} → Union X P → Shown → Option ErrorKind
update_refusal u s = if u.failed then Some Failed else if s.empty then None else if u.seed_hash == s.seed_hash then None else Some InvalidArgument

-- the error of a failed union
abbrev pub failure : Bool → Option ErrorKind
failure failed = if failed then Some Failed else None

-- the error of lowering a union's nominal entries: a failed union refuses every `lg_k`, any other all but those from
-- `MIN_LG_K` to its own
abbrev pub lower_refusal : {X P : Type 0} → Union X P → (lg_k : ℕ) → Option ErrorKind
lower_refusal u lg_k = if u.failed then Some Failed else if nat_le MIN_LG_K lg_k && nat_le lg_k u.lg_k then None else Some InvalidArgument

-- whether lowering allocates: only if `lg_k` is less than its own and not refused
abbrev pub lower_allocates : {X P : Type 0} → Union X P → (lg_k : ℕ) → Bool
lower_allocates u lg_k = not u.failed && (nat_le MIN_LG_K lg_k && nat_lt lg_k u.lg_k)

-- a union lowered to 2^`lg_k` nominal entries: its retained entries are cut to those. With its own `lg_k` it is unchanged
abbrev pub lowered : {X P : Type 0} → (X → ℕ) → (lg_k : ℕ) → Union X P → Union X P
lowered key lg_k u = if lg_k == u.lg_k then u else record u { content = cut key (2 ^ lg_k) u.content.entries u.content.theta; lg_k = lg_k }

-- a nonempty input was merged: the union retains all of the joined map below some lawful theta, and no mark of a refusal
pub record IsJoined {X P : Type 0} (key : X → ℕ) (merges : X → X → X) (refuses : X → X → Bool) (old new : Union X P)
    (theta : ℕ) (entries : List X) : Type 0 where
  pub whole : (let m = min old.content.theta theta in
      IsWithin (fold_key key) (2 ^ old.lg_k) m (unmarked new.content)
      (joined (fold_key key) (fold_merges key merges refuses) (map Value (below key old.content.entries m))
      (map Value (below key entries m))))
  pub made_with : new ≡ record old { empty = false; content = new.content }

-- the new table has the map of the old one, in folds, after the entries below theta were merged into it one after another
abbrev pub HasMerged : {X : Type 0}
    → (key : X → ℕ)
    → (merges : X → X → X)
    → (refuses : X → X → Bool)
    → (entries : List X)
    → (theta : ℕ)
    → (old new : MapTable X)
    → Type 0
HasMerged key merges refuses entries theta old new =
    unmarked new.kept
    ≡ after_upserts (fold_key key) (2 ^ old.lg_nom) (merge_step (fold_merges key merges refuses) never)
    (map Value (below key entries theta)) (unmarked old.kept)

-- an input that isn't Empty is joined
abbrev pub JoinsShown : {X P : Type 0}
    → (key : X → ℕ)
    → (merges : X → X → X)
    → (refuses : X → X → Bool)
    → (old new : Union X P)
    → Shown
    → List X
    → Type 0
JoinsShown key merges refuses old new s listing = s.empty ≡ false → IsJoined key merges refuses old new s.theta listing

-- the new value is the old one united with that of an input, if that isn't Empty
abbrev pub UnitesShown : {X P : Type 0}
    → (key : X → ℕ)
    → (merges : X → X → X)
    → (refuses : X → X → Bool)
    → (old new : Union X P)
    → Shown
    → List X
    → Type 0
UnitesShown key merges refuses old new s listing =
    s.empty ≡ false
    → unmarked_value (union_value key new)
    ≡ unite (fold_key key) (fold_merges key merges refuses) (2 ^ old.lg_k) old.start
    (unmarked_value (union_value key old) ∷ unmarked_value (shown_value key s listing) ∷ [])

-- a policy refuses the retained and the incoming entry of some key
pub record IsMergeRefused {X : Type 0} (key : X → ℕ) (refuses : X → X → Bool) (content arriving : List X) : Type 0 where
  pub at : ℕ
  pub held_entry : X
  pub new_entry : X
  pub is_held : entry_at key content at ≡ Some held_entry
  pub comes : entry_at key arriving at ≡ Some new_entry
  pub refused : refuses held_entry new_entry ≡ true

-- an error of merges: memory ran out, or the policy refuses to merge a retained entry below a theta with an input's
-- entry of its key
abbrev pub IsMergeRefusal : {X : Type 0}
    → (key : X → ℕ)
    → (refuses : X → X → Bool)
    → (content : List X)
    → (theta : ℕ)
    → (entries : List X)
    → ErrorKind
    → Type 0
IsMergeRefusal key refuses content theta entries kind =
    (kind ≡ OutOfMemory) ⊎ ((kind ≡ Policy) × IsMergeRefused key refuses (below key content theta) entries)

-- a merge broke off: memory ran out, or the policy refused the entries of a key below the least theta; the union has failed
pub record IsBroken {X P : Type 0} (key : X → ℕ) (refuses : X → X → Bool) (old new : Union X P) (s : Shown)
    (entries : List X) (kind : ErrorKind) : Type 0 where
  pub nonempty : s.empty ≡ false
  pub why : (kind ≡ OutOfMemory)
      ⊎ ((kind ≡ Policy)
      × IsMergeRefused key refuses (below key old.content.entries (min old.content.theta s.theta)) entries)
  pub made_with : new ≡ record old { failed = true; content = new.content }

-- an error of an update: that of `update_refusal`, with the union unchanged, or that of a merge that broke off
abbrev pub IsUpdateError : {X P : Type 0} → (key : X → ℕ) → (refuses : X → X → Bool) → (old new : Union X P) → Shown → List X → ErrorKind → Type 0
IsUpdateError key refuses old new s listing e =
    MatchOption (update_refusal old s) (IsBroken key refuses old new s listing e) (λ kind. (e ≡ kind) × (new ≡ old))

-- an input that isn't Empty is joined; a policy combines the summaries
abbrev pub JoinsSummaries : {S P : Type 0} → (combines : S → S → Option S) → (old new : Union (TupleEntry S) P) → Shown → List (TupleEntry S) → Type 0
JoinsSummaries combines old new s listing = JoinsShown tuple_key (combined combines) (combine_refused combines) old new s listing

-- the new value is the old one united with that of an input, if that isn't Empty; a policy combines the summaries
abbrev pub UnitesSummaries : {S P : Type 0}
    → (combines : S → S → Option S)
    → (old new : Union (TupleEntry S) P)
    → Shown
    → List (TupleEntry S)
    → Type 0
UnitesSummaries combines old new s listing = UnitesShown tuple_key (combined combines) (combine_refused combines) old new s listing

-- an input of hashes is joined, if it isn't Empty; no merge is refused
abbrev pub JoinsHashes : {P : Type 0} → (old new : Union ℕ P) → Shown → List ℕ → Type 0
JoinsHashes old new s listing = JoinsShown hash_key first_hash (λ _ _. false) old new s listing

-- the new value is the old one united with that of an input of hashes, if that isn't Empty; these values are not folds
abbrev pub UnitesHashes : {P : Type 0} → (old new : Union ℕ P) → Shown → List ℕ → Type 0
UnitesHashes old new s listing =
    s.empty ≡ false
    → union_value hash_key new
    ≡ unite hash_key first_hash (2 ^ old.lg_k) old.start
    (union_value hash_key old ∷ shown_value hash_key s listing ∷ [])

-- an error of an update with hashes: that of `update_refusal`, with the union unchanged; or memory ran out in a merge of
-- an input that isn't Empty, and the union has failed
abbrev pub IsHashUpdateError : {P : Type 0} → (old new : Union ℕ P) → Shown → ErrorKind → Type 0
IsHashUpdateError old new s e =
    MatchOption (update_refusal old s)
    ((s.empty ≡ false) × (e ≡ OutOfMemory) × (new ≡ record old { failed = true; content = new.content }))
    (λ kind. (e ≡ kind) × (new ≡ old))

-- the entries whose keys are at least `from`
abbrev pub at_or_above : {X : Type 0} → (X → ℕ) → List X → (from : ℕ) → List X
at_or_above key xs from = filter (λ x. nat_le from (key x)) xs

-- the laws of an input: what it shows is lawful, and its entries have the hashes that it shows
pub record IsInput {X : Type 0} (key : X → ℕ) (s : Shown) (listing : List X) : Type 0 where
  pub lawful : IsShown s
  pub hashes : map key listing ≡ s.hashes

-- whether all inputs are Empty
abbrev pub all_empty : {S : Type 0} → (shown : S → Shown) → List S → Bool
all_empty shown sketches = list_all (λ s. (shown s).empty) sketches

-- the least theta of inputs
abbrev pub least_theta : {S : Type 0} → (shown : S → Shown) → List S → ℕ
least_theta shown sketches = least MAX_THETA (map (λ s. (shown s).theta) sketches)

-- whether all inputs that aren't Empty have a seed hash
abbrev pub share_seed : {S : Type 0} → (shown : S → Shown) → (seed_hash : ℕ) → List S → Bool
share_seed shown seed_hash sketches = list_all (λ s. (shown s).empty || seed_hash == (shown s).seed_hash) sketches

-- the error of an update with many inputs before anything is merged
abbrev pub update_all_refusal : {X P S : Type 0} → Union X P → (shown : S → Shown) → List S → Option ErrorKind
update_all_refusal u shown sketches = if u.failed then Some Failed else if share_seed shown u.seed_hash sketches then None else Some InvalidArgument

-- inputs that aren't all Empty are joined: their entries, one input after another, below the least theta. An Empty input
-- has no entries
abbrev pub JoinsAll : {X P S : Type 0}
    → (key : X → ℕ)
    → (merges : X → X → X)
    → (refuses : X → X → Bool)
    → (old new : Union X P)
    → (shown : S → Shown)
    → (listing : S → List X)
    → List S
    → Type 0
JoinsAll key merges refuses old new shown listing sketches =
    all_empty shown sketches ≡ false → IsJoined key merges refuses old new (least_theta shown sketches) (flat_map listing sketches)

-- the new value is the old one united with those of the inputs
abbrev pub UnitesAll : {X P S : Type 0}
    → (key : X → ℕ)
    → (merges : X → X → X)
    → (refuses : X → X → Bool)
    → (old new : Union X P)
    → (shown : S → Shown)
    → (listing : S → List X)
    → List S
    → Type 0
UnitesAll key merges refuses old new shown listing sketches =
    unmarked_value (union_value key new)
    ≡ unite (fold_key key) (fold_merges key merges refuses) (2 ^ old.lg_k) old.start
    (unmarked_value (union_value key old)
    ∷ map (λ s. unmarked_value (shown_value key (shown s) (listing s))) sketches)

-- a policy refuses what a map, in folds, has at some key, and the arriving entry of that key
pub record IsRefusedAt {X : Type 0} (key : X → ℕ) (refuses : X → X → Bool) (held : List (Fold X)) (arriving : List X) : Type 0 where
  pub at : ℕ
  pub held_entry : X
  pub new_entry : X
  pub is_held : entry_at (fold_key key) held at ≡ Some (Value held_entry)
  pub comes : entry_at key arriving at ≡ Some new_entry
  pub refused : refuses held_entry new_entry ≡ true

-- a policy refuses an entry of some input, and what the union and the inputs before it have at its key below theta
abbrev pub IsArrivalRefused : {X : Type 0}
    → (key : X → ℕ)
    → (merges : X → X → X)
    → (refuses : X → X → Bool)
    → (content : List X)
    → (theta : ℕ)
    → (before arriving : List X)
    → Type 0
IsArrivalRefused key merges refuses content theta before arriving =
    IsRefusedAt key refuses
    (joined (fold_key key) (fold_merges key merges refuses) (map Value (below key content theta))
    (map Value (below key before theta))) arriving

-- a policy refuses an entry of some input whose key is from `from` to below `to`, and what a table has at its key after
-- those of the inputs before it
abbrev pub IsRangeRefused : {X : Type 0}
    → (key : X → ℕ)
    → (merges : X → X → X)
    → (refuses : X → X → Bool)
    → (old : MapTable X)
    → (from to : ℕ)
    → (before arriving : List X)
    → Type 0
IsRangeRefused key merges refuses old from to before arriving =
    IsRefusedAt key refuses
    (below (fold_key key)
    (after_upserts (fold_key key) (2 ^ old.lg_nom) (merge_step (fold_merges key merges refuses) never)
    (map Value (below key (at_or_above key before from) to)) (unmarked old.kept)).entries
    to) (at_or_above key arriving from)

-- an error of merges of the entries of many inputs whose keys are from `from` to below `to`
abbrev pub IsRangeRefusal : {X S : Type 0}
    → (key : X → ℕ)
    → (merges : X → X → X)
    → (refuses : X → X → Bool)
    → (old : MapTable X)
    → (from to : ℕ)
    → (listing : S → List X)
    → List S
    → ErrorKind
    → Type 0
IsRangeRefusal key merges refuses old from to listing sketches kind =
    (kind ≡ OutOfMemory)
    ⊎ ((kind ≡ Policy)
    × StopsAt sketches (λ before s.
    IsRangeRefused key merges refuses old from to (flat_map listing before) (listing s)))

-- a table has all of the joined map of its entries and those of inputs, below theta and some lawful theta
abbrev pub HasMergedAll : {X : Type 0}
    → (key : X → ℕ)
    → (merges : X → X → X)
    → (refuses : X → X → Bool)
    → (entries : List X)
    → (theta : ℕ)
    → (old new : MapTable X)
    → Type 0
HasMergedAll key merges refuses entries theta old new =
    IsWithin (fold_key key) (2 ^ old.lg_nom) theta
    (unmarked (retained key new.kept.entries (min theta new.kept.theta)))
    (joined (fold_key key) (fold_merges key merges refuses) (map Value (below key old.kept.entries theta))
    (map Value (below key entries theta)))

-- an error of merges of many inputs: memory ran out, or the policy refused an entry of one of them
abbrev pub IsAllRefusal : {X S : Type 0}
    → (key : X → ℕ)
    → (merges : X → X → X)
    → (refuses : X → X → Bool)
    → (content : List X)
    → (theta : ℕ)
    → (listing : S → List X)
    → List S
    → ErrorKind
    → Type 0
IsAllRefusal key merges refuses content theta listing sketches kind =
    (kind ≡ OutOfMemory)
    ⊎ ((kind ≡ Policy)
    × StopsAt sketches (λ before s.
    IsArrivalRefused key merges refuses content theta (flat_map listing before) (listing s)))

-- merges of many inputs broke off, and the union has failed
pub record IsAllBroken {X P S : Type 0} (key : X → ℕ) (merges : X → X → X) (refuses : X → X → Bool)
    (old new : Union X P) (shown : S → Shown) (listing : S → List X) (sketches : List S) (kind : ErrorKind) : Type 0
  where
    pub nonempty : all_empty shown sketches ≡ false
    pub why : IsAllRefusal key merges refuses old.content.entries (min old.content.theta (least_theta shown sketches)) listing sketches kind
    pub made_with : new ≡ record old { failed = true; content = new.content }

-- an error of an update with many inputs: that of `update_all_refusal`, with the union unchanged, or that of a merge that
-- broke off
abbrev pub IsUpdateAllError : {X P S : Type 0}
    → (key : X → ℕ)
    → (merges : X → X → X)
    → (refuses : X → X → Bool)
    → (old new : Union X P)
    → (shown : S → Shown)
    → (listing : S → List X)
    → List S
    → ErrorKind
    → Type 0
IsUpdateAllError key merges refuses old new shown listing sketches e =
    MatchOption (update_all_refusal old shown sketches)
    (IsAllBroken key merges refuses old new shown listing sketches e) (λ kind. (e ≡ kind) × (new ≡ old))

-- inputs that aren't all Empty are joined; a policy combines the summaries
abbrev pub JoinsAllSummaries : {S P V : Type 0}
    → (combines : S → S → Option S)
    → (old new : Union (TupleEntry S) P)
    → (shown : V → Shown)
    → (listing : V → List (TupleEntry S))
    → List V
    → Type 0
JoinsAllSummaries combines old new shown listing sketches =
    JoinsAll tuple_key (combined combines) (combine_refused combines) old new shown listing sketches

-- the new value is the old one united with those of the inputs; a policy combines the summaries
abbrev pub UnitesAllSummaries : {S P V : Type 0}
    → (combines : S → S → Option S)
    → (old new : Union (TupleEntry S) P)
    → (shown : V → Shown)
    → (listing : V → List (TupleEntry S))
    → List V
    → Type 0
UnitesAllSummaries combines old new shown listing sketches =
    UnitesAll tuple_key (combined combines) (combine_refused combines) old new shown listing sketches

-- inputs of hashes are joined, unless all are Empty; no merge is refused
abbrev pub JoinsAllHashes : {P S : Type 0} → (old new : Union ℕ P) → (shown : S → Shown) → (listing : S → List ℕ) → List S → Type 0
JoinsAllHashes old new shown listing sketches = JoinsAll hash_key first_hash (λ _ _. false) old new shown listing sketches

-- the new value is the old one united with those of the inputs of hashes; these values are not folds
abbrev pub UnitesAllHashes : {P S : Type 0} → (old new : Union ℕ P) → (shown : S → Shown) → (listing : S → List ℕ) → List S → Type 0
UnitesAllHashes old new shown listing sketches =
    union_value hash_key new
    ≡ unite hash_key first_hash (2 ^ old.lg_k) old.start
    (union_value hash_key old ∷ map (λ s. shown_value hash_key (shown s) (listing s)) sketches)

-- an error of an update with many inputs of hashes: that of `update_all_refusal`, with the union unchanged; or memory ran
-- out in a merge, and the union has failed
abbrev pub IsHashUpdateAllError : {P S : Type 0} → (old new : Union ℕ P) → (shown : S → Shown) → List S → ErrorKind → Type 0
IsHashUpdateAllError old new shown sketches e =
    MatchOption (update_all_refusal old shown sketches)
    ((all_empty shown sketches ≡ false)
    × (e ≡ OutOfMemory)
    × (new ≡ record old { failed = true; content = new.content })) (λ kind. (e ≡ kind) × (new ≡ old))

-- Intersections.
use Rattle.std.specs.Prelude.{ℕ, ◌≡◌, ◌==◌, ◌<◌, ◌^◌, ◌||◌, ◌&&◌, ◌⊎◌, not, ⊤, Bool, true, false, if◌then◌else◌}
use Rattle.std.specs.Prelude.{Option, Some, None, List, map, min, option_map, MatchOption}
use Rattle.std.specs.Option.{option_map_or}
use Rattle.sketch_base.specs.Seed.{seed_hash}
use Rattle.sketch_base.specs.declared.error.ErrorKind.{ErrorKind}
use Rattle.sketch_base.specs.declared.error.ErrorKind.TheVariants.{InvalidArgument, OutOfMemory, Policy}
use Rattle.core_laws.specs.declared.TheConstants.{MAX_THETA}
use Rattle.core_operators.specs.declared.intersection.Outcome.{Outcome}
use Rattle.core_operators.specs.declared.intersection.Outcome.TheVariants.{Unbegun, Nothing, Held}
use Rattle.core_compact.specs.CompactState.{Compact, IsAnswer}
use Rattle.core_laws.specs.Cuts.{Retained, IsRetained, none_below}
use Rattle.core_laws.specs.Maps.{below, map_of}
use Rattle.core_laws.specs.Values.{Sketch, Empty, NonEmpty, count_of}
use Rattle.core_laws.specs.Folds.{Value, fold_key, fold_merges, unmarked, unmarked_value}
use Rattle.core_operators.specs.Union.{IsMergeRefused}
use Rattle.core_laws.specs.Shown.{Shown, shown_value}
use Rattle.core_laws.specs.Operators.{common, meet_next, shared}

-- an intersection: its value, if there was an input, its seed hash and its policy
pub record Intersection (X P : Type 0) : Type 0 where
  pub result : Option (Sketch X)
  pub seed_hash : ℕ
  pub policy : P

-- a new intersection
abbrev pub new_intersection : {X P : Type 0} → (hash : ℕ) → P → Intersection X P
new_intersection hash policy = record { result = None; seed_hash = hash; policy = policy }

-- the value of an intersection: by its outcome, and by what it retains
abbrev pub outcome_value : {X : Type 0} → Outcome → Retained X → Option (Sketch X)
outcome_value Unbegun v = None
outcome_value Nothing v = Some Empty
outcome_value Held v = Some (NonEmpty v)

-- whether the value is Empty for good
abbrev pub is_settled_outcome : Outcome → Bool
is_settled_outcome Unbegun = false
is_settled_outcome Nothing = true
is_settled_outcome Held = false

-- whether there was an input
abbrev pub is_begun : Outcome → Bool
is_begun Unbegun = false
is_begun Nothing = true
is_begun Held = true

-- the invariant of an intersection: it has fewer than 2^32 entries
pub record IsIntersection {X P : Type 0} (i : Intersection X P) : Type 0 where
  pub limited : option_map_or count_of i.result 0 < 2 ^ 32

-- an intersection with this value keeps fewer than 2^32 entries, which ascend from 1 to below its theta
pub record IsKeptIn {X P : Type 0} (key : X → ℕ) (kept : Retained X) (i : Intersection X P) : Type 0 where
  pub intersection : IsIntersection i
  pub retained : IsRetained key kept

-- whether the value is Empty for good
abbrev pub is_settled : {X : Type 0} → Option (Sketch X) → Bool
is_settled None = false
is_settled (Some Empty) = true
is_settled (Some (NonEmpty v)) = false

-- the retained entries and theta of a value: no entries and the greatest theta if there is none or it is Empty
abbrev pub content_of : {X : Type 0} → Option (Sketch X) → Retained X
content_of None = none_below MAX_THETA
content_of (Some Empty) = none_below MAX_THETA
content_of (Some (NonEmpty v)) = v

-- the error of creating an intersection or a difference, for a seed whose hash is 0
abbrev pub seed_refusal : (seed : ℕ) → Option ErrorKind
seed_refusal seed = if seed_hash seed == 0 then Some InvalidArgument else None

-- the error of an update before any entry is read: once the intersection is Empty, every input is accepted; an empty
-- input is not checked; any other of another seed is refused
abbrev pub intersect_refusal : {X P : Type 0} → Intersection X P → Shown → Option ErrorKind
intersect_refusal i s = if is_settled i.result || s.empty then None else if i.seed_hash == s.seed_hash then None else Some InvalidArgument

-- the new value is the intersection of the old value and the input's, and no entry of it has a mark
abbrev pub IsMet : {X P : Type 0} → (X → ℕ) → (X → X → X) → (X → X → Bool) → (old new : Intersection X P) → Shown → List X → Type 0
IsMet key merges refuses old new s listing =
    option_map unmarked_value new.result
    ≡ Some
    (meet_next (fold_key key) (fold_merges key merges refuses) (option_map unmarked_value old.result)
    (unmarked_value (shown_value key s listing)))

-- an update broke off: neither the input nor the value is Empty, and memory ran out, or the policy refused the entries
-- of a shared key below the lesser theta
pub record IsCutShort {X : Type 0} (key : X → ℕ) (refuses : X → X → Bool) (old : Option (Sketch X)) (s : Shown)
    (entries : List X) (kind : ErrorKind) : Type 0 where
  pub nonempty : s.empty ≡ false
  pub unsettled : is_settled old ≡ false
  pub why : (kind ≡ OutOfMemory)
      ⊎ ((kind ≡ Policy)
      × IsMergeRefused key refuses (below key (content_of old).entries (min (content_of old).theta s.theta))
      entries)

-- an error of an update, which leaves the intersection unchanged: that of `intersect_refusal`, or that of an update that
-- broke off
abbrev pub IsIntersectError : {X P : Type 0}
    → (key : X → ℕ)
    → (refuses : X → X → Bool)
    → (old new : Intersection X P)
    → Shown
    → List X
    → ErrorKind
    → Type 0
IsIntersectError key refuses old new s listing e =
    (new ≡ old)
    × MatchOption (intersect_refusal old s) (IsCutShort key refuses old.result s listing e) (λ kind. e ≡ kind)

-- a value is that of retained entries met with an input that isn't Empty, in folds
abbrev pub IsMetMap : {X : Type 0}
    → (key : X → ℕ)
    → (merges : X → X → X)
    → (refuses : X → X → Bool)
    → (content : Retained X)
    → (theta : ℕ)
    → (listing : List X)
    → Option (Sketch X)
    → Type 0
IsMetMap key merges refuses content theta listing value =
    option_map unmarked_value value
    ≡ Some
    (meet_next (fold_key key) (fold_merges key merges refuses) (Some (NonEmpty (unmarked content)))
    (NonEmpty (unmarked (record { entries = map_of key listing; theta = theta }))))

-- the arriving entries whose keys retained ones have below theta, in their order, each merged into the retained one
abbrev pub AreSharedFolds : {X : Type 0}
    → (key : X → ℕ)
    → (merges : X → X → X)
    → (refuses : X → X → Bool)
    → (content : List X)
    → (theta : ℕ)
    → (arriving : List X)
    → List X
    → Type 0
AreSharedFolds key merges refuses content theta arriving entries =
    map Value entries ≡ common (fold_key key) (λ y x. fold_merges key merges refuses x y) (map Value arriving) (map Value (below key content theta))

-- an existing entry merged with an incoming one, if they have the same hash; otherwise none
abbrev pub IsSharedFold : {X : Type 0}
    → (key : X → ℕ)
    → (merges : X → X → X)
    → (refuses : X → X → Bool)
    → (existing incoming : X)
    → (same_hash : Bool)
    → Option X
    → Type 0
IsSharedFold key merges refuses existing incoming same_hash entry =
    option_map Value entry ≡ if same_hash then Some (fold_merges key merges refuses (Value existing) (Value incoming)) else None

-- why two entries weren't merged: memory ran out, or they have the same hash and the policy refuses them
abbrev pub IsPairRefusal : {X : Type 0} → (refuses : X → X → Bool) → (existing incoming : X) → (same_hash : Bool) → ErrorKind → Type 0
IsPairRefusal refuses existing incoming same_hash kind =
    (kind ≡ OutOfMemory) ⊎ ((kind ≡ Policy) × (same_hash ≡ true) × (refuses existing incoming ≡ true))

-- an entry merged with the one that was found beside it, if there is one; it is the incoming entry if it arrives, and
-- otherwise the existing one
abbrev pub IsSharedPair : {X : Type 0}
    → (key : X → ℕ)
    → (merges : X → X → X)
    → (refuses : X → X → Bool)
    → (arrives : Bool)
    → (entry : X)
    → (found : Option X)
    → Option X
    → Type 0
IsSharedPair key merges refuses arrives entry found result =
    let folds = fold_merges key merges refuses in
    option_map Value result ≡ option_map (λ other. if arrives then folds (Value other) (Value entry) else folds (Value entry) (Value other)) found

-- the policy refuses an entry and the one that was found beside it
abbrev pub IsRefusedPair : {X : Type 0} → (refuses : X → X → Bool) → (arrives : Bool) → (entry : X) → (found : Option X) → Type 0
IsRefusedPair refuses arrives entry None = ⊥
IsRefusedPair refuses arrives entry (Some other) = (if arrives then refuses other entry else refuses entry other) ≡ true

-- why two entries weren't merged: memory ran out, or the policy refuses them
abbrev pub IsFoundRefusal : {X : Type 0} → (refuses : X → X → Bool) → (arrives : Bool) → (entry : X) → (found : Option X) → ErrorKind → Type 0
IsFoundRefusal refuses arrives entry found kind = (kind ≡ OutOfMemory) ⊎ ((kind ≡ Policy) × IsRefusedPair refuses arrives entry found)

-- whether two maps share no keys, though both have some and theta is the greatest
abbrev pub is_nothing_left : (theta content arriving shared : ℕ) → Bool
is_nothing_left theta content arriving shared = theta == MAX_THETA && (not (content == 0) && (not (arriving == 0) && shared == 0))

-- the result has this value, or there is neither a result nor a value
abbrev pub IsAnswerIfAny : {X : Type 0} → (X → ℕ) → Option (Sketch X) → (hash : ℕ) → (requested : Bool) → Option (Compact X) → Type 0
IsAnswerIfAny key None hash requested None = ⊤
IsAnswerIfAny key None hash requested (Some s) = ⊥
IsAnswerIfAny key (Some v) hash requested None = ⊥
IsAnswerIfAny key (Some v) hash requested (Some s) = IsAnswer key v hash requested s

-- an error of an update with hashes, which leaves the intersection unchanged: that of `intersect_refusal`; or memory ran
-- out, and neither the input nor the value is Empty
abbrev pub IsHashIntersectError : {P : Type 0} → (old new : Intersection ℕ P) → Shown → ErrorKind → Type 0
IsHashIntersectError old new s e =
    (new ≡ old) × MatchOption (intersect_refusal old s) ((s.empty ≡ false) × (is_settled old.result ≡ false) × (e ≡ OutOfMemory)) (λ kind. e ≡ kind)

-- Insertions into a retained map, one and many, and into a whole map.
use Rattle.std.specs.Prelude.{ℕ, ◌≡◌, ◌⊎◌, true, IsSome, ◌==◌, ◌*◌, ◌/◌, ◌&&◌, ◌||◌, not, List, [], nat_lt, nat_le}
use Rattle.std.specs.Prelude.{Bool, if◌then◌else◌, Option, None, length, is_none, is_some, ◌∷◌, Result}
use Rattle.std.specs.Option.{option_map_or}
use Rattle.sketch_base.specs.declared.error.ErrorKind.{ErrorKind}
use Rattle.core_laws.specs.Refusal.{Refuses}
use Rattle.core_laws.specs.Step.{Step}
use Rattle.core_laws.specs.Cuts.{Retained, cut}
use Rattle.core_laws.specs.Maps.{entry_at, with_entry}

-- a hash that a table with this theta screens
abbrev pub is_screened : (h theta : ℕ) → Bool
is_screened h theta = h == 0 || nat_le theta h

-- a map cut to k keys, if they are more than fifteen eighths of k and k is at least 8
unfoldable pub rebuilt : {X : Type 0} → (X → ℕ) → ℕ → List X → ℕ → Retained X
rebuilt key k xs theta = if nat_le 8 k && nat_lt (15 * k / 8) (length xs) then cut key k xs theta else record { entries = xs; theta = theta }

-- h is inserted and no entry has it: the entry that the step makes is inserted
abbrev pub after_absent : {X : Type 0} → (X → ℕ) → ℕ → Step X → Retained X → Retained X
after_absent key k step v = option_map_or (λ x. rebuilt key k (with_entry key v.entries x) v.theta) step.makes v

-- h is inserted: the step writes the entry that has it, or else makes one
unfoldable pub after_upsert : {X : Type 0} → (X → ℕ) → (k h : ℕ) → Step X → Retained X → Retained X
after_upsert key k h step v =
    if is_screened h v.theta then v
    else option_map_or (λ x. record { entries = with_entry key v.entries (step.writes x); theta = v.theta })
    (entry_at key v.entries h) (after_absent key k step v)

-- whether the insertion makes an entry
unfoldable pub creates : {X : Type 0} → (X → ℕ) → ℕ → Step X → Retained X → Bool
creates key h step v = not (is_screened h v.theta) && is_none (entry_at key v.entries h) && is_some step.makes

-- the refusal of an insertion of h: none if it is screened, otherwise that of the step
unfoldable pub upsert_refusal : {X : Type 0} → (X → ℕ) → ℕ → Step X → Retained X → Option ErrorKind
upsert_refusal key h step v =
    if is_screened h v.theta then None
    else option_map_or step.refuses_existing (entry_at key v.entries h) step.refuses_absent

-- whether an insertion of h may take memory: if it makes an entry, or if the step may
unfoldable pub upsert_allocates : {X : Type 0} → (X → ℕ) → ℕ → Step X → Retained X → Bool
upsert_allocates key h step v = not (is_screened h v.theta) && (step.allocates || (is_none (entry_at key v.entries h) && is_some step.makes))

-- whether an insertion of h may take memory for its step alone
abbrev pub step_allocates : {X : Type 0} → ℕ → Step X → Retained X → Bool
step_allocates h step v = not (is_screened h v.theta) && step.allocates

-- an insertion of h refuses what its step refuses, and memory only if it may take some
abbrev pub RefusesUpsert : {T X : Type 0} → Result T ErrorKind → (key : X → ℕ) → ℕ → Step X → Retained X → Type 0
RefusesUpsert r key h step v = Refuses r (upsert_refusal key h step v) (upsert_allocates key h step v)

-- an insertion of h refuses what its step refuses, and memory only if the step may take some
abbrev pub RefusesAsStep : {T X : Type 0} → Result T ErrorKind → (key : X → ℕ) → ℕ → Step X → Retained X → Type 0
RefusesAsStep r key h step v = Refuses r (upsert_refusal key h step v) (step_allocates h step v)

-- the retained map after entries were inserted in turn
abbrev pub after_upserts : {X : Type 0} → (X → ℕ) → ℕ → (X → Step X) → List X → Retained X → Retained X
after_upserts key k step_of [] v = v
after_upserts key k step_of (x ∷ xs) v = after_upserts key k step_of xs (after_upsert key k (key x) (step_of x) v)

-- an insertion of h that leaves an existing entry unchanged would change nothing: h is screened, or it is retained
abbrev pub IsRedundant : {X : Type 0} → (X → ℕ) → Retained X → ℕ → Type 0
IsRedundant key v h = (is_screened h v.theta ≡ true) ⊎ IsSome (entry_at key v.entries h)

-- ys are the xs in their order, without some of those that P holds of
abbrev pub Drops : {X : Type 0} → (X → Type 0) → (xs ys : List X) → Type 0
Drops {X} P [] ys = ys ≡ []
Drops {X} P (x ∷ xs) ys = (P x × Drops P xs ys) ⊎ ((zs : List X) × (ys ≡ x ∷ zs) × Drops P xs zs)

-- a step at h on a whole map, which has no theta
abbrev pub whole_upsert : {X : Type 0} → (X → ℕ) → ℕ → Step X → List X → List X
whole_upsert key h step whole =
    option_map_or (λ x. with_entry key whole (step.writes x)) (entry_at key whole h)
    (option_map_or (λ x. with_entry key whole x) step.makes whole)

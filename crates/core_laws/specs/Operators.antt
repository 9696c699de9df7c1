-- Union, intersection and difference of sketch values.
use Rattle.std.specs.Prelude.{ℕ, ◌≡◌, ◌==◌, ◌&&◌, not, min, Bool, if◌then◌else◌, Option, Some, None, IsSome}
use Rattle.std.specs.Prelude.{is_none, option_map, List, [], ◌∷◌, ◌++◌, map, length, filter, filter_map}
use Rattle.std.specs.List.{AllByRecursion}
use Rattle.std.specs.Option.{option_map_or}
use Rattle.core_laws.specs.declared.TheConstants.{MAX_THETA}
use Rattle.core_laws.specs.Cuts.{Retained, retained, cut}
use Rattle.core_laws.specs.Maps.{entry_at, with_entry, below}
use Rattle.core_laws.specs.Values.{Sketch, Empty, NonEmpty}

-- an entry is merged into a map, combined with the one that the map has at its key
abbrev pub join : {X : Type 0} → (X → ℕ) → (X → X → X) → List X → X → List X
join key merges whole x = with_entry key whole (option_map_or (λ w. merges w x) (entry_at key whole (key x)) x)

-- the entries of a map are merged into another in turn
abbrev pub joined : {X : Type 0} → (X → ℕ) → (X → X → X) → List X → List X → List X
joined key merges whole [] = whole
joined key merges whole (x ∷ xs) = joined key merges (join key merges whole x) xs

-- maps are merged in turn
abbrev pub joined_all : {X : Type 0} → (X → ℕ) → (X → X → X) → List X → List (List X) → List X
joined_all key merges whole [] = whole
joined_all key merges whole (xs ∷ maps) = joined_all key merges (joined key merges whole xs) maps

-- the least of theta and some others
abbrev pub least : ℕ → List ℕ → ℕ
least theta [] = theta
least theta (t ∷ ts) = least (min theta t) ts

-- the values that aren't Empty
abbrev pub nonempties : {X : Type 0} → List (Sketch X) → List (Retained X)
nonempties [] = []
nonempties (Empty ∷ values) = nonempties values
nonempties (NonEmpty v ∷ values) = v ∷ nonempties values

-- the maps merged, and cut to k below the least theta
abbrev pub unite_nonempty : {X : Type 0} → (X → ℕ) → (X → X → X) → (k start : ℕ) → List (Retained X) → Sketch X
unite_nonempty key merges k start [] = Empty
unite_nonempty key merges k start (v ∷ vs) =
    NonEmpty (cut key k (joined_all key merges [] (map (λ u. u.entries) (v ∷ vs))) (least start (map (λ u. u.theta) (v ∷ vs))))

-- the union of values: Empty if all are, otherwise their maps merged in turn and cut to k below the least theta
abbrev pub unite : {X : Type 0} → (X → ℕ) → (X → X → X) → (k start : ℕ) → List (Sketch X) → Sketch X
unite key merges k start values = unite_nonempty key merges k start (nonempties values)

-- the keys that two maps share, with their entries combined
abbrev pub common : {X : Type 0} → (X → ℕ) → (X → X → X) → List X → List X → List X
common key merges xs ys = filter_map (λ x. option_map (λ y. merges x y) (entry_at key ys (key x))) xs

-- the common part of two values, below the lesser theta
abbrev pub shared : {X : Type 0} → (X → ℕ) → (X → X → X) → Retained X → Retained X → Retained X
shared key merges u v = retained key (common key merges u.entries v.entries) (min u.theta v.theta)

-- whether two maps with keys share none although nothing was cut away
abbrev pub is_disjoint : {X : Type 0} → (X → ℕ) → (X → X → X) → Retained X → Retained X → Bool
is_disjoint key merges u v =
    min u.theta v.theta == MAX_THETA && (not (length u.entries == 0) && (not (length v.entries == 0) && length (shared key merges u v).entries == 0))

-- the intersection of a value with others in turn
abbrev pub meet_from : {X : Type 0} → (X → ℕ) → (X → X → X) → Retained X → List (Sketch X) → Sketch X
meet_from key merges u [] = NonEmpty u
meet_from key merges u (Empty ∷ values) = Empty
meet_from key merges u (NonEmpty v ∷ values) = if is_disjoint key merges u v then Empty else meet_from key merges (shared key merges u v) values

-- the intersection of values: Empty if there are none, if one is Empty, or if some first values, uncut, become disjoint
-- (`BecomesDisjoint`); otherwise the common part of all
abbrev pub meet : {X : Type 0} → (X → ℕ) → (X → X → X) → List (Sketch X) → Sketch X
meet key merges [] = Empty
meet key merges (Empty ∷ values) = Empty
meet key merges (NonEmpty v ∷ values) = meet_from key merges v values

-- a key that all these maps have
abbrev pub HaveKey : {X : Type 0} → (X → ℕ) → ℕ → List (Retained X) → Type 0
HaveKey key q values = AllByRecursion (λ v. IsSome (entry_at key v.entries q)) values

-- some first values have no key in common though nothing was cut away: up to a last one they all have the greatest theta,
-- the last has keys, those before it have a key in common, and together with the last they have none
pub record BecomesDisjoint {X : Type 0} (key : X → ℕ) (values : List (Retained X)) : Type 0 where
  pub before : List (Retained X)
  pub last : Retained X
  pub after : List (Retained X)
  pub there : values ≡ before ++ last ∷ after
  pub uncut : AllByRecursion (λ v. v.theta ≡ MAX_THETA) (before ++ last ∷ [])
  pub has_keys : (q : ℕ) × IsSome (entry_at key last.entries q)
  pub shared_before : (q : ℕ) × HaveKey key q before
  pub none_shared : (q : ℕ) → HaveKey key q (before ++ last ∷ []) → ⊥

-- the entries whose keys are not in another map
abbrev pub lacking : {X Y : Type 0} → (X → ℕ) → (Y → ℕ) → List X → List Y → List X
lacking key other xs ys = filter (λ x. is_none (entry_at other ys (key x))) xs

-- a map with no entries and the greatest theta is Empty
abbrev pub unless_nothing : {X : Type 0} → Retained X → Sketch X
unless_nothing v = if length v.entries == 0 && v.theta == MAX_THETA then Empty else NonEmpty v

-- the difference of two values: the entries of the one whose keys the other doesn't have, below the lesser theta
abbrev pub minus : {X Y : Type 0} → (X → ℕ) → (Y → ℕ) → Sketch X → Sketch Y → Sketch X
minus key other Empty b = Empty
minus key other (NonEmpty a) Empty = NonEmpty a
minus key other (NonEmpty a) (NonEmpty b) = unless_nothing (retained key (lacking key other a.entries b.entries) (min a.theta b.theta))

-- the entry that two maps have in common at a key
abbrev pub both : {X : Type 0} → (X → X → X) → Option X → Option X → Option X
both merges None p = None
both merges (Some x) p = option_map (λ y. merges x y) p

-- the entry that many maps have in common at a key
abbrev pub all_have : {X : Type 0} → (X → ℕ) → (X → X → X) → Option X → List (Retained X) → ℕ → Option X
all_have key merges o [] q = o
all_have key merges o (v ∷ vs) q = all_have key merges (both merges o (entry_at key v.entries q)) vs q

-- the value of an intersection after one more input
abbrev pub meet_next : {X : Type 0} → (X → ℕ) → (X → X → X) → Option (Sketch X) → Sketch X → Sketch X
meet_next key merges None v = meet key merges (v ∷ [])
meet_next key merges (Some u) v = meet key merges (u ∷ v ∷ [])

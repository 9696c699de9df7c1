-- Leaves: what a sketch retains after steps, and the whole map of what was added.
use Rattle.std.specs.Prelude.{ℕ, ◌≡◌, Bool, true, false, Some, if◌then◌else◌, List, [], ◌∷◌}
use Rattle.core_laws.specs.Cuts.{Retained, cut, none_below}
use Rattle.core_laws.specs.Entries.{is_carried, hash_key, hash_step}
use Rattle.core_laws.specs.Insertion.{whole_upsert, after_upsert}
use Rattle.core_laws.specs.Values.{Sketch, Empty, NonEmpty}
use Rattle.core_laws.specs.Step.{Step}
use Rattle.core_laws.specs.declared.leaf.LeafStep.{LeafStep}
use Rattle.core_laws.specs.declared.leaf.LeafStep.TheVariants.{Add, Trim, Reset}

-- the retained map after a step; a value is added at a hash by its step
abbrev pub leaf_step : {X V : Type 0} → (X → ℕ) → (ℕ → V → Step X) → (k start : ℕ) → LeafStep V → Retained X → Retained X
leaf_step key step_of k start (Add h x) v = after_upsert key k h (step_of h x) v
leaf_step key step_of k start Trim v = cut key k v.entries v.theta
leaf_step key step_of k start Reset v = none_below start

-- the retained map after steps
abbrev pub leaf_from : {X V : Type 0} → (X → ℕ) → (ℕ → V → Step X) → (k start : ℕ) → List (LeafStep V) → Retained X → Retained X
leaf_from key step_of k start [] v = v
leaf_from key step_of k start (step ∷ steps) v = leaf_from key step_of k start steps (leaf_step key step_of k start step v)

-- whether a sketch is updated after a step: an addition makes it so, and a reset makes it empty again
abbrev pub updated_step : {V : Type 0} → LeafStep V → Bool → Bool
updated_step (Add h x) updated = true
updated_step Trim updated = updated
updated_step Reset updated = false

-- whether it is after steps: something was added since the last reset
abbrev pub is_updated : {V : Type 0} → List (LeafStep V) → Bool → Bool
is_updated [] updated = updated
is_updated (step ∷ steps) updated = is_updated steps (updated_step step updated)

-- the value of a new sketch after steps
abbrev pub leaf : {X V : Type 0} → (X → ℕ) → (ℕ → V → Step X) → (k start : ℕ) → List (LeafStep V) → Sketch X
leaf key step_of k start steps = if is_updated steps false then NonEmpty (leaf_from key step_of k start steps (none_below start)) else Empty

-- a step on the whole map, which has no theta: a carried hash is added
abbrev pub whole_step : {X V : Type 0} → (X → ℕ) → (ℕ → V → Step X) → LeafStep V → List X → List X
whole_step key step_of (Add h x) whole = if is_carried h then whole_upsert key h (step_of h x) whole else whole
whole_step key step_of Trim whole = whole
whole_step key step_of Reset whole = []

-- the whole map after more steps
abbrev pub whole_from : {X V : Type 0} → (X → ℕ) → (ℕ → V → Step X) → List (LeafStep V) → List X → List X
whole_from key step_of [] whole = whole
whole_from key step_of (step ∷ steps) whole = whole_from key step_of steps (whole_step key step_of step whole)

-- the whole map of what was added since the last reset
abbrev pub whole : {X V : Type 0} → (X → ℕ) → (ℕ → V → Step X) → List (LeafStep V) → List X
whole key step_of steps = whole_from key step_of steps []

-- the step of a leaf of hashes, whatever value is added with one
abbrev pub hash_step_of : {V : Type 0} → ℕ → V → Step ℕ
hash_step_of h x = hash_step h

-- the carried hashes that were added since the last reset
abbrev pub added : {V : Type 0} → List (LeafStep V) → List ℕ
added steps = whole hash_key hash_step_of steps

-- the k smallest of a set of hashes below the start, and the theta above them
abbrev pub kmin : (k : ℕ) → List ℕ → (start : ℕ) → Retained ℕ
kmin k hashes start = cut hash_key k hashes start

-- a step of insertions makes and writes entries of the inserted hash
pub record KeepsHashes {X V : Type 0} (key : X → ℕ) (step_of : ℕ → V → Step X) : Type 0 where
  pub writes : (h : ℕ) (x : V) (e : X) → key e ≡ h → key ((step_of h x).writes e) ≡ h
  pub makes : (h : ℕ) (x : V) (e : X) → (step_of h x).makes ≡ Some e → key e ≡ h

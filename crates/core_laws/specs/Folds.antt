-- The contents of a whole map at a key: a value, or the mark that a policy refused one.
use Rattle.std.specs.Prelude.{ℕ, Bool, false, if◌then◌else◌, map, true, Option, Some, None, is_some, option_map, List}
use Rattle.core_laws.specs.Cuts.{Retained}
use Rattle.core_laws.specs.Values.{Sketch, Empty, NonEmpty}
use Rattle.std.specs.List.{list_any}
use Rattle.core_laws.specs.Step.{Step}

-- the fold of a key's values, or the mark that a policy refused one of them
pub data Fold (X : Type 0) : Type 0 where
  Value : X → Fold X
  Refused : ℕ → Fold X

-- the key of a fold, marked or not
abbrev pub fold_key : {X : Type 0} → (X → ℕ) → Fold X → ℕ
fold_key key (Value x) = key x
fold_key key (Refused h) = h

-- a fold combined with an incoming one; a mark stays
abbrev pub fold_merges : {X : Type 0} → (X → ℕ) → (X → X → X) → (X → X → Bool) → Fold X → Fold X → Fold X
fold_merges key merges refuses (Refused h) y = Refused h
fold_merges key merges refuses (Value x) (Refused h) = Refused (key x)
fold_merges key merges refuses (Value x) (Value y) = if refuses x y then Refused (key x) else Value (merges x y)

-- a retained map as folds, none of them a mark
abbrev pub unmarked : {X : Type 0} → Retained X → Retained (Fold X)
unmarked v = record { entries = map Value v.entries; theta = v.theta }

-- a value as folds, none of them a mark
abbrev pub unmarked_value : {X : Type 0} → Sketch X → Sketch (Fold X)
unmarked_value Empty = Empty
unmarked_value (NonEmpty v) = NonEmpty (unmarked v)

-- a policy that refuses nothing
abbrev pub never : {X : Type 0} → X → X → Bool
never x y = false

-- a fold after a step writes it
abbrev pub fold_writes : {X : Type 0} → (X → ℕ) → Step X → Fold X → Fold X
fold_writes key step (Value x) = if is_some (step.refuses_existing x) then Refused (key x) else Value (step.writes x)
fold_writes key step (Refused h) = Refused h

-- the fold that a step at a hash makes if there is none
abbrev pub fold_makes : {X : Type 0} → ℕ → Step X → Option (Fold X)
fold_makes h step = if is_some step.refuses_absent then Some (Refused h) else option_map Value step.makes

-- a step at a hash, on folds
abbrev pub folded : {X : Type 0} → (X → ℕ) → ℕ → Step X → Step (Fold X)
folded key h step = record {
  writes = fold_writes key step;
  refuses_existing = λ _. None;
  makes = fold_makes h step;
  refuses_absent = None;
  allocates = step.allocates;
}

-- the steps of a leaf, on folds
abbrev pub folded_of : {X V : Type 0} → (X → ℕ) → (ℕ → V → Step X) → ℕ → V → Step (Fold X)
folded_of key step_of h x = folded key h (step_of h x)

-- a fold that is a mark
abbrev pub is_mark : {X : Type 0} → Fold X → Bool
is_mark (Value x) = false
is_mark (Refused h) = true

-- whether a whole map has a mark
abbrev pub has_mark : {X : Type 0} → List (Fold X) → Bool
has_mark whole = list_any is_mark whole

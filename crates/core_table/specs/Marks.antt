-- Which of the next slots hold an entry, or one below a bound.
use Rattle.std.specs.Prelude.{ℕ, ◌≡◌, ◌≤◌, is_some, nat_lt, if◌then◌else◌, Option, None, Some, List, length, map, take}
use Rattle.std.specs.Simd.Lanes.{mask_l}

-- bit k of the marks is 1 exactly if the k-th of the first `ahead` slots holds an entry
pub record AreMarked {X : Type 0} (slots : List (Option X)) (ahead marks : ℕ) : Type 0 where
  pub limited : ahead ≤ 64
  pub within : ahead ≤ length slots
  pub reported : marks ≡ mask_l (map is_some (take ahead slots))

-- an entry, if its hash is below theta
abbrev pub only_below : {X : Type 0} → (X → ℕ) → (theta : ℕ) → Option X → Option X
only_below key theta None = None
only_below key theta (Some x) = if nat_lt (key x) theta then Some x else None

-- the entry of a slot below a bound, or any entry if there is no bound
abbrev pub under : {S X : Type 0} → (X → ℕ) → (bound : Option ℕ) → (S → Option X) → S → Option X
under key None content = content
under key (Some theta) content = λ s. only_below key theta (content s)

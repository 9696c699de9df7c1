-- Sketches and unions against the whole map of what they were given: it has every entry, and no theta.
use Rattle.std.specs.Prelude.{ℕ, ◌≡◌, ◌<◌, ◌≤◌, ◌^◌, true, List, []}
use Rattle.std.specs.List.{AllByRecursion}
use Rattle.core_laws.specs.declared.TheConstants.{MAX_THETA}
use Rattle.core_laws.specs.Lawful.{IsWithin}
use Rattle.core_laws.specs.Samples.{IsSample, IsLawfulValue}
use Rattle.core_laws.specs.Values.{Sketch, cut_value}
use Rattle.core_operators.specs.Union.{Union, union_value}
use Rattle.core_state.specs.Updatable.{Updatable}
use Rattle.core_table.specs.HashTable.{empty_table}

-- a value has all of a whole map below its theta, and this theta is lawful for k and the start
pub record IsPart {X : Type 0} (key : X → ℕ) (k start : ℕ) (value : Sketch X) (whole : List X) : Type 0 where
  pub sample : IsSample key value whole
  pub lawful : IsLawfulValue key k start value whole

-- a sketch with these settings was given this whole map, and nothing else
pub record IsSketchOfMap {X : Type 0} (key : X → ℕ) (lg_k start seed : ℕ) (s : Updatable X) (whole : List X) : Type 0 where
  pub made_with : s.map ≡ record (empty_table lg_k start seed) { kept = s.map.kept }
  pub start_high : start ≤ MAX_THETA
  pub carried : AllByRecursion (λ x. key x < MAX_THETA) whole
  pub kept : IsWithin key (2 ^ lg_k) start s.map.kept whole
  pub none : s.empty ≡ true → whole ≡ []

-- a union of 2^lg_k nominal entries was given parts of this whole map, lawful for k and the start, and nothing else; k
-- is at most its nominal entries, its own start at least this start, and its value has no more than its nominal entries
pub record IsUnionOfMap {X P : Type 0} (key : X → ℕ) (lg_k k start : ℕ) (u : Union X P) (whole : List X) : Type 0 where
  pub nominal : u.lg_k ≡ lg_k
  pub enough : k ≤ 2 ^ lg_k
  pub starts : start ≤ u.start
  pub no_more : cut_value key (2 ^ lg_k) (union_value key u) ≡ union_value key u
  pub part : IsPart key k start (union_value key u) whole

use Rattle.std.proofs.Common.{ℕ, List, ◌≡◌, ◌+◌, ◌*◌, ◌≤◌, length, map, take}
use Rattle.core_operators.proofs.DifferenceEntries.{IsSifting, to_keep}
use Rattle.core_operators.proofs.scan.sift.Given as goal

-- the entries kept so far, and how far both lists are read
pub record Sifting {X Y R : Type 0} (key : X → ℕ) (other : Y → ℕ) (theta : ℕ) (at : R → X) (entries left : List X) (others others_left : List Y) (kept : List R) (count before compared : ℕ) : Type 0 where
  pub so_far : IsSifting key other theta (to_keep key other theta entries others) left others_left (map at (take count kept))
  pub room : length kept ≡ 64
  pub limited : count ≤ 64
  pub fewer : count + length left ≤ length entries
  pub some : length entries + length others + 2 * before ≤ length left + length others_left + 2 * compared
  pub few : compared + length left + length others_left ≤ before + length entries + length others

abbrev pub invariant-loop-count : goal.invariant-loop-count
invariant-loop-count g l = Sifting g.E.SketchEntry.key g.F.SketchEntry.key l.theta (λ r. r.now) l.initial.left l.left l.initial.others_left l.others_left l.kept l.count l.initial.compared l.compared

-- each comparison skips the first of at least one list
abbrev pub decreases-loop-count : goal.decreases-loop-count
decreases-loop-count g l = length l.left + length l.others_left

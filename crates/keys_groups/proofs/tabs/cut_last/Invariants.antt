use Rattle.std.proofs.Common.{ℕ, ◌≡◌, List, ◌++◌, false, length}
use Rattle.keys_groups.specs.Tabs.{has_tab}
use Rattle.keys_groups.proofs.tabs.cut_last.Given as goal

-- the bytes behind those that are left have no tab
abbrev pub invariant-loop-last : goal.invariant-loop-last
invariant-loop-last l = (seen : List ℕ) × (l.line ≡ l.left ++ seen) × (has_tab seen ≡ false)

abbrev pub decreases-loop-last : goal.decreases-loop-last
decreases-loop-last l = length l.left

use Rattle.std.proofs.Common.{◌≡◌, ◌++◌, length}
use Rattle.std.specs.Prelude.{flat_map}
use Rattle.keys_groups.specs.Files.{spelled, file_stem}
use Rattle.keys_groups.proofs.files.file_name.Given as goal

-- the spelled bytes, followed by those that are left, are the whole name
abbrev pub invariant-loop-byte : goal.invariant-loop-byte
invariant-loop-byte l = file_stem l.name ≡ l.text.items ++ flat_map spelled l.left

abbrev pub decreases-loop-byte : goal.decreases-loop-byte
decreases-loop-byte l = length l.left

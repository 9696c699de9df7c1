use Rattle.std.proofs.Common.{ℕ, ◌≡◌, List, ◌++◌}
use Rattle.keys_groups.specs.Groups.{AreLeft}
use Rattle.keys_groups.specs.Files.{contents_of, files_of}
use Rattle.keys_groups.specs.declared.groups.Grouping.{Grouping}
use Rattle.keys_groups.proofs.files.files_of.Given as goal

-- the files so far, followed by those of the groups that are left, are all files
abbrev pub invariant-loop : goal.invariant-loop
invariant-loop l = (grouping : Grouping) (lines names : List (List ℕ)) → AreLeft grouping lines names l.fn.groups →
    (left : List (List ℕ)) × AreLeft grouping lines left l.groups × (files_of l.hex grouping lines names ≡ contents_of l.files.items ++ files_of l.hex grouping lines left)

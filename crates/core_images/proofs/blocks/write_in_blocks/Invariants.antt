use Rattle.std.proofs.Common.{◌≡◌, ◌++◌, length}
use Rattle.std.specs.List.{AllByRecursion, flat_map}
use Rattle.core_images.proofs.blocks.write_in_blocks.Given as goal

-- the bytes of all entries but the rest are appended, and these entries are values
abbrev pub invariant-loop-rest : goal.invariant-loop-rest
invariant-loop-rest g l =
    let fixed = g.E.FixedEntry in
    let values = AllByRecursion fixed.is_value in
    (l.bytes.bytes ++ flat_map fixed.text l.rest ≡ l.initial.bytes.bytes ++ flat_map fixed.text l.entries) × (values l.rest → values l.entries)

abbrev pub decreases-loop-rest : goal.decreases-loop-rest
decreases-loop-rest g l = length l.rest

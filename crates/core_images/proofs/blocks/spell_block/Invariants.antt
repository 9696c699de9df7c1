use Rattle.std.proofs.Common.{◌≡◌, length, take, map}
use Rattle.std.specs.List.{AllByRecursion}
use Rattle.core_images.proofs.blocks.spell_block.Given as goal

-- the texts so far; their entries are values
abbrev pub invariant-loop-at : goal.invariant-loop-at
invariant-loop-at g l = (length l.texts ≡ 256) × (take l.at l.texts ≡ map g.E.FixedEntry.text (take l.at l.block)) × AllByRecursion g.E.FixedEntry.is_value (take l.at l.block)

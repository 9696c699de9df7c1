use Rattle.std.proofs.Common.{◌≡◌, ◌&&◌, ◌++◌, ℕ, List, drop, map}
use Rattle.core_images.specs.Check.{ascends_from}
use Rattle.core_images.proofs.blocks.compare_block.Given as goal

-- the rest ascends from the last hash, and all before it ascended, exactly if all ascend from the hash before the block
abbrev pub invariant-loop-text : goal.invariant-loop-text
invariant-loop-text g l =
    let key = λ (text : List ℕ). g.E.SketchEntry.key (g.E.FixedEntry.entry_of text) in
    (others : List ℕ) → (l.ascends && ascends_from l.last (map key (drop l.text-index l.block) ++ others)) ≡ ascends_from l.before (map key l.block ++ others)

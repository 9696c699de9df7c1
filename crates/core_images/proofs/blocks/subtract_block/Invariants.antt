use Rattle.std.proofs.Common.{◌≡◌, ◌<◌, ◌≤◌, ◌++◌, ℕ, List, drop, map}
use Rattle.core_images.specs.Check.{ascends_from}
use Rattle.core_laws.specs.declared.TheConstants.{MAX_THETA}
use Rattle.core_images.proofs.blocks.subtract_block.Given as goal

-- if no difference so far lacks the highest bit, and no hash has it, all ascend exactly if the rest does from the last hash
abbrev pub invariant-loop-text : goal.invariant-loop-text
invariant-loop-text g l =
    let key = λ (text : List ℕ). g.E.SketchEntry.key (g.E.FixedEntry.entry_of text) in
    (MAX_THETA < l.differences → l.hashes ≤ MAX_THETA → (others : List ℕ) → ascends_from l.last (map key (drop l.text-index l.block) ++ others) ≡ ascends_from l.before (map key l.block ++ others)) × (l.last ≤ l.hashes)

use Rattle.std.proofs.Common.{◌≡◌, ◌&&◌, ◌++◌, ℕ, List, length, map}
use Rattle.core_images.specs.Check.{ascends_from}
use Rattle.core_images.proofs.blocks.read_and_compare_in_blocks.Given as goal

-- the entries of all texts but the rest are read, and all ascend exactly if these do and the rest does from the last hash
abbrev pub invariant-loop-rest : goal.invariant-loop-rest
invariant-loop-rest g l =
    let key = λ (text : List ℕ). g.E.SketchEntry.key (g.E.FixedEntry.entry_of text) in
    (l.entries.items ++ map g.E.FixedEntry.entry_of l.rest ≡ map g.E.FixedEntry.entry_of l.initial.rest) × ((l.ascends && ascends_from l.last (map key l.rest)) ≡ ascends_from 0 (map key l.initial.rest))

abbrev pub decreases-loop-rest : goal.decreases-loop-rest
decreases-loop-rest g l = length l.rest

use Rattle.std.proofs.Common.{◌≡◌, ◌+◌, ◌-◌, ◌^◌, min, length, take}
use Rattle.std.specs.List.{flat_map}
use Rattle.core_images.specs.Summary.{tuple_text}
use Rattle.tuple_sketches.proofs.image.greatest_size.Given as goal

-- the size of the entries so far
abbrev pub invariant-loop-entry : goal.invariant-loop-entry
invariant-loop-entry g l = l.size ≡ min (24 + length (flat_map (tuple_text g.S.TupleSummaryValue.text) (take l.entry-index l.entries))) (2 ^ 64 - 1)

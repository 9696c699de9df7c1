use Rattle.std.proofs.Common.{◌≡◌, ◌/◌, ◌+◌, ◌^◌, ◌<◌, true, length, take}
use Rattle.std.specs.List.{AllByRecursion}
use Rattle.core_operators.specs.Filter.{is_admitted}
use Rattle.core_operators.proofs.filter.HashFilter.of.Given as goal

-- the hashes below theta of the entries so far are admitted, and there are words for all hashes below theta
abbrev pub invariant-loop-entry : goal.invariant-loop-entry
invariant-loop-entry g l = record {
  room : l.theta / 2 ^ l.shift / 64 + 1 ≡ length l.words.items;
  so_far : AllByRecursion (λ x. g.E.SketchEntry.key x < l.theta → is_admitted l.words.items l.shift (g.E.SketchEntry.key x) ≡ true) (take l.entry-index l.entries);
}

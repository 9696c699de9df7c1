use Rattle.std.proofs.Common.{◌≡◌, ◌++◌, map}
use Rattle.core_compact.specs.Mapped.{MakesInTurn}
use Rattle.core_compact.proofs.compact_state.images.Given as goal

-- the images so far are those of the entries so far, and the others follow
abbrev pub invariant-loop-entry : goal.invariant-loop-entry
invariant-loop-entry g l = record {
  remaining : l.fn.entries.items ≡ l.yielded ++ l.entry-iterator.rest.items;
  images : MakesInTurn (λ p x y q. goal.G-step g p x y q) l.fn.f l.yielded l.images.items l.f;
  hashes : map g.F.SketchEntry.key l.images.items ≡ map g.E.SketchEntry.key l.yielded;
}

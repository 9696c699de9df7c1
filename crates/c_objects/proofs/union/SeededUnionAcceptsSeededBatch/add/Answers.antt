use Rattle.std.proofs.Common.{ℕ, List, subst}
use Rattle.core_compact.specs.CompactState.{Compact}
use Rattle.c_objects.specs.Union.{AddsAll}
use Rattle.c_objects.proofs.union.SeededUnionAcceptsSeededBatch.add.Goals as goal

pub returns : goal.returns
returns c = subst (λ (ss : List (Compact ℕ)). AddsAll ss c.args.self.now c.add_all.result c.add_all.new.union) c.as_slice.ensures.value c.add_all.ensures

use Rattle.std.proofs.Common.{arith, refl}
use Rattle.core_compact.proofs.LawsOfShown.{IsShown-none}
use Rattle.core_compact.proofs.compact_state.CompactSketchState.empty.Goals as goal

pub invariant_of-result : goal.invariant_of-result
invariant_of-result g c = rw c.new.ensures.items (record { shown = IsShown-none _ _ _ _ (omega arith) (omega arith) (λ _. refl); empty_ordered = λ _. refl })

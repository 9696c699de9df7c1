use Rattle.core_operators.proofs.union.UnionState.reset.Goals as goal

pub reset-requires : goal.reset-requires
reset-requires g c = record { of_sketch = c.self.invariant.union.lg_k_low }

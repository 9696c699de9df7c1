use Rattle.std.proofs.Common.{◌^◌, arith}
use Rattle.tuple_sketches.proofs.Streams.{union-made, samples-made}
use Rattle.tuple_sketches.proofs.union.TupleUnion.new.Goals as goal

pub returns-clause-given : goal.returns-clause-given
returns-clause-given g c = rw (← c.lg_k.ensures, ← c.starting_theta.ensures) (union-made c.lg_k.result (2 ^ c.lg_k.result) c.starting_theta.result c.starting_theta.result _ _ c.in_ok-state.state (omega arith) (omega arith) c.in_ok-state.ensures.made)

pub returns-clause-sampled : goal.returns-clause-sampled
returns-clause-sampled g c = samples-made c.lg_k.result c.starting_theta.result _ _ c.in_ok-state.state c.in_ok-state.ensures.made

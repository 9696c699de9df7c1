use Rattle.c_objects.proofs.Keys.{preamble_first}
use Rattle.c_objects.proofs.tuples.preamble_begins.Goals as goal

pub returns : goal.returns
returns g c text t w = preamble_first text t w

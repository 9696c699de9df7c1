use Rattle.core_slots.proofs.PathEnds.{path_ends_free}
use Rattle.core_slots.proofs.laws.path_ends_free.Goals as goal

pub returns : goal.returns
returns g c = λ key. path_ends_free key

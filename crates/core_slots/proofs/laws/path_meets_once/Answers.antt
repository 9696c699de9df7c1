use Rattle.core_slots.proofs.Strides.{probe_once}
use Rattle.core_slots.proofs.laws.path_meets_once.Goals as goal

pub returns : goal.returns
returns c = probe_once

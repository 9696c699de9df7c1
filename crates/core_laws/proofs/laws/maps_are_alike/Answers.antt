use Rattle.core_laws.proofs.maps.LookUps.{same_map}
use Rattle.core_laws.proofs.laws.maps_are_alike.Goals as goal

pub returns : goal.returns
returns g c = λ key. same_map key

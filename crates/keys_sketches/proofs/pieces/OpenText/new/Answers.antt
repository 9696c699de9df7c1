use Rattle.std.proofs.Common.{[], refl}
use Rattle.keys_sketches.proofs.pieces.OpenText.new.Goals as goal

pub returns : goal.returns
returns g = (refl, λ start. record { front = []; open_line = g.new.ensures; inserted = λ more. refl })

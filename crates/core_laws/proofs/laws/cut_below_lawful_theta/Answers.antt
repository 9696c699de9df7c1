use Rattle.core_laws.proofs.cuts.LawfulThetas.{cut_lawful}
use Rattle.core_laws.proofs.laws.cut_below_lawful_theta.Goals as goal

pub returns : goal.returns
returns g c = λ key. cut_lawful key

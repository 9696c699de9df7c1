use Rattle.expression_text.proofs.FirstNames.{same_names}
use Rattle.expression_text.proofs.laws.names_of_a_text.Goals as goal

pub returns : goal.returns
returns c = λ text names others steps more a b. same_names text names others steps more a b

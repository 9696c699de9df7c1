use Rattle.std.proofs.Common.{map, subst}
use Rattle.expression_text.specs.Reading.{HasName}
use Rattle.expression_text.proofs.FirstNames.{found_there}
use Rattle.expression_text.proofs.parsing.index_of.Goals as goal

pub returns-in-Some-clause-index : goal.returns-in-Some-clause-index
returns-in-Some-clause-index g c =
    found_there (map (λ v. v.items) c.args.names.now.items) c.args.word.now c.in-Some.index
    (subst (λ names. HasName (map (λ v. v.items) names) c.args.word.now c.in-Some.index) c.deref.ensures.value c.in-Some.ensures.found)

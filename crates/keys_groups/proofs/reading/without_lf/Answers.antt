use Rattle.std.proofs.Common.{ap, sym, ◌∙◌, cond, ◌++◌, ◌∷◌, [], ne_eqb}
use Rattle.std.proofs.lemmas.Bool.{eq-eqb}
use Rattle.keys_groups.specs.Groups.{without_lf}
use Rattle.keys_groups.proofs.WholeLines.{without_last}
use Rattle.keys_groups.proofs.reading.without_lf.Goals as goal

pub returns-then-last-eq10 : goal.returns-then-last-eq10
returns-then-last-eq10 c =
    sym (ap without_lf c.in-Some.ensures.cases.0 ∙ without_last c.in-Some.front.now c.in-Some.last.now ∙ ap (λ b. cond b c.in-Some.front.now (c.in-Some.front.now ++ c.in-Some.last.now ∷ [])) (eq-eqb c.in-Some.last.now 10 c.if-last-eq10.true))

pub returns-else-last-eq10 : goal.returns-else-last-eq10
returns-else-last-eq10 c =
    sym (ap without_lf c.in-Some.ensures.cases.0 ∙ without_last c.in-Some.front.now c.in-Some.last.now ∙ ap (λ b. cond b c.in-Some.front.now (c.in-Some.front.now ++ c.in-Some.last.now ∷ [])) (ne_eqb c.in-Some.last.now 10 c.if-last-eq10.false) ∙ sym c.in-Some.ensures.cases.0)

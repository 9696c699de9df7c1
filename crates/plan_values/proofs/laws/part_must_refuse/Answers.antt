use Rattle.plan_values.proofs.SureRefusals.{union_part_must, meet_part_must, minus_first_must, minus_second_must, via_must}
use Rattle.plan_values.proofs.laws.part_must_refuse.Goals as goal

pub returns-clause-union : goal.returns-clause-union
returns-clause-union g c = λ f seed lg_k start parts i d p lt is fit must. union_part_must _ f seed lg_k start parts i d p lt is fit must

pub returns-clause-meet : goal.returns-clause-meet
returns-clause-meet g c = λ f seed parts i d lt fit must. meet_part_must _ f seed parts i d lt fit must

pub returns-clause-first : goal.returns-clause-first
returns-clause-first g c = λ f seed first second seeded must. minus_first_must _ f seed first second seeded must

pub returns-clause-second : goal.returns-clause-second
returns-clause-second g c = λ f seed first second seeded fit must. minus_second_must _ f seed first second seeded fit must

pub returns-clause-via : goal.returns-clause-via
returns-clause-via g c = λ f seed ordered part must. via_must _ f seed ordered part must

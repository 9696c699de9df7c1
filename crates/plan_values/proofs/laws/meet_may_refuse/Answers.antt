use Rattle.plan_values.proofs.Marks.{meet_part_marks, meet_marks}
use Rattle.plan_values.proofs.laws.meet_may_refuse.Goals as goal

pub returns-clause-part : goal.returns-clause-part
returns-clause-part g c = λ f seed parts i d lt fit marked. meet_part_marks _ f seed parts i d lt fit marked

pub returns-clause-met : goal.returns-clause-met
returns-clause-met g c = λ f seed parts n fit marked. meet_marks _ f seed parts n fit marked

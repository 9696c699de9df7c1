use Rattle.plan_values.proofs.MeetKeys.{meet_any_order}
use Rattle.plan_values.proofs.laws.meet_in_any_order.Goals as goal

pub returns : goal.returns
returns g c = λ f is seed parts others accepts permuted. meet_any_order f is seed parts others accepts permuted

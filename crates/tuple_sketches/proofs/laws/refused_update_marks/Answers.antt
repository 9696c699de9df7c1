use Rattle.core_laws.proofs.operators.Marks.{step_marks}
use Rattle.core_policies.specs.Summaries.{update_step}
use Rattle.core_slots.specs.Entry.{tuple_key}
use Rattle.tuple_sketches.proofs.laws.refused_update_marks.Goals as goal

pub returns : goal.returns
returns g c = λ creates updates h value v whole kind part refused. step_marks tuple_key h (update_step creates updates h value) v whole kind part refused

use Rattle.std.specs.declared.alloc.Global.{Global}
use Rattle.plan_text.proofs.faults.WholeText.{one_it}
use Rattle.plan_text.proofs.laws.one_command.Goals as goal

pub returns : goal.returns
returns c = λ text first second s t. one_it Global text first second s t

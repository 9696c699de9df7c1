use Rattle.std.specs.declared.alloc.Global.{Global}
use Rattle.plan_text.proofs.faults.WholeText.{unfaulted, spelled_unfaulted}
use Rattle.plan_text.proofs.laws.fault_or_command.Goals as goal

pub returns : goal.returns
returns c = λ text. (λ e. unfaulted Global text e, λ s. spelled_unfaulted Global text s.0 s.1)

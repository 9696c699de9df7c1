use Rattle.keys_records.proofs.Passing.{IsPassing}
use Rattle.keys_records.proofs.stage.pass.Given as goal

abbrev pub invariant-loop-i : goal.invariant-loop-i
invariant-loop-i l = IsPassing l.form l.fn.start l.fn.block l.i l.place l.count l.block

use Rattle.keys_fields.specs.Chosen.{field_at}
use Rattle.keys_fields.proofs.Joining.{IsPut}
use Rattle.keys_fields.proofs.chosen.push_fields.Given as goal

-- so many fields are appended
abbrev pub invariant-loop-i : goal.invariant-loop-i
invariant-loop-i l = IsPut 31 (λ place. field_at l.fn.separator place l.fn.line) l.fn.places l.fn.to.items l.to.items l.i

use Rattle.std.proofs.Common.{◌≡◌, drop}
use Rattle.std.specs.List.{list_all}
use Rattle.keys_fields.specs.Chosen.{fields_at, is_free}
use Rattle.keys_fields.proofs.chosen.fields_fit.Given as goal

-- those that are left decide
abbrev pub invariant-loop-place : goal.invariant-loop-place
invariant-loop-place l = list_all is_free (fields_at l.fn.separator l.fn.places l.fn.line) ≡ list_all is_free (fields_at l.fn.separator (drop l.place-index l.fn.places) l.fn.line)

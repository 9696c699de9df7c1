use Rattle.std.proofs.Common.{◌≡◌, ◌-◌, [], get_or}
use Rattle.keys_lines.specs.Keys.{fields_of}
use Rattle.keys_fields.proofs.chosen.field_at.Given as goal

-- the field is the same of the rest, after fewer others
abbrev pub invariant-loop-passed : goal.invariant-loop-passed
invariant-loop-passed l = get_or (fields_of l.separator l.rest) (l.place - l.passed) [] ≡ get_or (fields_of l.separator l.line) l.place []

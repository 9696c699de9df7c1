use Rattle.std.proofs.Common.{◌≡◌, ◌-◌, [], get_or}
use Rattle.keys_lines.specs.Keys.{fields_of}
use Rattle.keys_lines.proofs.whole_key.field_after.Given as goal

-- the field is the same of the rest, after fewer others
abbrev pub invariant-loop-passed : goal.invariant-loop-passed
invariant-loop-passed l = get_or (fields_of l.separator l.rest) (l.before - l.passed) [] ≡ get_or (fields_of l.separator l.text) l.before []

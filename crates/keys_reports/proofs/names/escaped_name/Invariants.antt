use Rattle.std.proofs.Common.{◌≡◌, ◌++◌, IsUtf8, string_bytes}
use Rattle.std.specs.Str.Iter.{chars_rest}
use Rattle.keys_reports.specs.Names.{escaped_name}
use Rattle.keys_reports.proofs.names.escaped_name.Given as goal

-- the text and what the rest of the name is escaped to are the whole name, escaped
abbrev pub invariant-loop-c : goal.invariant-loop-c
invariant-loop-c g l = IsUtf8 (chars_rest l.c-iterator)
    × (string_bytes l.text ++ escaped_name (chars_rest l.c-iterator) ≡ escaped_name l.fn.name)

use Rattle.std.proofs.Common.{◌≡◌, ◌++◌, IsUtf8, codes, string_bytes}
use Rattle.std.specs.Str.Iter.{chars_rest}
use Rattle.keys_reports.specs.Names.{respelled, json_char}
use Rattle.keys_reports.proofs.names.put_json_string.Given as goal

-- the text and the spelling of the rest of the name are the old text, a quote, and the spelling of the whole name
abbrev pub invariant-loop-c : goal.invariant-loop-c
invariant-loop-c g l = IsUtf8 (chars_rest l.c-iterator)
    × (string_bytes l.text ++ respelled json_char (chars_rest l.c-iterator) ≡ string_bytes l.fn.text ++ codes "\"" ++ respelled json_char l.fn.name)

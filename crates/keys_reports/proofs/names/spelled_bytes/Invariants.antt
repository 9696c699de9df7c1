use Rattle.std.proofs.Common.{◌≡◌, ◌++◌, length, string_bytes, encode_utf8_all}
use Rattle.std.specs.List.{flat_map}
use Rattle.keys_reports.specs.Names.{byte_chars}
use Rattle.keys_reports.proofs.names.spelled_bytes.Given as goal

-- the text and what the rest of the name is escaped to are the whole name, escaped
abbrev pub invariant-loop-byte : goal.invariant-loop-byte
invariant-loop-byte g l =
    string_bytes l.text ++ encode_utf8_all (flat_map byte_chars l.rest) ≡ encode_utf8_all (flat_map byte_chars l.name)

abbrev pub decreases-loop-byte : goal.decreases-loop-byte
decreases-loop-byte g l = length l.rest

use Rattle.std.proofs.Common.{◌≡◌, take}
use Rattle.std.specs.Prelude.{string_bytes}
use Rattle.std.specs.List.{flat_map}
use Rattle.plan_runs.specs.Answer.{hex_byte}
use Rattle.plan_runs.proofs.answer.hex_text.Given as goal

-- the text has the bytes so far
abbrev pub invariant-loop-byte : goal.invariant-loop-byte
invariant-loop-byte g l = string_bytes l.text ≡ flat_map hex_byte (take l.byte-index l.bytes)

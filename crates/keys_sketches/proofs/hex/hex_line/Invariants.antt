use Rattle.std.proofs.Common.{◌≡◌, take}
use Rattle.keys_sketches.specs.Hex.{hex_of}
use Rattle.keys_sketches.proofs.hex.hex_line.Given as goal

abbrev pub invariant-loop-byte : goal.invariant-loop-byte
invariant-loop-byte g l = l.line.items ≡ hex_of (take l.byte-index l.bytes)

use Rattle.std.proofs.Common.{eqb, arith}
use Rattle.std.specs.Int.{w8}
use Rattle.std.specs.Simd.Lanes.{chunk}
use Rattle.std.proofs.lemmas.Simd.{bitmask_splat, length-chunk}
use Rattle.keys_lines.proofs.hashed_lines.ends_in_window.Goals as goal

pub returns : goal.returns
returns c = bitmask_splat w8 eqb (chunk 0 64 c.args.text.now) 64 10 (length-chunk 0 64 c.args.text.now (omega arith)) (omega arith)

use Rattle.std.proofs.Common.{eqb, arith}
use Rattle.std.specs.Int.{w8}
use Rattle.std.specs.Simd.Lanes.{chunk}
use Rattle.std.proofs.lemmas.Simd.{bitmask_splat, length-chunk}
use Rattle.keys_lines.proofs.cut.few_marks_of.Goals as goal

pub returns : goal.returns
returns c = bitmask_splat w8 eqb (chunk c.args.from 8 c.args.text.now) 8 c.args.byte (length-chunk c.args.from 8 c.args.text.now c.requires) (omega arith)

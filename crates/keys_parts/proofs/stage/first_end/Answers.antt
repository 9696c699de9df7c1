use Rattle.std.proofs.Common.{◌≤◌, arith, length}
use Rattle.keys_parts.proofs.Blocks.{front_begins}
use Rattle.keys_parts.proofs.stage.first_end.Goals.{then-count-block, else-count-block}
use Rattle.keys_parts.proofs.stage.first_end.Goals as goal

pub returns-clause-found : goal.returns-clause-found
returns-clause-found c =
    let few : c.if-count-block.looked ≤ c.args.count = elim c.if-count-block.branch [ then-count-block w ↦ omega (arith, w.looked-is) | else-count-block w ↦ omega (arith, w.looked-is) ] in
    let fits : c.if-count-block.looked ≤ length c.args.block.now = elim c.if-count-block.branch [ then-count-block w ↦ omega (arith, w.looked-is) | else-count-block w ↦ omega (arith, w.looked-is) ] in
    front_begins c.args.count c.if-count-block.looked c.args.block.now c.in_ok-line.line.now c.in_ok-line.field-0-1.now few fits c.in_ok-line.ensures.parts c.in_ok-line.ensures.line

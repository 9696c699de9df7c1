use Rattle.keys_groups.proofs.TakenLines.{leaves_more}
use Rattle.keys_groups.proofs.reading.take_lines.Goals as goal

pub loop-line-preserved : goal.loop-line-preserved
loop-line-preserved g c = record {
  named = c.in_ok-add_line.ensures.named;
  leaves = λ before grouped.
      leaves_more c.args.grouping before c.args.text.now c.loop-line.rest.now c.in-Some.line.now c.in-Some.others.now c.loop-line.groups.entries.items c.add_line.new.self.entries.items
      (c.loop-line.invariant.leaves before grouped) c.in-Some.ensures.parts c.in-Some.ensures.line c.in_ok-add_line.ensures.added;
}

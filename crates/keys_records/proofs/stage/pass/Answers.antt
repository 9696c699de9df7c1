use Rattle.std.proofs.Common.{◌+◌, get_or, sym, arith}
use Rattle.keys_records.proofs.Passing.{IsPassing, dropped, shown}
use Rattle.keys_records.proofs.stage.pass.Goals.{in-Shown, in-Dropped, in-Unknown+in-Shows, in-Unknown+in-Drops}
use Rattle.keys_records.proofs.stage.pass.Goals as goal

pub loop-i-preserved : goal.loop-i-preserved
loop-i-preserved c =
    elim c.match-stay.branch as (λ _. IsPassing c.args.form c.args.start c.args.block.now (c.loop-i.i + 1) c.match-stay.place c.match-stay.count c.match-stay.block) [
      | in-Shown w ↦ rw (w.block-is, w.place-is, w.count-is) (
          shown c.args.form c.args.start c.args.block.now c.loop-i.i c.loop-i.place c.loop-i.count c.loop-i.block c.loop-i.invariant (omega (arith, c.loop-i-test.true)) c.loop-i.place (get_or c.loop-i.block c.loop-i.i 0) w.in-Shown.ensures)
      | in-Dropped w ↦ rw (w.block-is, w.place-is, w.count-is) (
          dropped c.args.form c.args.start c.args.block.now c.loop-i.i c.loop-i.place c.loop-i.count c.loop-i.block c.loop-i.invariant (omega (arith, c.loop-i-test.true)) c.loop-i.place w.in-Dropped.ensures)
      | in-Unknown+in-Shows w ↦ rw (w.block-is, w.place-is, w.count-is) (
          shown c.args.form c.args.start c.args.block.now c.loop-i.i c.loop-i.place c.loop-i.count c.loop-i.block c.loop-i.invariant (omega (arith, c.loop-i-test.true)) w.in-Shows.next w.in-Shows.shown (sym w.in-Shows.ensures))
      | in-Unknown+in-Drops w ↦ rw (w.block-is, w.place-is, w.count-is) (
          dropped c.args.form c.args.start c.args.block.now c.loop-i.i c.loop-i.place c.loop-i.count c.loop-i.block c.loop-i.invariant (omega (arith, c.loop-i-test.true)) w.in-Drops.next (sym w.in-Drops.ensures))
    ]

use Rattle.std.proofs.Common.{◌≤◌, length, sym, subst, arith}
use Rattle.std.proofs.Math.Seq.{take_all}
use Rattle.std.proofs.lemmas.List.{map_more}
use Rattle.theta_sketches.specs.Streams.{IsSketchOf}
use Rattle.example_readme.proofs.add_day.Goals as goal

pub loop-name-preserved : goal.loop-name-preserved
loop-name-preserved c = subst (IsSketchOf _ _ _ _) (sym (map_more _ _ _ _ c.loop-name-test.true)) (c.in_ok-update.ensures.given _ _ _ _ c.loop-name.invariant)

pub returns : goal.returns
returns c before is =
    let end : length c.args.names.now ≤ c.loop-name.name-index = omega (arith, c.loop-name-test.false) in
    c.in_ok-update-2.ensures.given _ _ _ _ _ is (c.as_view.ensures.part _ _ _ _ (rw take_all at c.loop-name.invariant))

use Rattle.std.proofs.Common.{sym, subst}
use Rattle.std.proofs.lemmas.List.{map_more}
use Rattle.theta_sketches.specs.Streams.{IsSketchOf}
use Rattle.example_returning.proofs.sketch_of.Goals as goal

pub loop-name-preserved : goal.loop-name-preserved
loop-name-preserved c = subst (IsSketchOf _ _ _ _) (sym (map_more _ _ _ _ c.loop-name-test.true)) (c.in_ok-update.ensures.given _ _ _ _ c.loop-name.invariant)

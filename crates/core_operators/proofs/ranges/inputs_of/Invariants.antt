use Rattle.std.proofs.Common.{drop}
use Rattle.core_operators.proofs.Inputs.{IsSurvey}
use Rattle.core_operators.proofs.ranges.inputs_of.Given as goal

abbrev pub invariant-loop-sketch : goal.invariant-loop-sketch
invariant-loop-sketch g l =
    record {
      known : IsSurvey g.S.Entry.SketchEntry.key g.S.KeySketch.shown g.S.EntrySketch.listing l.seed_hash l.sketches (drop l.sketch-index l.sketches) l.inputs.empty l.inputs.theta;
    }

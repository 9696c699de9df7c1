use Rattle.std.proofs.Common.{◌≡◌, drop, [], Some}
use Rattle.sketch_base.specs.Seed.{seed_hash}
use Rattle.expression_evaluation.specs.Running.{values_by, after_steps, values_onto, AreOrderedSketches, MayRefuse}
use Rattle.expression_evaluation.proofs.evaluation.evaluate_in.Given as goal

-- the stack is ordered, the steps that are left run on it as all steps do on no stack, and a merge that they refuse is one that all steps refuse
abbrev pub invariant-loop-step : goal.invariant-loop-step
invariant-loop-step g l =
    let f = g.F.SetFamily in record {
      ordered : AreOrderedSketches (f.rules l.family) f.listed (seed_hash l.seed) l.stack.items;
      ran : after_steps (f.rules l.family) l.lg_k (values_by (f.rules l.family) f.named l.sketches) l.steps (Some []) ≡ after_steps (f.rules l.family) l.lg_k (values_by (f.rules l.family) f.named l.sketches) (drop l.step-index l.steps) (Some (values_onto (f.rules l.family) f.listed l.stack.items []));
      refusals : MayRefuse (f.rules l.family) l.lg_k (values_by (f.rules l.family) f.named l.sketches) (drop l.step-index l.steps) (Some (values_onto (f.rules l.family) f.listed l.stack.items [])) → MayRefuse (f.rules l.family) l.lg_k (values_by (f.rules l.family) f.named l.sketches) l.steps (Some []);
    }

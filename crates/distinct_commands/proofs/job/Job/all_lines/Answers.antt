use Rattle.std.proofs.Common.{◌≡◌, ℕ, List, Option, sym, subst}
use Rattle.std.specs.Prelude.{IfSome}
use Rattle.sketch_base.specs.Seed.{seed_hash}
use Rattle.core_compact.specs.CompactState.{Compact}
use Rattle.keys_sketches.specs.Sources.{Continues}
use Rattle.distinct_arguments.specs.Faults.{options_of}
use Rattle.distinct_commands.specs.Eval.{AreSketchesOfTexts}
use Rattle.distinct_inputs.specs.Seeds.{AreSeeded}
use Rattle.distinct_commands.proofs.OnlyMemory.{seeded-more}
use Rattle.distinct_commands.proofs.Evaluated.{sketches_more}
use Rattle.distinct_commands.proofs.job.Job.all_lines.Goals as goal

pub loop-preserved : goal.loop-preserved
loop-preserved g c =
    let options = options_of c.args.self.options.now in
    let old = g.S.Sources.texts c.args.self.inputs.sources in
    let now = g.S.Sources.texts c.loop.inputs.sources in
    let new = g.S.Sources.texts c.next_lines.new.inputs.sources in
    let seed : c.in-Some.sketch.seed_hash ≡ seed_hash c.args.self.seed = subst (λ (o : Option (Compact ℕ)). IfSome o (λ s. s.seed_hash ≡ seed_hash c.args.self.seed)) c.in-Some.is c.in_ok-sketch.ensures.seeded in
    record {
      seeded = subst (AreSeeded c.args.self.seed) (sym c.in_ok-push-in-Some.ensures.items) (seeded-more c.args.self.seed c.loop.sketches.items c.in-Some.sketch c.loop.invariant.seeded seed);
      sketched = subst (λ (items : List (Compact ℕ)). Continues old new (λ taken. AreSketchesOfTexts options c.args.self.seed taken items)) (sym c.in_ok-push-in-Some.ensures.items)
          (sketches_more options c.args.self.seed old now new _ c.in-Some.sketch c.loop.sketches.items c.loop.invariant.sketched c.in_ok-sketch.ensures.sketches c.in-Some.is);
    }

use Rattle.std.proofs.Common.{◌<◌, ◌^◌, ap, ◌∙◌, subst}
use Rattle.core_compact.specs.CompactState.{IsCompact}
use Rattle.core_laws.specs.Entries.{hash_key}
use Rattle.theta_sketches.specs.Image.{Reads, written}
use Rattle.core_streams.proofs.Calls.{if_ok}
use Rattle.theta_sketches.proofs.ReadBack.{read_back}
use Rattle.theta_sketches.proofs.compact_sketch.CompactThetaSketch.serialize.Goals as goal

pub returns-clause-read_back : goal.returns-clause-read_back
returns-clause-read_back g c =
    let same = c.state-2.ensures in
    let sound = subst (λ s. IsCompact hash_key s) same c.write_image.ensures.sound in
    let short = subst (λ s. s.seed_hash < 2 ^ 16) same c.write_image.ensures.short in
    if_ok c.write_image.result _ _ (λ v is s reads.
    read_back c.args.self.now s sound short (subst (λ bytes. Reads bytes c.args.self.now.seed_hash s) (is ∙ ap written same) reads)) c.write_image.ensures.ok

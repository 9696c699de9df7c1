use Rattle.keys_sums.proofs.UnitedSums.{reads_written}
use Rattle.keys_sums.proofs.images.sums_image.Goals as goal

pub returns-clause-reads : goal.returns-clause-reads
returns-clause-reads g c = λ seed same seeded.
    reads_written c.read_again.ensures (λ v. v.items) c.serialize.result c.args.sketch.now seed c.serialize.ensures.sound c.serialize.ensures.values same seeded c.serialize.ensures.ok

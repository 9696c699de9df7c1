use Rattle.core_streams.proofs.Calls.{if_both}
use Rattle.keys_sketches.proofs.Rereads.{reads_it}
use Rattle.keys_sketches.proofs.images.image_of.Goals as goal

pub returns-clause-reads : goal.returns-clause-reads
returns-clause-reads g c = λ seed same seeded. if_both c.serialize.result _ _
    (λ v is sound. reads_it c.read_again.ensures c.args.sketch.now seed v.items sound same seeded is) c.serialize.ensures.ok c.serialize.ensures.sound

use Rattle.std.proofs.Common.{ap}
use Rattle.theta_sketches.specs.Image.{written}
use Rattle.keys_sketches.specs.Keys.{sketch_of_value}
use Rattle.keys_sketches.specs.Shards.{values_of_sketches}
use Rattle.keys_sketches.proofs.Shards.{united_texts}
use Rattle.keys_sketches.proofs.Rereads.{values_read}
use Rattle.keys_sketches.proofs.laws.images_unite.Goals as goal

pub returns : goal.returns
returns c = λ hashing lg_k texts images sketches whole are read.
    ap (λ v. written (sketch_of_value hashing.seed v)) (united_texts hashing lg_k texts (values_of_sketches sketches) whole (values_read hashing c.one_reading.ensures lg_k images sketches texts are read))

use Rattle.std.proofs.Common.{ap, ◌∙◌}
use Rattle.keys_sketches.specs.Keys.{value_of_lines}
use Rattle.keys_sketches.proofs.Shards.{united_lines_apart}
use Rattle.keys_parts.specs.Parts.{parts_of}
use Rattle.keys_parts.proofs.Parted.{parts_lines}
use Rattle.keys_parts.proofs.laws.parts_unite.Goals as goal

pub returns : goal.returns
returns c = λ hashing lg_k text parts values some are.
    united_lines_apart hashing lg_k (parts_of text parts) values are ∙ ap (value_of_lines hashing lg_k) (parts_lines text parts some)

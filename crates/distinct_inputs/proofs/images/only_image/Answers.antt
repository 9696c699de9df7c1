use Rattle.distinct_inputs.proofs.ImageLines.{only_nothing}
use Rattle.distinct_inputs.proofs.images.only_image.Goals as goal

pub returns-then-is_followed-clause-only_image : goal.returns-then-is_followed-clause-only_image
returns-then-is_followed-clause-only_image c = rw c.new.ensures.items (only_nothing c.args.sums)

use Rattle.std.proofs.Common.{None, ◌∙◌}
use Rattle.std.proofs.lemmas.Result.{err_from_is_err_and}
use Rattle.keys_sketches.proofs.Refused.{refuses_memory}
use Rattle.keys_sketches.proofs.Waiting.{merge_memory}
use Rattle.keys_sketches.proofs.uniting.image_of_batch.Goals as goal

pub returns-clause-image : goal.returns-clause-image
returns-clause-image g c = λ seed lg_k images has. c.united_image.ensures.image seed lg_k images (c.in_ok-union.ensures.united seed lg_k images has)

pub returns-clause-refused : goal.returns-clause-refused
returns-clause-refused g c = λ seed ready. c.united_image.ensures.refused seed (c.in_ok-union.ensures.ready seed 0 ready)

pub returns-in_err-union-clause-refused : goal.returns-in_err-union-clause-refused
returns-in_err-union-clause-refused g c = λ seed ready.
    let result = c.from_residual.result in
    let p = err_from_is_err_and result c.from_residual.ensures.1 in
    refuses_memory result None p.0 p.1 (p.2 ∙ merge_memory c.in_err-union.field-0.0 (c.in_err-union.ensures.refused seed 0 ready))

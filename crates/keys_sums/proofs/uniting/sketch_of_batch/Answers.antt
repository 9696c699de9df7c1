use Rattle.std.proofs.Common.{sym, subst}
use Rattle.std.specs.Prelude.{IfErr}
use Rattle.std.proofs.lemmas.Result.{err_from_is_err_and}
use Rattle.keys_sketches.specs.Refusals.{IsMergeError}
use Rattle.keys_sums.specs.Unions.{merge_refusal}
use Rattle.keys_sums.proofs.RefusedSums.{only_memory_refused}
use Rattle.keys_sums.proofs.uniting.sketch_of_batch.Goals as goal

pub returns-clause-sketch : goal.returns-clause-sketch
returns-clause-sketch g c = λ mode seed lg_k images has. c.united_sketch.ensures.sketch mode seed lg_k images (c.in_ok-union.ensures.united seed (record { mode = mode; lg_k = lg_k }) images has)

pub returns-clause-refused : goal.returns-clause-refused
returns-clause-refused g c = λ mode seed ready.
    only_memory_refused mode c.united_sketch.result (c.united_sketch.ensures.refused mode seed (c.in_ok-union.ensures.ready seed (record { mode = mode; lg_k = 0 }) ready))

pub returns-in_err-union-clause-refused : goal.returns-in_err-union-clause-refused
returns-in_err-union-clause-refused g c = λ mode seed ready.
    let p = err_from_is_err_and c.from_residual.result c.from_residual.ensures.1 in
    subst (λ r. IfErr r (IsMergeError (merge_refusal mode))) (sym p.1) (subst (IsMergeError (merge_refusal mode)) (sym p.2) (c.in_err-union.ensures.refused seed (record { mode = mode; lg_k = 0 }) ready))

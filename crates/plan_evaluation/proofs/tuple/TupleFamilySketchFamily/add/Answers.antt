use Rattle.std.proofs.lemmas.Result.{err_from_is_err_and}
use Rattle.plan_evaluation.proofs.families.Refusals.{refused_update}
use Rattle.plan_evaluation.proofs.tuple.TupleFamilySketchFamily.add.Goals as goal

pub returns-in_err-update_hash-clause-strict : goal.returns-in_err-update_hash-clause-strict
returns-in_err-update_hash-clause-strict g c =
    let p = err_from_is_err_and c.from_residual.result c.from_residual.ensures.1 in
    let f = c.args.self.now in
    let refused = rw c.requires.own at c.in_err-update_hash.ensures.refused in
    rw (p.1, p.2) (refused_update (g.P.SummaryPolicy.creates f.updates) (g.P.SummaryUpdatePolicy.updates f.updates) c.args.hash c.args.value c.args.sketch.now.state.map.kept c.in_err-update_hash.field-0.0 _ refused)

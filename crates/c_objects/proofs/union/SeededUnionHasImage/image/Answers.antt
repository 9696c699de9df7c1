use Rattle.std.proofs.lemmas.Result.{IfOk-weaker}
use Rattle.c_objects.proofs.Merges.{has_union}
use Rattle.c_objects.proofs.union.SeededUnionHasImage.image.Goals as goal

pub returns-in-Ok-clause-image : goal.returns-in-Ok-clause-image
returns-in-Ok-clause-image c =
    let e = c.in-Ok.ensures in let u = c.args.self.now.union in let s = c.in-Ok.sketch in
    IfOk-weaker c.image.result _ _ (λ v is. (s, is.0, (e.refused, e.ok, has_union u s e.ok e.part e.least e.kmin), is.1)) c.image.ensures.image

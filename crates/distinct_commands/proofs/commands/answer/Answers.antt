use Rattle.std.proofs.lemmas.Result.{err_from_is_err_and}
use Rattle.keys_sketches.proofs.Turns.{if_any}
use Rattle.distinct_commands.proofs.commands.answer.Goals as goal

pub returns-in_err-made-clause-answered : goal.returns-in_err-made-clause-answered
returns-in_err-made-clause-answered g c =
    let p = err_from_is_err_and c.from_residual.result c.from_residual.ensures.1 in
    rw p.1 (if_any (g.S.Sources.texts c.args.sources))

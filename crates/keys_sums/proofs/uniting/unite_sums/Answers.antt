use Rattle.std.proofs.Common.{ap, ◌∙◌}
use Rattle.keys_sketches.proofs.Turns.{if_some}
use Rattle.keys_sums.specs.Images.{written_sums}
use Rattle.keys_sums.specs.Unions.{IsUnitedSums, AreSumsOfTexts}
use Rattle.keys_sums.proofs.uniting.unite_sums.Goals as goal

pub returns-clause-united : goal.returns-clause-united
returns-clause-united g c =
    if_some (g.S.Sources.texts c.args.images.now) (λ all. IsUnitedSums c.args.mode c.args.seed c.args.lg_k all c.in_ok-united.united.sketch) _
    (λ all is. (c.in_ok-united.united.sketch, is, c.in_ok-image.ensures.written)) c.in_ok-united.ensures.united

pub returns-clause-apart : goal.returns-clause-apart
returns-clause-apart g c =
    if_some (g.S.Sources.texts c.args.images.now) (λ all. AreSumsOfTexts c.args.mode c.args.seed c.args.lg_k all c.in_ok-united.united.sketch) _
    (λ all are key amount texts images. c.in_ok-image.ensures.written ∙ ap written_sums (are key amount texts images)) c.in_ok-united.ensures.apart

use Rattle.keys_sketches.proofs.Turns.{if_some}
use Rattle.keys_lines.specs.Lines.{lines_of_all}
use Rattle.keys_groups.specs.United.{HasUnions, IsUnitedText}
use Rattle.distinct_commands.proofs.job.Job.unite_inputs.Goals as goal

pub returns-in-Ok-clause-united : goal.returns-in-Ok-clause-united
returns-in-Ok-clause-united g c =
    let seed = c.args.self.seed in
    let lg_k = c.args.self.options.now.lg_k in
    if_some (g.S.Sources.texts c.args.self.inputs.sources) (λ texts. HasUnions seed lg_k (lines_of_all texts) c.in_ok-groups.groups) (λ texts. IsUnitedText seed lg_k (lines_of_all texts) c.in-Ok.text.items)
    (λ texts has. c.in-Ok.ensures.text seed lg_k (lines_of_all texts) has) c.in_ok-groups.ensures.united

use Rattle.std.specs.Prelude.{IfOk}
use Rattle.std.proofs.lemmas.Result.{IfOk-weaker}
use Rattle.keys_sketches.proofs.Turns.{if_some}
use Rattle.keys_lines.specs.Lines.{lines_of_all}
use Rattle.keys_groups.specs.United.{HasUnions}
use Rattle.distinct_arguments.specs.Faults.{options_of}
use Rattle.distinct_commands.specs.Groups.{IsGroupsText, IsUnitedListing}
use Rattle.distinct_commands.proofs.job.Job.list_unions.Goals as goal

pub returns-clause-listed : goal.returns-clause-listed
returns-clause-listed g c =
    let options = options_of c.args.self.options.now in
    let seed = c.args.self.seed in
    if_some (g.S.Sources.texts c.args.self.inputs.sources) (λ texts. HasUnions seed options.lg_k (lines_of_all texts) c.in_ok-groups.groups)
    (λ texts. IfOk c.table.result (λ v. IsUnitedListing c.args.listing options seed texts v.items))
    (λ texts has.
    IfOk-weaker c.table.result (λ v. IsGroupsText c.args.listing options has.1 has.0 v.items) (λ v. IsUnitedListing c.args.listing options seed texts v.items)
    (λ v is. (has.0, has.1, has.2, has.3, is)) (c.table.ensures.printed has.1 has.0 has.4))
    c.in_ok-groups.ensures.united

use Rattle.std.proofs.Common.{◌≡◌}
use Rattle.std.proofs.lemmas.Result.{IfOk-weaker}
use Rattle.std.specs.Prelude.{flat_map}
use Rattle.keys_lines.specs.Lines.{lines_of_all}
use Rattle.keys_groups.specs.United.{sketched_text, IsUnitedText, IsSketchedText}
use Rattle.keys_groups.proofs.UnitedInTurn.{united_lines}
use Rattle.keys_groups.proofs.uniting.united_text.Goals as goal

pub returns-clause-text : goal.returns-clause-text
returns-clause-text c = λ seed lg_k lines has.
    IfOk-weaker c.sketched_text.result (λ v. v.items ≡ sketched_text has.1 has.0) (λ v. IsUnitedText seed lg_k lines v.items)
    (λ v is. (has.0, has.2, united_lines seed lg_k lines has.1 has.0 v.items has.3 is)) (c.sketched_text.ensures.text has.1 has.0 has.4)

pub returns-clause-whole : goal.returns-clause-whole
returns-clause-whole c = λ grouping sources texts settled sketched has.
    IfOk-weaker c.sketched_text.result (λ v. IsUnitedText grouping.hashing.seed grouping.lg_k (lines_of_all texts) v.items)
    (λ v. IsSketchedText grouping (lines_of_all (flat_map (λ part. part) sources)) v.items)
    (λ v is. c.groups_unite.ensures grouping sources texts v.items settled sketched is)
    (returns-clause-text c grouping.hashing.seed grouping.lg_k (lines_of_all texts) has)

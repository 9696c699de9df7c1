use Rattle.std.proofs.Common.{append_assoc}
use Rattle.std.specs.Prelude.{codes}
use Rattle.keys_reports.specs.Names.{json_string}
use Rattle.distinct_commands.proofs.Pairs.{added_in_turn}
use Rattle.distinct_commands.proofs.matrix.pair_fields.Goals as goal

pub returns : goal.returns
returns c =
    added_in_turn _ _ _ _ _ (codes "{\"first\":") (json_string c.args.first.now) (codes ",\"second\":") (json_string c.args.second.now) _
    c.in_ok-line.ensures.ok c.in_ok-put_json_string.ensures c.in_ok-push_str.ensures.bytes c.in_ok-put_json_string-2.ensures (simp append_assoc c.in_ok-write.ensures.bytes)

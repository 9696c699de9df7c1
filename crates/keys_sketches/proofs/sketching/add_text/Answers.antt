use Rattle.std.proofs.Common.{[], sym, ◌∙◌}
use Rattle.std.proofs.lemmas.Result.{on_ok_weaker}
use Rattle.keys_sketches.specs.Keys.{line_state}
use Rattle.keys_sketches.proofs.Takings.{takes_all}
use Rattle.keys_sketches.proofs.sketching.add_text.Goals as goal

pub returns-clause-lines : goal.returns-clause-lines
returns-clause-lines g c =
    let takes = c.in_ok-lines.ensures.takes [] c.new-last.ensures in
    on_ok_weaker c.take_last.result (λ is. is ∙ sym (takes_all c.args.hashing (line_state c.args.sketch.now) (line_state c.take_block.new.sketch) c.args.text.now takes.0 takes.2)) (c.take_last.ensures.taken c.args.hashing takes.0 takes.1)

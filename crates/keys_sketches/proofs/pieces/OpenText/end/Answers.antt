use Rattle.std.proofs.Common.{◌∙◌, sym}
use Rattle.keys_sketches.specs.Keys.{line_state}
use Rattle.keys_sketches.proofs.Takings.{takes_all}
use Rattle.keys_sketches.proofs.pieces.OpenText.end.Goals as goal

pub returns-clause-inserted : goal.returns-clause-inserted
returns-clause-inserted g c = λ start text has.
    c.in_ok-take_last.ensures.taken c.args.self.now.hashing has.front has.open_line
    ∙ sym (takes_all c.args.self.now.hashing start (line_state c.args.sketch.now) text has.front has.inserted)

use Rattle.std.proofs.Common.{[]}
use Rattle.std.proofs.lemmas.Result.{err_from_is_err_and}
use Rattle.keys_sketches.specs.Keys.{line_state}
use Rattle.keys_sketches.proofs.Takings.{takes_both}
use Rattle.keys_sketches.proofs.pieces.OpenText.add.Goals as goal

pub returns-clause-inserted : goal.returns-clause-inserted
returns-clause-inserted g c = λ start text has.
    let step = c.in_ok-take_block.ensures.takes has.front has.open_line in record {
      front = step.0;
      open_line = step.1;
      inserted = takes_both c.args.self.now.hashing start (line_state c.args.sketch.now) (line_state c.take_block.new.sketch) [] text has.front c.args.piece.now step.0 has.inserted step.2;
    }

pub returns-in_err-take_block-clause-stopped : goal.returns-in_err-take_block-clause-stopped
returns-in_err-take_block-clause-stopped g c =
    let p = err_from_is_err_and c.from_residual.result c.from_residual.ensures.1 in
    rw (p.1) (λ front is. c.in_err-take_block.ensures.stopped front is)

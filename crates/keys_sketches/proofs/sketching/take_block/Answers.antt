use Rattle.std.proofs.Common.{[], ◌++◌}
use Rattle.std.proofs.lemmas.Result.{err_from_is_err_and}
use Rattle.keys_sketches.specs.Keys.{line_state}
use Rattle.keys_sketches.proofs.Takings.{state_after_line, takes_lacking, takes_block, none_first, first_behind}
use Rattle.keys_sketches.proofs.sketching.take_block.Goals as goal

pub returns-in_default-clause-takes : goal.returns-in_default-clause-takes
returns-in_default-clause-takes g c = λ before is. (before ++ c.args.block.now, c.extend.ensures c.args.hashing before is, takes_lacking c.args.hashing (line_state c.args.sketch.now) before c.args.block.now c.in_default.ensures.none)

pub returns-clause-takes : goal.returns-clause-takes
returns-clause-takes g c = λ before is.
    let line = before ++ c.in-Some.first.now in
    let now = c.extend-2.ensures c.args.hashing before is in
    let taken = state_after_line c.args.hashing c.args.sketch.now c.update_hash.new.self c.hash.result line (c.hash.ensures c.args.hashing line now) c.in_ok-update_hash.ensures.after c.in_ok-update_hash.ensures.nonempty in (
      [] ++ c.in_ok-rest.rest.now,
      c.extend-3.ensures c.args.hashing [] c.new.ensures,
      takes_block c.args.hashing (line_state c.args.sketch.now) (line_state c.update_hash.new.self) (line_state c.take_lines.new.sketch) before c.args.block.now c.in-Some.first.now c.in-Some.others.now c.in_ok-rest.rest.now
          c.in-Some.ensures.parts c.in-Some.ensures.line taken c.in_ok-rest.ensures.leaves c.in_ok-rest.ensures.lacks,
    )

pub returns-in_err-update_hash-clause-stopped : goal.returns-in_err-update_hash-clause-stopped
returns-in_err-update_hash-clause-stopped g c = λ before is.
    let p = err_from_is_err_and c.from_residual.result c.from_residual.ensures.1 in
    rw (p.1) (none_first c.args.hashing (line_state c.args.sketch.now) (line_state c.update_hash.new.self) before c.args.block.now (λ i. record { map = c.in_err-update_hash.ensures.err i; empty = c.in_err-update_hash.ensures.err_empty i }))

pub returns-in_err-rest-clause-stopped : goal.returns-in_err-rest-clause-stopped
returns-in_err-rest-clause-stopped g c = λ before is.
    let p = err_from_is_err_and c.from_residual-in_err-rest.result c.from_residual-in_err-rest.ensures.1 in
    let line = before ++ c.in-Some.first.now in
    let now = c.extend-2.ensures c.args.hashing before is in
    let taken = state_after_line c.args.hashing c.args.sketch.now c.update_hash.new.self c.hash.result line (c.hash.ensures c.args.hashing line now) c.in_ok-update_hash.ensures.after c.in_ok-update_hash.ensures.nonempty in
    rw (p.1) (
    first_behind c.args.hashing (line_state c.args.sketch.now) (line_state c.update_hash.new.self) (line_state c.take_lines.new.sketch) before c.args.block.now c.in-Some.first.now c.in-Some.others.now c.in-Some.ensures.parts c.in-Some.ensures.line taken c.in_err-rest.ensures.stopped
    )

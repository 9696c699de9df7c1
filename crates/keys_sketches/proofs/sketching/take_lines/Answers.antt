use Rattle.std.proofs.Common.{[], take, refl}
use Rattle.std.proofs.lemmas.Result.{err_from_is_err_and}
use Rattle.keys_sketches.specs.Keys.{line_state}
use Rattle.keys_sketches.proofs.Takings.{leaves_lines, stops_first}
use Rattle.keys_sketches.proofs.sketching.take_lines.Goals as goal

pub loop-rest-init : goal.loop-rest-init
loop-rest-init g c = ([], refl, λ more. refl)

pub returns-in_err-update_hashes-clause-stopped : goal.returns-in_err-update_hashes-clause-stopped
returns-in_err-update_hashes-clause-stopped g c =
    let p = err_from_is_err_and c.from_residual.result c.from_residual.ensures.1 in
    rw (p.1) (
    stops_first c.args.hashing (line_state c.args.sketch.now) c.loop-rest.sketch c.update_hashes.new.self c.args.text.now c.loop-rest.rest.now c.hash_lines-lines.result.1.now (take c.hash_lines-lines.result.0 c.hash_lines-lines.new.hashes)
    c.loop-rest.invariant c.hash_lines-lines.ensures.lines c.in_err-update_hashes.ensures.err
    )

pub returns-then-lines-lt-LINES_AT_ONCE-clause-leaves : goal.returns-then-lines-lt-LINES_AT_ONCE-clause-leaves
returns-then-lines-lt-LINES_AT_ONCE-clause-leaves g c =
    leaves_lines c.args.hashing (line_state c.args.sketch.now) c.loop-rest.sketch c.update_hashes.new.self c.args.text.now c.loop-rest.rest.now c.hash_lines-lines.result.1.now (take c.hash_lines-lines.result.0 c.hash_lines-lines.new.hashes)
    c.loop-rest.invariant c.hash_lines-lines.ensures.lines c.in_ok-update_hashes.ensures.after c.in_ok-update_hashes.ensures.empty

pub loop-rest-preserved : goal.loop-rest-preserved
loop-rest-preserved g c =
    leaves_lines c.args.hashing (line_state c.args.sketch.now) c.loop-rest.sketch c.update_hashes.new.self c.args.text.now c.loop-rest.rest.now c.hash_lines-lines.result.1.now (take c.hash_lines-lines.result.0 c.hash_lines-lines.new.hashes)
    c.loop-rest.invariant c.hash_lines-lines.ensures.lines c.in_ok-update_hashes.ensures.after c.in_ok-update_hashes.ensures.empty

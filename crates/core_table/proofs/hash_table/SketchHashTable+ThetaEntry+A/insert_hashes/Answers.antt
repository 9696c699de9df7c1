use Rattle.std.proofs.Common.{arith}
use Rattle.std.proofs.lemmas.Result.{err_from_is_err_and}
use Rattle.core_table.proofs.ManyHashes.{parted, more_inserted, part_inserted}
use Rattle.core_table.proofs.hash_table.SketchHashTable+ThetaEntry+A.insert_hashes.Goals as goal

pub returns-in_err-plain-clause-err : goal.returns-in_err-plain-clause-err
returns-in_err-plain-clause-err g c =
    let p = err_from_is_err_and c.from_residual.result c.from_residual.ensures.1 in
    let whole = part_inserted c.args.hashes.now c.args.self.now.map c.split_at.result.0.now c.split_at.result.1.now c.loop-rest.self.map c.insert_block.new.self.map (parted c.args.hashes.now c.args.self.now.map c.loop-rest.rest.now c.split_at.result.0.now c.split_at.result.1.now _ c.loop-rest.self.map c.split_at.ensures.front c.split_at.ensures.back c.loop-rest.invariant.0) c.in_err-plain.ensures.err in
    rw (p.1) whole

pub loop-rest-preserved : goal.loop-rest-preserved
loop-rest-preserved g c =
    (more_inserted c.args.hashes.now c.args.self.now.map c.split_at.result.0.now c.split_at.result.1.now c.loop-rest.self.map c.insert_block.new.self.map (parted c.args.hashes.now c.args.self.now.map c.loop-rest.rest.now c.split_at.result.0.now c.split_at.result.1.now _ c.loop-rest.self.map c.split_at.ensures.front c.split_at.ensures.back c.loop-rest.invariant.0) c.in_ok-plain.ensures.after, omega (arith, c.loop-rest.invariant.1, c.in_ok-plain.ensures.looks_kept))

pub returns-in_err-plain-clause-looks_kept : goal.returns-in_err-plain-clause-looks_kept
returns-in_err-plain-clause-looks_kept g c = omega (arith, c.loop-rest.invariant.1, c.in_err-plain.ensures.looks_kept)

pub returns-clause-looks_kept : goal.returns-clause-looks_kept
returns-clause-looks_kept g c = c.loop-rest.invariant.1

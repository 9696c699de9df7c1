use Rattle.std.proofs.Common.{◌∙◌, take}
use Rattle.std.proofs.lemmas.Result.{err_from_is_err_and}
use Rattle.core_table.proofs.ManyHashes.{left_inserted, part_left_inserted}
use Rattle.core_table.proofs.hash_table.SketchHashTable+ThetaEntry+A.insert_unfound.Goals as goal

pub returns-in_err-insert_each-clause-err : goal.returns-in_err-insert_each-clause-err
returns-in_err-insert_each-clause-err g c =
    let p = err_from_is_err_and c.from_residual.result c.from_residual.ensures.1 in
    rw (p.1) (part_left_inserted c.args.self.now.map c.copy_unfound-left.ensures.sound.kept c.args.hashes.now (take c.copy_unfound-left.result c.copy_unfound-left.new.block) c.insert_each.new.self.map c.copy_unfound-left.ensures.left c.in_err-insert_each.ensures.err)

pub returns-clause-after : goal.returns-clause-after
returns-clause-after g c = c.in_ok-insert_each.ensures.after ∙ left_inserted c.args.self.now.map c.copy_unfound-left.ensures.sound.kept c.args.hashes.now (take c.copy_unfound-left.result c.copy_unfound-left.new.block) c.copy_unfound-left.ensures.left

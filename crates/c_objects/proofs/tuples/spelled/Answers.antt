use Rattle.c_objects.proofs.Keys.{one_more}
use Rattle.c_objects.proofs.tuples.spelled.Goals as goal

pub loop-hash-preserved : goal.loop-hash-preserved
loop-hash-preserved c =
    one_more c.args.hashes.now c.loop-hash.bytes.bytes c.write_u64_le.new.self.bytes c.loop-hash.hash-index c.loop-hash-test.true
    (c.type_inv.hashes c.loop-hash.hash-index).fits c.in_ok-write_u64_le.ensures.ok c.loop-hash.invariant

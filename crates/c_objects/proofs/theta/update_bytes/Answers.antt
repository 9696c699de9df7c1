use Rattle.std.proofs.Common.{ℕ, subst}
use Rattle.c_objects.specs.Thetas.{UpdatesHash}
use Rattle.c_objects.proofs.theta.update_bytes.Goals as goal

pub returns : goal.returns
returns c = subst (λ (h : ℕ). UpdatesHash h c.args.theta.now c.update_hash.result c.update_hash.new.theta) c.hash_of_bytes-hash.ensures c.update_hash.ensures

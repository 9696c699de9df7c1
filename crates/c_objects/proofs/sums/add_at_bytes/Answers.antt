use Rattle.std.proofs.Common.{ℕ, subst}
use Rattle.c_objects.specs.Sums.{AddsValue}
use Rattle.c_objects.proofs.sums.add_at_bytes.Goals as goal

pub returns : goal.returns
returns c = subst (λ (h : ℕ). AddsValue h c.args.value c.args.sums.now c.add_at_hash.result c.add_at_hash.new.sums) c.hash_of_bytes-hash.ensures c.add_at_hash.ensures

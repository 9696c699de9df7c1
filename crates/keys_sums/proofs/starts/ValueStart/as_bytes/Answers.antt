use Rattle.std.proofs.Common.{ap, take, ◌∙◌, rules}
use Rattle.keys_sums.proofs.FirstBytes.{within}
use Rattle.keys_sums.specs.declared.starts.TheConstants.{START}
use Rattle.keys_sums.proofs.starts.ValueStart.as_bytes.Goals as goal

pub returns : goal.returns
returns c = ap (λ n. take n c.args.self.now.kept) c.min.ensures ∙ within c.args.self.now.kept c.args.self.now.count START (search rules)

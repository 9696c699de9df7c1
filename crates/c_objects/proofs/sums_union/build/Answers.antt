use Rattle.std.proofs.Common.{◌≡◌, rules}
use Rattle.sketch_base.specs.Seed.{seed_hash}
use Rattle.core_operators.specs.Union.{empty_union}
use Rattle.tuple_sketches.specs.declared.numbers.NumberPolicy.{NumberPolicy}
use Rattle.tuple_sketches.proofs.Streams.{union-made}
use Rattle.c_objects.specs.SumsStreams.{IsSumsUnionOfNone}
use Rattle.c_objects.proofs.Summed.{bare_union}
use Rattle.c_objects.proofs.sums_union.build.Goals as goal

pub returns-clause-made : goal.returns-clause-made
returns-clause-made c =
    let lg_k = c.args.lg_k in let from = c.args.start in let h = seed_hash c.args.seed in let u = c.in_ok-union.union.state in
    let policy : NumberPolicy = record { mode = c.args.mode } in
    let made : u ≡ empty_union lg_k from h policy = search rules in
    let given : IsSumsUnionOfNone lg_k from u = λ mode k start enough starts. bare_union mode lg_k k start u (union-made lg_k k start from h policy u enough starts made) in
    search (rules, made, given)

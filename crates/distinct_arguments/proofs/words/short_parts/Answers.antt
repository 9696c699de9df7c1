use Rattle.std.proofs.Common.{ℕ, List, subst, arith}
use Rattle.std.specs.Str.{IsCharBoundary}
use Rattle.std.proofs.lemmas.Str.{IsCharBoundary-after_ascii}
use Rattle.std.proofs.lemmas.Bool.Decides.{nat_tests}
use Rattle.distinct_arguments.proofs.words.short_parts.Goals as goal

pub split_at-requires : goal.split_at-requires
split_at-requires c =
    subst (λ (w : List ℕ). IsCharBoundary w 2) c.as_bytes.ensures.value
    (IsCharBoundary-after_ascii c.as_bytes.result.now 1 c.as_bytes.ensures.utf8 (omega (arith, c.in-len3-up.len_at_least)) (grind (arith, nat_tests, c.if-second-lt128.true)))

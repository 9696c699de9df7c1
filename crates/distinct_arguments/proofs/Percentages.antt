-- The least size for a percentage.
use Rattle.std.proofs.Common.{◌≡◌, ◌≤◌, ℕ, List, Option, Some, None, true, cond, ap, sym, ◌∙◌, subst, arith}
use Rattle.std.specs.Prelude.{nat_le}
use Rattle.std.specs.Option.{option_and_then}
use Rattle.std.specs.List.{find}
use Rattle.std.proofs.lemmas.Bool.Decides.{nat_tests}
use Rattle.distinct_arguments.specs.Precision.{percentage_of, is_enough, sizes, least_size, size_of}

pub least_at : (word : List ℕ) (percentage : ℕ) (found : Option ℕ) → percentage_of word ≡ Some percentage → percentage ≤ 1000000 → found ≡ find (is_enough percentage) sizes → found ≡ size_of word
unfolding least_size
least_at word percentage found spelled most is =
    let low : nat_le percentage 1000000 ≡ true = grind (arith, nat_tests) in
    is ∙ sym (ap (option_and_then (λ p. cond (nat_le p 1000000) (least_size p) None)) spelled ∙ ap (λ b. cond b (least_size percentage) None) low)

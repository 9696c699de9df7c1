-- Numbers in the ranges of the table.
use Rattle.std.proofs.Common.{◌≡◌, ◌≤◌, ℕ, subst}
use Rattle.distinct_arguments.specs.Table.{rows, kind_of}
use Rattle.distinct_arguments.specs.Settings.{IsOfKind}
use Rattle.distinct_arguments.specs.declared.table.OptionName.{OptionName}
use Rattle.distinct_arguments.specs.declared.table.OptionName.TheVariants as o

pub size_is : (option : OptionName) (n : ℕ) → option ≡ o.LgK → IsOfKind (kind_of option) n → (4 ≤ n) × (n ≤ 26)
unfolding rows
size_is option n is fits = subst (λ (x : OptionName). IsOfKind (kind_of x) n) is fits

-- A number in groups, and the unit of an estimate, by cases.
use Rattle.std.proofs.Common.{◌≡◌, ◌<◌, ◌≤◌, ◌*◌, ◌/◌, ◌%◌, ◌++◌, ℕ, zero, suc, Bool, true, false, cond, List, codes, decimal, refl, ap, ◌∙◌, arith}
use Rattle.std.specs.Prelude.{nat_lt}
use Rattle.std.proofs.lemmas.Bool.Decides.{nat_tests}
use Rattle.keys_reports.specs.Human.{grouped, three_digits, unit_from}

-- no greater power of ten is left
pub unit_last : (more unit width : ℕ) → more ≡ 0 → unit_from more unit width ≡ unit
unfolding unit_from
unit_last zero unit width none = refl
unit_last (suc more) unit width none = absurd (omega (arith, none))

-- the unit is more than a thousandth of the width
pub unit_enough : (more unit width : ℕ) → width / 1000 < unit → unit_from more unit width ≡ unit
unfolding unit_from
unit_enough zero unit width great = refl
unit_enough (suc more) unit width great =
    let b : nat_lt (width / 1000) unit ≡ true = grind (arith, nat_tests) in
    ap (λ (b : Bool). cond b unit (unit_from more (10 * unit) width)) b

-- it isn't, and a greater power of ten is left
pub unit_greater : (more less unit width : ℕ) → more ≡ suc less → unit ≤ width / 1000 → unit_from more unit width ≡ unit_from less (10 * unit) width
unfolding unit_from
unit_greater more less unit width some small =
    let b : nat_lt (width / 1000) unit ≡ false = grind (arith, nat_tests) in
    ap (λ (m : ℕ). unit_from m unit width) some ∙ ap (λ (b : Bool). cond b unit (unit_from less (10 * unit) width)) b

-- no group is left
pub grouped_last : (groups n : ℕ) → groups ≡ 0 → grouped groups n ≡ decimal n
unfolding grouped
grouped_last zero n none = refl
grouped_last (suc groups) n none = absurd (omega (arith, none))

-- the number has three digits at most
pub grouped_few : (groups n : ℕ) → n < 1000 → grouped groups n ≡ decimal n
unfolding grouped
grouped_few zero n few = refl
grouped_few (suc groups) n few =
    let b : nat_lt n 1000 ≡ true = grind (arith, nat_tests) in
    ap (λ (b : Bool). cond b (decimal n) (grouped groups (n / 1000) ++ (codes "," ++ three_digits (n % 1000)))) b

-- it has more
pub grouped_more : (groups less n : ℕ) → groups ≡ suc less → 1000 ≤ n → grouped groups n ≡ grouped less (n / 1000) ++ (codes "," ++ three_digits (n % 1000))
unfolding grouped
grouped_more groups less n some many =
    let b : nat_lt n 1000 ≡ false = grind (arith, nat_tests) in
    ap (λ (g : ℕ). grouped g n) some ∙ ap (λ (b : Bool). cond b (decimal n) (grouped less (n / 1000) ++ (codes "," ++ three_digits (n % 1000)))) b

-- Numbers as people read them: digits in groups of three, and no more of them than an estimate knows.
use Rattle.std.specs.Prelude.{ℕ, zero, suc, ◌+◌, ◌-◌, ◌*◌, ◌/◌, ◌%◌, ◌^◌, ◌++◌, ◌==◌, nat_lt, List, [], ◌∷◌, codes, decimal, if◌then◌else◌}
use Rattle.keys_reports.specs.declared.report.Report.{Report}

-- the three digits of a number below 1000
abbrev pub three_digits : ℕ → List ℕ
three_digits n = (48 + n / 100) ∷ (48 + n / 10 % 10) ∷ (48 + n % 10) ∷ []

-- a number with a comma before each of its last groups of three digits, at most this many
unfoldable pub grouped : (groups : ℕ) → (number : ℕ) → List ℕ
grouped zero number = decimal number
grouped (suc groups) number =
    if nat_lt number 1000 then decimal number
    else grouped groups (number / 1000) ++ (codes "," ++ three_digits (number % 1000))

-- .. before each group: a number of 128 bits has at most 13 groups of three digits
abbrev pub in_groups : (number : ℕ) → List ℕ
in_groups number = grouped 12 number

-- of this unit and at most this many greater powers of ten, the greatest that is at most a hundredth of a width
unfoldable pub unit_from : (more unit width : ℕ) → ℕ
unit_from zero unit width = unit
unit_from (suc more) unit width = if nat_lt (width / 1000) unit then unit else unit_from more (10 * unit) width

-- the unit to which an estimate is given whose bounds are as far apart as this width
abbrev pub unit_of : (width : ℕ) → ℕ
unit_of width = unit_from 35 1 width

-- the greatest multiple of a unit that is at most a number
abbrev pub lowered : (unit number : ℕ) → ℕ
lowered unit number = number / unit * unit

-- the least multiple that is at least a number; the number itself if that has more than 128 bits
abbrev pub raised : (unit number : ℕ) → ℕ
raised unit number =
    if lowered unit number == number then number
    else if nat_lt (lowered unit number + unit) (2 ^ 128) then lowered unit number + unit
    else number

-- the nearest multiple; of two equally near the greater
abbrev pub nearest_multiple : (unit number : ℕ) → ℕ
nearest_multiple unit number =
    if nat_lt (number - lowered unit number) (unit - (number - lowered unit number)) then lowered unit number else raised unit number

-- an estimate with its bounds, rounded outwards; an exact count alone
abbrev pub human_count : Report → List ℕ
human_count r =
    let unit = unit_of (r.interval.upper - r.interval.lower) in
    if r.exact then in_groups r.estimate
    else codes "about " ++ in_groups (nearest_multiple unit r.estimate)
    ++ codes " (" ++ in_groups (lowered unit r.interval.lower)
    ++ codes " to " ++ in_groups (raised unit r.interval.upper)
    ++ codes ")"

-- the line of a count for people
abbrev pub human_line : Report → List ℕ
human_line r = human_count r ++ codes "\n"

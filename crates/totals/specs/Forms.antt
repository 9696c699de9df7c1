-- The lines that are written of a total. Each ends in an LF.
use Rattle.std.specs.Prelude.{ℕ, ◌++◌, List, [], codes, decimal, if◌then◌else◌}
use Rattle.estimates.specs.declared.bounds.Interval.{Interval}
use Rattle.totals.specs.declared.total.LinesTotal.{LinesTotal}
use Rattle.totals.specs.declared.total.Total.{Total}

-- the line of a total alone; of one that isn't exact, its bounds too
abbrev pub total_line : Total → Interval → List ℕ
total_line t bounds =
    decimal t.total
    ++ (if t.exact then []
    else codes " estimated, from " ++ decimal bounds.lower ++ codes " to " ++ decimal bounds.upper)
    ++ codes "\n"

-- the names of a table's columns, with tabs between them
abbrev pub total_tsv_head : List ℕ
total_tsv_head = codes "total\tlower\tupper\texact\tretained\ttheta\n"

-- the row of a total in a table
abbrev pub total_tsv_row : Total → Interval → List ℕ
total_tsv_row t bounds =
    decimal t.total
    ++ codes "\t" ++ decimal bounds.lower
    ++ codes "\t" ++ decimal bounds.upper
    ++ codes "\t" ++ (if t.exact then codes "true" else codes "false")
    ++ codes "\t" ++ decimal t.retained
    ++ codes "\t" ++ decimal t.theta
    ++ codes "\n"

-- a total as a JSON object, on a line
abbrev pub total_json_line : Total → Interval → List ℕ
total_json_line t bounds =
    codes "{\"total\":" ++ decimal t.total
    ++ codes ",\"lower\":" ++ decimal bounds.lower
    ++ codes ",\"upper\":" ++ decimal bounds.upper
    ++ codes ",\"exact\":" ++ (if t.exact then codes "true" else codes "false")
    ++ codes ",\"retained\":" ++ decimal t.retained
    ++ codes ",\"theta\":" ++ decimal t.theta
    ++ codes "}\n"

-- ---- the total of the numbers of lines, with the number of their keys

abbrev pub lines_total_line : LinesTotal → List ℕ
lines_total_line t = decimal t.total ++ codes "\n"

abbrev pub lines_total_tsv_head : List ℕ
lines_total_tsv_head = codes "total\tkeys\texact\tretained\ttheta\n"

abbrev pub lines_total_tsv_row : LinesTotal → List ℕ
lines_total_tsv_row t =
    decimal t.total
    ++ codes "\t" ++ decimal t.keys
    ++ codes "\t" ++ (if t.exact then codes "true" else codes "false")
    ++ codes "\t" ++ decimal t.retained
    ++ codes "\t" ++ decimal t.theta
    ++ codes "\n"

abbrev pub lines_total_json_line : LinesTotal → List ℕ
lines_total_json_line t =
    codes "{\"total\":" ++ decimal t.total
    ++ codes ",\"keys\":" ++ decimal t.keys
    ++ codes ",\"exact\":" ++ (if t.exact then codes "true" else codes "false")
    ++ codes ",\"retained\":" ++ decimal t.retained
    ++ codes ",\"theta\":" ++ decimal t.theta
    ++ codes "}\n"

-- The lines that are written of a similarity. Each ends in an LF.
use Rattle.std.specs.Prelude.{ℕ, zero, suc, ◌+◌, ◌/◌, ◌%◌, ◌++◌, Bool, true, false, List, [], ◌∷◌, codes, decimal, if◌then◌else◌}
use Rattle.similarities.specs.declared.similarity.Similarity.{Similarity}
use Rattle.similarities.specs.declared.similarity.TheConstants.{MILLION}

-- the last digits of a number, this many, with zeros in front
unfoldable pub last_digits : (places number : ℕ) → List ℕ
last_digits zero number = []
last_digits (suc places) number = last_digits places (number / 10) ++ ((48 + number % 10) ∷ [])

-- millionths as a decimal number of six decimals
abbrev pub share_text : (share : ℕ) → List ℕ
share_text share = decimal (share / MILLION) ++ (codes "." ++ last_digits 6 (share % MILLION))

-- a share and its bounds, with these texts before the bounds
abbrev pub bounded_text : (before_lower before_upper : List ℕ) → Similarity → List ℕ
bounded_text before_lower before_upper s =
    share_text s.share ++ (before_lower ++ (share_text s.interval.lower ++ (before_upper ++ share_text s.interval.upper)))

-- the line of a similarity: the share, and with bounds the lower and the upper one behind it
abbrev pub similarity_line : (with_bounds : Bool) → Similarity → List ℕ
similarity_line with_bounds s =
    if with_bounds then bounded_text (codes " ") (codes " ") s ++ codes "\n" else share_text s.share ++ codes "\n"

abbrev pub truth : Bool → List ℕ
truth true = codes "true"
truth false = codes "false"

-- the names of a table's columns, with tabs between them
abbrev pub similarity_tsv_head : List ℕ
similarity_tsv_head = codes "similarity\tlower\tupper\texact\tshared\tunited\ttheta\n"

-- the row of a similarity in a table
abbrev pub similarity_tsv_row : Similarity → List ℕ
similarity_tsv_row s =
    bounded_text (codes "\t") (codes "\t") s
    ++ (codes "\t" ++ truth s.exact
    ++ codes "\t" ++ decimal s.shared
    ++ codes "\t" ++ decimal s.united
    ++ codes "\t" ++ decimal s.theta
    ++ codes "\n")

-- the fields of a similarity in a JSON object: its share with bounds, and the others, with the end of the object and of its line
abbrev pub json_share : Similarity → List ℕ
json_share s = codes "\"similarity\":" ++ bounded_text (codes ",\"lower\":") (codes ",\"upper\":") s

abbrev pub json_counts : Similarity → List ℕ
json_counts s =
    codes ",\"exact\":" ++ truth s.exact
    ++ codes ",\"shared\":" ++ decimal s.shared
    ++ codes ",\"united\":" ++ decimal s.united
    ++ codes ",\"theta\":" ++ decimal s.theta
    ++ codes "}\n"

abbrev pub similarity_json_rest : Similarity → List ℕ
similarity_json_rest s = json_share s ++ json_counts s

-- a similarity as a JSON object, on a line
abbrev pub similarity_json_line : Similarity → List ℕ
similarity_json_line s = codes "{" ++ similarity_json_rest s

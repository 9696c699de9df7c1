-- What `sum` prints, of all lines or of groups of them.
use Rattle.std.specs.Prelude.{ℕ, ◌≡◌, ◌++◌, List, [], ◌∷◌, Option, Some, None, flat_map}
use Rattle.std.specs.Str.Lossy.{utf8_lossy}
use Rattle.keys_lines.specs.Lines.{lines_of_all}
use Rattle.keys_lines.specs.declared.key.Key.{Key}
use Rattle.keys_reports.specs.Forms.{named_total_json_line, named_total_line, named_total_tsv_head, named_total_tsv_row}
use Rattle.keys_sums.specs.Amounts.{AreNumbers}
use Rattle.keys_sums.specs.declared.addends.Amount.TheVariants.{Number}
use Rattle.keys_groups.specs.Groups.{AreGroups}
use Rattle.keys_totals.specs.Totals.{group_total, ListsTotals}
use Rattle.keys_totals.specs.declared.grouped.GroupTotal.{GroupTotal}
use Rattle.keys_totals.specs.declared.grouped.GroupTotals.{GroupTotals}
use Rattle.distinct_arguments.specs.Settings.{OptionValues, chosen_value}
use Rattle.distinct_arguments.specs.declared.options.Form.{Form}
use Rattle.distinct_arguments.specs.declared.options.Form.TheVariants.{Plain, Tsv, Json}
use Rattle.distinct_commands.specs.Groups.{chosen_order, AreOrdered}
use Rattle.distinct_commands.specs.Ranked.{first_items, reaching}
use Rattle.distinct_commands.specs.Sums.{IsTotalText}

-- what is printed of the total of a group: its name as it is, a tab and the total; in JSON its name in UTF-8, with U+FFFD for
-- what is not
abbrev pub named_total : Form → (name : List ℕ) → (total : ℕ) → List ℕ
named_total Plain name total = named_total_line name total
named_total Tsv name total = named_total_tsv_row name total
named_total Json name total = named_total_json_line (utf8_lossy name) total

-- the head of the table of groups, if there is to be one
abbrev pub totals_head : Form → List ℕ
totals_head Plain = []
totals_head Tsv = named_total_tsv_head
totals_head Json = []

-- the lines of the groups of these names, each with its total
abbrev pub totals_text : Form → (total : List ℕ → ℕ) → (names : List (List ℕ)) → List ℕ
totals_text form total names = flat_map (λ name. named_total form name (total name)) names

-- the first group of those that were left and whose total is at least a number, if there is one, and the others are left now; there
-- is none only if none was left
abbrev pub IsNextReaching : (least : Option ℕ) → (total : List ℕ → ℕ) → (names : List (List ℕ)) → (new : GroupTotals) → Option GroupTotal → Type 0
IsNextReaching least total names new None = reaching least total names ≡ []
IsNextReaching least total names new (Some group) =
    (others : List (List ℕ))
    × (reaching least total names ≡ group.name.items ∷ reaching least total others)
    × (group.total ≡ total group.name.items)
    × ListsTotals total others new

-- What is printed of the groups of these names and totals, after the head: those whose total is at least that of `--min`, if
-- there is one, are put into the order that is chosen, and each of the first ones, as many as `--top` says, or of all has a line.
abbrev pub IsTotalsText : OptionValues → (total : List ℕ → ℕ) → (names : List (List ℕ)) → List ℕ → Type 0
IsTotalsText options total names out =
    (ordered : List (List ℕ))
    × AreOrdered (chosen_order options) total (reaching options.least total names) ordered
    × (out ≡ totals_head options.form ++ totals_text options.form total (first_items options.most ordered))

-- what `sum` prints of the lines of texts by groups, by the part of a line that has its number: each line of all texts has one,
-- and each group has the exact total of those of its own lines
abbrev pub IsGroupTotals : (value : Option Key) → (by : Key) → OptionValues → (texts : List (List ℕ)) → List ℕ → Type 0
IsGroupTotals None by options texts out = ⊥
IsGroupTotals (Some field) by options texts out =
    AreNumbers (Number field) (lines_of_all texts)
    × (names : List (List ℕ))
    × AreGroups by (lines_of_all texts) names
    × IsTotalsText options (group_total by (Number field) (lines_of_all texts)) names out

-- what `sum` prints of texts, by the key of their groups if there is one
abbrev pub IsSumText : (by : Option Key) → OptionValues → (seed : ℕ) → (texts : List (List ℕ)) → List ℕ → Type 0
IsSumText None options seed texts out = IsTotalText (chosen_value options) options seed texts out
IsSumText (Some by) options seed texts out = IsGroupTotals (chosen_value options) by options texts out

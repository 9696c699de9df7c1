use Rattle.std.proofs.Common.{◌≡◌, ◌++◌, take}
use Rattle.std.specs.List.{AllByRecursion, flat_map}
use Rattle.core_images.specs.Summary.{is_tuple_value, tuple_text}
use Rattle.core_images.proofs.summary.TupleSummaryValue.serialize_entries.Given as goal

-- the texts of the entries so far are appended, and these entries are values
abbrev pub invariant-loop-entry : goal.invariant-loop-entry
invariant-loop-entry g l =
    let summary = g.Self.TupleSummaryValue in
    (l.bytes.bytes ≡ l.initial.bytes.bytes ++ flat_map (tuple_text summary.text) (take l.entry-index l.entries)) × AllByRecursion (is_tuple_value summary.is_value) (take l.entry-index l.entries)

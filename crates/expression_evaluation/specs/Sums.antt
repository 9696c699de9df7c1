-- Operators on sketches of sums.
use Rattle.std.specs.Prelude.{ℕ, ◌≡◌, ◌≤◌, min, [], Option, Some, None}
use Rattle.core_laws.specs.Maps.{below, entry_at}
use Rattle.core_laws.specs.Values.{Sketch, Empty, NonEmpty}
use Rattle.core_operators.specs.Union.{Union, IsMergeRefused}
use Rattle.core_slots.specs.Entry.{tuple_key}
use Rattle.core_slots.specs.declared.entry.TupleEntry.{TupleEntry}
use Rattle.tuple_sketches.specs.declared.numbers.SummaryMode.{SummaryMode}
use Rattle.expression_evaluation.specs.Values.{sum_rules, is_too_great}
use Rattle.expression_evaluation.specs.Running.{AreRefused}

-- the policy refuses to intersect the value that an intersection has so far with another
abbrev pub IsRefusedMeet : SummaryMode → Option (Sketch (TupleEntry ℕ)) → Sketch (TupleEntry ℕ) → Type 0
IsRefusedMeet mode None v = ⊥
IsRefusedMeet mode (Some u) v = AreRefused (sum_rules mode) u v

-- the policy refuses to merge an entry of a union, below its theta, with the entry of a value at its key
abbrev pub IsRefusedJoin : {P : Type 0} → SummaryMode → Union (TupleEntry ℕ) P → Sketch (TupleEntry ℕ) → Type 0
IsRefusedJoin mode u Empty = ⊥
IsRefusedJoin mode u (NonEmpty v) =
    IsMergeRefused tuple_key (is_too_great mode) (below tuple_key u.content.entries (min u.content.theta v.theta)) v.entries

-- the entries of a union are entries of a value, below its theta
abbrev pub HasPartOf : {P : Type 0} → Union (TupleEntry ℕ) P → Sketch (TupleEntry ℕ) → Type 0
HasPartOf u Empty = u.content.entries ≡ []
HasPartOf u (NonEmpty v) =
    (u.content.theta ≤ v.theta)
    × ((q : ℕ) (x : TupleEntry ℕ)
    → entry_at tuple_key u.content.entries q ≡ Some x
    → entry_at tuple_key v.entries q ≡ Some x)

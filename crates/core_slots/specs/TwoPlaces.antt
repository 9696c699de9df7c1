-- Two places, of which one is written.
use mir.Syntax.{named}
use Rattle.std.specs.Prelude.{Bool, [], if◌then◌else◌}
use Rattle.std.specs.Borrow.{Lends, MutBor, Fml, RattleType}
use Rattle.core_slots.specs.declared.placing.TwoPlaces.{TwoPlaces}
use Rattle.core_slots.specs.contracts.placing.TwoPlaces.{the_row}

-- once the borrow r ends, one of the places has what was last written through r
abbrev pub ends_chosen : (T : RattleType) → Bool → MutBor (TwoPlaces T.Denot) → MutBor T.Denot → Fml
ends_chosen T is_first s r =
    Lends (the_row (record { mir = named 0; lft = [] }) T) T s r (λ w.
    if is_first then (record s.now { first = record s.now.first { now = w } })
    else (record s.now { second = record s.now.second { now = w } }))

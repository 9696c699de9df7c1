-- What views of theta sketches show.
use Rattle.std.specs.Prelude.{ℕ, List}
use Rattle.core_laws.specs.Entries.{hash_key}
use Rattle.core_operators.specs.Iter.{Remaining}
use Rattle.core_laws.specs.Shown.{Shown}
use Rattle.core_state.specs.declared.view.SketchView.{SketchView}
use Rattle.core_state.specs.View.{shows, lending, sequence}

-- what the sketch of a view shows
abbrev pub view_shows : {Z S : Type 0} → SketchView ℕ Z S → Shown
view_shows view = shows hash_key view

-- what an iterator over its entries returns; it knows their number only over a compact sketch
abbrev pub view_lending : {Z S : Type 0} → SketchView ℕ Z S → Remaining ℕ
view_lending view = lending view

-- its entries, in the order in which an iterator returns them
abbrev pub view_sequence : {Z S : Type 0} → SketchView ℕ Z S → List ℕ
view_sequence view = sequence view

-- What views of sketches show, of either family.
use Rattle.std.specs.Prelude.{ℕ, ◌≡◌, List, map, true, false, refl}
use Rattle.core_compact.specs.CompactState as state
use Rattle.core_compact.specs.CompactState.{compact_value, shown_of}
use Rattle.core_operators.specs.Iter.{Remaining}
use Rattle.core_state.specs.Updatable.{Updatable, sketch_shows, sketch_value}
use Rattle.core_laws.specs.Shown.{Shown, shown_value}
use Rattle.core_state.specs.declared.view.SketchView.{SketchView}
use Rattle.core_state.specs.declared.view.Viewed.{Viewed}
use Rattle.core_state.specs.declared.view.Viewed.TheVariants.{Mutable, Compact}

-- what the sketch of a view shows
abbrev pub viewed_shows : {X Z S : Type 0} → (X → ℕ) → Viewed X Z S → Shown
viewed_shows key (Mutable sketch) = sketch_shows key sketch.now
viewed_shows key (Compact sketch) = shown_of key sketch.now

-- what an iterator over its entries returns; it knows their number only over a compact sketch
abbrev pub viewed_lending : {X Z S : Type 0} → Viewed X Z S → Remaining X
viewed_lending (Mutable sketch) = record { rest = sketch.now.sequence; counted = false }
viewed_lending (Compact sketch) = record { rest = sketch.now.entries; counted = true }

-- what a view shows
abbrev pub shows : {X Z S : Type 0} → (X → ℕ) → SketchView X Z S → Shown
shows key view = viewed_shows key view.sketch

-- what an iterator over a view's entries returns
abbrev pub lending : {X Z S : Type 0} → SketchView X Z S → Remaining X
lending view = viewed_lending view.sketch

-- the entries of a view, in the order in which its iterator returns them
abbrev pub sequence : {X Z S : Type 0} → SketchView X Z S → List X
sequence view = (lending view).rest

-- the entries of a view have the hashes that it shows
pub hashes_listed : {X Z S : Type 0} (key : X → ℕ) (view : SketchView X Z S) → map key (sequence view) ≡ (shows key view).hashes
hashes_listed key view =
    elim view.sketch as (λ v. map key (viewed_lending v).rest ≡ (viewed_shows key v).hashes) [
      | Mutable sketch ↦ refl
      | Compact sketch ↦ refl
    ]

-- a view of this sketch: what the sketch shows, its entries and its value
abbrev pub ViewsSketch : {X Z S : Type 0} → (key : X → ℕ) → SketchView X Z S → Updatable X → Type 0
ViewsSketch key view s =
    (shows key view ≡ sketch_shows key s)
    × (sequence view ≡ s.sequence)
    × (shown_value key (shows key view) (sequence view) ≡ sketch_value s)

-- a view of this compact sketch: what the sketch shows, its entries and its value
abbrev pub ViewsCompact : {X Z S : Type 0} → (key : X → ℕ) → SketchView X Z S → state.Compact X → Type 0
ViewsCompact key view s =
    (shows key view ≡ shown_of key s)
    × (sequence view ≡ s.entries)
    × (shown_value key (shows key view) (sequence view) ≡ compact_value key s)

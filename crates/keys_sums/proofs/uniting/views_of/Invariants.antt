use Rattle.std.proofs.Common.{◌≡◌, map, take}
use Rattle.core_compact.specs.CompactState.{shown_of}
use Rattle.core_laws.specs.Folds.{unmarked_value}
use Rattle.core_laws.specs.Shown.{shown_value}
use Rattle.core_slots.specs.Entry.{tuple_key}
use Rattle.core_state.specs.View.{shows, sequence}
use Rattle.keys_sums.specs.Unions.{folds_of_sketches}
use Rattle.keys_sums.proofs.uniting.views_of.Given as goal

-- the views so far show the first sketches
abbrev pub invariant-loop-sketch : goal.invariant-loop-sketch
invariant-loop-sketch g l = record {
  shown : map (λ view. shows tuple_key view) l.views.items ≡ map (shown_of tuple_key) (take l.sketch-index l.sketches);
  values : map (λ view. unmarked_value (shown_value tuple_key (shows tuple_key view) (sequence view))) l.views.items ≡ folds_of_sketches (take l.sketch-index l.sketches);
}

use Rattle.std.proofs.Common.{◌≡◌, map, take}
use Rattle.core_compact.specs.CompactState.{shown_of, compact_value}
use Rattle.core_laws.specs.Entries.{hash_key}
use Rattle.core_laws.specs.Shown.{shown_value}
use Rattle.theta_sketches.specs.View.{view_shows, view_sequence}
use Rattle.keys_sketches.proofs.uniting.views_of.Given as goal

-- the views so far show the first sketches
abbrev pub invariant-loop-sketch : goal.invariant-loop-sketch
invariant-loop-sketch g l = record {
  shown : map (λ view. view_shows view) l.views.items ≡ map (shown_of hash_key) (take l.sketch-index l.sketches);
  listed : map (λ view. view_sequence view) l.views.items ≡ map (λ s. s.entries) (take l.sketch-index l.sketches);
  values : map (λ view. shown_value hash_key (view_shows view) (view_sequence view)) l.views.items ≡ map (λ s. compact_value hash_key s) (take l.sketch-index l.sketches);
}

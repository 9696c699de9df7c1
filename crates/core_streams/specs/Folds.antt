-- Sketches and unions in folds, none of them a mark.
use Rattle.std.specs.Prelude.{map}
use Rattle.core_laws.specs.Folds.{Fold, Value, unmarked}
use Rattle.core_operators.specs.Union.{Union}
use Rattle.core_state.specs.Updatable.{Updatable}
use Rattle.core_table.specs.HashTable.{MapTable}

-- a table in folds
abbrev pub unmarked_table : {X : Type 0} → MapTable X → MapTable (Fold X)
unmarked_table t =
    record {
      kept = unmarked t.kept;
      lg_nom = t.lg_nom;
      has_slots = t.has_slots;
      start = t.start;
      seed = t.seed;
      seed_hash = t.seed_hash;
    }

-- a sketch in folds
abbrev pub unmarked_sketch : {X : Type 0} → Updatable X → Updatable (Fold X)
unmarked_sketch s = record { empty = s.empty; map = unmarked_table s.map; sequence = map Value s.sequence }

-- a union in folds
abbrev pub unmarked_union : {X P : Type 0} → Union X P → Union (Fold X) P
unmarked_union u =
    record {
      empty = u.empty;
      failed = u.failed;
      content = unmarked u.content;
      lg_k = u.lg_k;
      start = u.start;
      seed_hash = u.seed_hash;
      policy = u.policy;
    }

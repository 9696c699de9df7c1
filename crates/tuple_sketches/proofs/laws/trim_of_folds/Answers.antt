use Rattle.std.proofs.Common.{refl, sym}
use Rattle.core_laws.specs.Folds.{Value, fold_key}
use Rattle.core_laws.proofs.maps.MappedEntries.{cut-map}
use Rattle.core_slots.specs.Entry.{tuple_key}
use Rattle.tuple_sketches.proofs.laws.trim_of_folds.Goals as goal

pub returns : goal.returns
returns g c = λ k v. sym (cut-map Value tuple_key (fold_key tuple_key) (λ x. refl) k v.entries v.theta)

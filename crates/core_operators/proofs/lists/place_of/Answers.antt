use Rattle.std.proofs.Common.{rules}
use Rattle.std.proofs.lemmas.List.Sorted.{answers_always}
use Rattle.core_laws.proofs.maps.BinarySearch.{searched}
use Rattle.core_operators.proofs.lists.place_of.Goals as goal

pub returns : goal.returns
returns g c =
    let facts = c.binary_search_by_key.ensures in
    let by_key = facts.position g.E.SketchEntry.key (answers_always _ _ _ (λ f a r g' called. search rules)) in
    searched _ _ c.requires c.args.hash _ facts.bound by_key

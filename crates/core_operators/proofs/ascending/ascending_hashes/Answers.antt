use Rattle.std.proofs.Common.{◌∙◌, sym}
use Rattle.core_laws.specs.Maps.{IsAscending, below}
use Rattle.core_laws.specs.Entries.{hash_key}
use Rattle.core_laws.proofs.maps.Ascending.{ascending-filter}
use Rattle.core_table.proofs.OtherOrders.{map_of-ascending}
use Rattle.core_operators.proofs.DifferenceEntries.{some_apart}
use Rattle.core_operators.proofs.ascending.ascending_hashes.Goals as goal

pub hashes_below-requires : goal.hashes_below-requires
hashes_below-requires g c = record { in_order = λ e. rw c.hashes-hashes.ensures.all (c.hashes-hashes.ensures.sound.ascending (c.requires ∙ e)) }

pub returns-then-ordered-clause-ok : goal.returns-then-ordered-clause-ok
returns-then-ordered-clause-ok g c =
    let hashes = (g.T.KeySketch.shown c.args.sketch).hashes in
    let up : IsAscending hash_key (below hash_key hashes c.args.theta) = ascending-filter hash_key _ hashes (c.hashes-hashes.ensures.sound.ascending (c.requires ∙ c.if-ordered.true)) in
    (rw c.hashes-hashes.ensures.all at c.in_ok-keys.ensures.ok) ∙ sym (map_of-ascending hash_key (below hash_key hashes c.args.theta) up)

pub sorted_by_hash-requires : goal.sorted_by_hash-requires
sorted_by_hash-requires g c = rw (c.in_ok-keys.ensures.ok, c.hashes-hashes.ensures.all) (some_apart _ (g.T.KeySketch.shown c.args.sketch).hashes c.hashes-hashes.ensures.sound.distinct)

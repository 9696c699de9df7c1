use Rattle.std.proofs.Common.{◌∙◌, sym, ap}
use Rattle.core_laws.specs.Maps.{IsAscending, below}
use Rattle.core_laws.proofs.maps.MapsOfLists.{ascending-from_map}
use Rattle.core_table.proofs.OtherOrders.{map_of-ascending}
use Rattle.core_operators.proofs.DifferenceEntries.{map_of_below}
use Rattle.core_operators.proofs.SharedEntries.{apart_listed}
use Rattle.core_operators.proofs.ascending.ascending_entries.Goals as goal

pub entries_below-requires-clause-in_order : goal.entries_below-requires-clause-in_order
entries_below-requires-clause-in_order g c =
    let sketch = c.entries-items.ensures in
    λ e. rw sketch.all (ascending-from_map g.S.Entry.SketchEntry.key (g.S.EntrySketch.listing c.args.sketch) (rw sketch.hashes (sketch.sound.ascending (c.requires.in_order ∙ e))))

pub returns-then-ordered-clause-ok : goal.returns-then-ordered-clause-ok
returns-then-ordered-clause-ok g c =
    let key = g.S.Entry.SketchEntry.key in
    let listing = g.S.EntrySketch.listing c.args.sketch in
    let up : IsAscending key listing = ascending-from_map key listing (rw c.entries-items.ensures.hashes (c.entries-items.ensures.sound.ascending (c.requires.in_order ∙ c.if-ordered.true))) in
    (rw c.entries-items.ensures.all at c.in_ok-entries.ensures.ok) ∙ ap (λ zs. below key zs c.args.theta) (sym (map_of-ascending key listing up))

pub sorted_by_hash-requires : goal.sorted_by_hash-requires
sorted_by_hash-requires g c =
    rw (c.in_ok-entries.ensures.ok, c.entries-items.ensures.all) (apart_listed g.S.Entry.SketchEntry.key _ (g.S.KeySketch.shown c.args.sketch) (g.S.EntrySketch.listing c.args.sketch) c.entries-items.ensures.hashes c.entries-items.ensures.sound)

pub returns-clause-ok : goal.returns-clause-ok
returns-clause-ok g c =
    rw (c.sorted_by_hash.ensures, c.in_ok-entries.ensures.ok, c.entries-items.ensures.all) (map_of_below g.S.Entry.SketchEntry.key (g.S.EntrySketch.listing c.args.sketch) c.args.theta)

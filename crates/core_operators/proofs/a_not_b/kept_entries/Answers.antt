use Rattle.std.proofs.Common.{ltb, ◌≡◌, ◌∙◌, length, refl, sym, ap, arith}
use Rattle.std.proofs.lemmas.Result.{IfOk-weaker}
use Rattle.core_laws.specs.Maps.{below, map_of}
use Rattle.core_laws.specs.Entries.{hash_key}
use Rattle.core_laws.specs.Operators.{lacking}
use Rattle.core_laws.proofs.maps.Ascending.{ascending-filter}
use Rattle.core_laws.proofs.maps.MapsOfLists.{ascending-map_of, apart-distinct}
use Rattle.core_table.proofs.OtherOrders.{map_of-ascending}
use Rattle.core_operators.proofs.DifferenceEntries.{below_twice}
use Rattle.core_operators.proofs.SharedEntries.{ascending_listed, few_passing}
use Rattle.core_operators.proofs.a_not_b.kept_entries.Goals as goal

pub lacking_hashes-requires-clause-ascending : goal.lacking_hashes-requires-clause-ascending
lacking_hashes-requires-clause-ascending g c =
    ascending_listed _ _ (g.S.EntrySketch.listing c.args.a) _ (c.in-Some.ensures.left ∙ c.entries-list.ensures.all) c.entries-list.ensures.hashes c.entries-list.ensures.sound (c.requires.a_in_order ∙ c.if-a_ordered.true)

pub returns-in-Some-clause-ok : goal.returns-in-Some-clause-ok
returns-in-Some-clause-ok g c =
    let listing = g.S.EntrySketch.listing c.args.a in
    let key = g.S.Entry.SketchEntry.key in
    let hashes = (g.T.KeySketch.shown c.args.b).hashes in
    let up = ascending_listed key (g.S.KeySketch.shown c.args.a) listing listing refl c.entries-list.ensures.hashes c.entries-list.ensures.sound (c.requires.a_in_order ∙ c.if-a_ordered.true) in
    let same : c.in-Some.entries.now ≡ map_of key listing = c.in-Some.ensures.left ∙ c.entries-list.ensures.all ∙ sym (map_of-ascending key listing up) in
    IfOk-weaker c.lacking_hashes.result _ _ (λ v e. e ∙ ap (λ zs. lacking key hash_key (below key zs c.args.theta) hashes) same) c.lacking_hashes.ensures.ok

pub lacking_hashes-requires-2-clause-ascending : goal.lacking_hashes-requires-2-clause-ascending
lacking_hashes-requires-2-clause-ascending g c =
    let key = g.S.Entry.SketchEntry.key in
    let listing = g.S.EntrySketch.listing c.args.a in
    rw (c.deref.ensures.value, c.in_ok-entries.ensures.ok) (ascending-filter key _ (map_of key listing) (ascending-map_of key listing))

pub returns-clause-ok : goal.returns-clause-ok
returns-clause-ok g c =
    let key = g.S.Entry.SketchEntry.key in
    let hashes = (g.T.KeySketch.shown c.args.b).hashes in
    let whole = map_of key (g.S.EntrySketch.listing c.args.a) in
    let entries_are : c.deref.result.now ≡ below key whole c.args.theta = c.deref.ensures.value ∙ c.in_ok-entries.ensures.ok in
    IfOk-weaker c.lacking_hashes-2.result _ _ (λ v e. e ∙ ap (λ zs. lacking key hash_key (below key zs c.args.theta) hashes) entries_are ∙ ap (λ zs. lacking key hash_key zs hashes) (below_twice key whole c.args.theta)) c.lacking_hashes-2.ensures.ok

pub returns-clause-compared : goal.returns-clause-compared
returns-clause-compared g c =
    let key = g.S.Entry.SketchEntry.key in
    let listing = g.S.EntrySketch.listing c.args.a in
    let entries_are : c.deref.result.now ≡ below key (map_of key listing) c.args.theta = c.deref.ensures.value ∙ c.in_ok-entries.ensures.ok in
    let few = few_passing key (λ x. ltb (key x) c.args.theta) listing (apart-distinct key listing (rw c.entries-list.ensures.hashes c.entries-list.ensures.sound.distinct)) in
    omega (arith, few, ap length entries_are, c.lacking_hashes-2.ensures.compared)

use Rattle.std.proofs.Common.{◌≡◌, ◌∙◌, length, refl, ap, inl, inr, arith}
use Rattle.std.proofs.lemmas.Result.{IfOk-weaker, IfErr-weaker}
use Rattle.std.specs.List.{filter}
use Rattle.core_laws.specs.Maps.{map_of}
use Rattle.core_laws.proofs.maps.MapsOfLists.{apart-distinct}
use Rattle.core_table.proofs.OtherOrders.{map_of-ascending}
use Rattle.core_operators.proofs.Admitted.{narrowed_ascends}
use Rattle.core_operators.proofs.SharedEntries.{read_tested, refused_tested, ascending_listed, few_passing}
use Rattle.core_operators.proofs.share.shared_with.Goals as goal

pub shared_entries-requires-clause-arriving_ascend : goal.shared_entries-requires-clause-arriving_ascend
shared_entries-requires-clause-arriving_ascend g c =
    ascending_listed _ _ (g.S.EntrySketch.listing c.args.sketch) _ (c.in-Some.ensures.left ∙ c.entries-list.ensures.all) c.entries-list.ensures.hashes c.entries-list.ensures.sound (c.requires.in_order ∙ c.if-ordered.true)

pub returns-in-Some-clause-all : goal.returns-in-Some-clause-all
returns-in-Some-clause-all g c =
    let key = g.S.Entry.SketchEntry.key in
    let listing = g.S.EntrySketch.listing c.args.sketch in
    let all : c.in-Some.arriving.now ≡ listing = c.in-Some.ensures.left ∙ c.entries-list.ensures.all in
    let up = ascending_listed key (g.S.KeySketch.shown c.args.sketch) listing listing refl c.entries-list.ensures.hashes c.entries-list.ensures.sound (c.requires.in_order ∙ c.if-ordered.true) in
    rw (map_of-ascending key listing up, ← all, ← c.deref.ensures.value) c.shared_entries.ensures.all

pub shared_entries-requires-2-clause-arriving_ascend : goal.shared_entries-requires-2-clause-arriving_ascend
shared_entries-requires-2-clause-arriving_ascend g c =
    let key = g.S.Entry.SketchEntry.key in
    rw c.deref-4.ensures.value (narrowed_ascends key key _ c.args.theta (g.S.EntrySketch.listing c.args.sketch) c.in_ok-arriving.arriving.items c.in_ok-arriving.ensures.ok)

pub returns-clause-all : goal.returns-clause-all
returns-clause-all g c =
    let key = g.S.Entry.SketchEntry.key in
    let listing = g.S.EntrySketch.listing c.args.sketch in
    let merges = g.P.IntersectionMergePolicy.merges c.args.policy.now in
    let refuses = g.P.IntersectionMergePolicy.refuses c.args.policy.now in
    let keeps = g.met.P.IntersectionMergePolicy.keeps_hash c.args.policy.now in
    let narrowed = c.in_ok-arriving.ensures.ok in
    let arriving_is : c.deref-4.result.now ≡ filter (λ x. narrowed.test (key x)) (map_of key listing) = c.deref-4.ensures.value ∙ narrowed.kept in
    IfOk-weaker c.shared_entries-2.result _ _ (λ v e. e ∙ rw (arriving_is, c.deref-3.ensures.value) (read_tested key merges refuses keeps narrowed.test (map_of key listing) c.args.content.now.items c.args.theta (rw c.deref-2.ensures.value at narrowed.passes))) c.shared_entries-2.ensures.all

pub returns-clause-refused : goal.returns-clause-refused
returns-clause-refused g c =
    let key = g.S.Entry.SketchEntry.key in
    let refuses = g.P.IntersectionMergePolicy.refuses c.args.policy.now in
    let listing = g.S.EntrySketch.listing c.args.sketch in
    let narrowed = c.in_ok-arriving.ensures.ok in
    let arriving_is : c.deref-4.result.now ≡ filter (λ x. narrowed.test (key x)) (map_of key listing) = c.deref-4.ensures.value ∙ narrowed.kept in
    IfErr-weaker c.shared_entries-2.result _ _ (λ e why. elim (rw (arriving_is, c.deref-3.ensures.value) at why) [
      | inl o ↦ inl o
      | inr r ↦ inr (r.0, refused_tested key refuses _ listing narrowed.test r.1)
    ]) c.shared_entries-2.ensures.refused

pub returns-clause-compared : goal.returns-clause-compared
returns-clause-compared g c =
    let key = g.S.Entry.SketchEntry.key in
    let listing = g.S.EntrySketch.listing c.args.sketch in
    let narrowed = c.in_ok-arriving.ensures.ok in
    let arriving_is : c.deref-4.result.now ≡ filter (λ x. narrowed.test (key x)) (map_of key listing) = c.deref-4.ensures.value ∙ narrowed.kept in
    let few = few_passing key (λ x. narrowed.test (key x)) listing (apart-distinct key listing (rw c.entries-list.ensures.hashes c.entries-list.ensures.sound.distinct)) in
    omega (arith, few, ap length arriving_is, ap length c.deref-3.ensures.value, c.shared_entries-2.ensures.compared)

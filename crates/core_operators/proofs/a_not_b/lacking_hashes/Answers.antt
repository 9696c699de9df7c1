use Rattle.std.proofs.Common.{◌≡◌, ◌∙◌, length, map, ap, arith}
use Rattle.std.specs.List.{filter}
use Rattle.std.proofs.lemmas.List.{length-map}
use Rattle.std.proofs.lemmas.Result.{IfOk-weaker}
use Rattle.core_laws.specs.Maps.{map_of}
use Rattle.core_laws.specs.Entries.{hash_key}
use Rattle.core_laws.proofs.maps.MapsOfLists.{ascending-from_map}
use Rattle.core_operators.proofs.Admitted.{narrowed_ascends}
use Rattle.core_operators.proofs.DifferenceEntries.{kept_of_hashes, kept_tested, few_hashes}
use Rattle.core_operators.proofs.a_not_b.lacking_hashes.Goals as goal

pub ascending_difference-requires-clause-others_ascend : goal.ascending_difference-requires-clause-others_ascend
ascending_difference-requires-clause-others_ascend g c =
    let others_are : map g.F.SketchEntry.key c.in-Some.hashes.now ≡ (g.T.KeySketch.shown c.args.b).hashes = c.requires.others c.in-Some.hashes c.in-Some.is in
    ascending-from_map g.F.SketchEntry.key c.in-Some.hashes.now (rw others_are (c.requires.b_sound.ascending (c.requires.b_in_order ∙ c.if-b_ordered.true)))

pub returns-in-Some-clause-ok : goal.returns-in-Some-clause-ok
returns-in-Some-clause-ok g c =
    let key = g.E.SketchEntry.key in
    let other = g.F.SketchEntry.key in
    let others_are : map other c.in-Some.hashes.now ≡ (g.T.KeySketch.shown c.args.b).hashes = c.requires.others c.in-Some.hashes c.in-Some.is in
    IfOk-weaker c.ascending_difference.result _ _ (λ v e. e ∙ rw (← others_are) (kept_of_hashes key other c.args.theta c.args.entries.now c.in-Some.hashes.now)) c.ascending_difference.ensures.ok

pub returns-in-Some-clause-compared : goal.returns-in-Some-clause-compared
returns-in-Some-clause-compared g c =
    let others_are : map g.F.SketchEntry.key c.in-Some.hashes.now ≡ (g.T.KeySketch.shown c.args.b).hashes = c.requires.others c.in-Some.hashes c.in-Some.is in
    omega (arith, ap length others_are, length-map c.in-Some.hashes.now g.F.SketchEntry.key, c.ascending_difference.ensures.compared)

pub ascending_difference-requires-2-clause-others_ascend : goal.ascending_difference-requires-2-clause-others_ascend
ascending_difference-requires-2-clause-others_ascend g c =
    rw c.deref.ensures.value (narrowed_ascends hash_key g.E.SketchEntry.key c.args.entries.now c.args.theta (g.T.KeySketch.shown c.args.b).hashes c.in_ok-keys.keys.items c.in_ok-keys.ensures.ok)

pub returns-clause-ok : goal.returns-clause-ok
returns-clause-ok g c =
    let key = g.E.SketchEntry.key in
    let hashes = (g.T.KeySketch.shown c.args.b).hashes in
    let narrowed = c.in_ok-keys.ensures.ok in
    let keys_are : c.deref.result.now ≡ filter (λ h. narrowed.test (hash_key h)) (map_of hash_key hashes) = c.deref.ensures.value ∙ narrowed.kept in
    IfOk-weaker c.ascending_difference-2.result _ _ (λ v e. e ∙ rw keys_are (kept_tested key narrowed.test c.args.entries.now hashes c.args.theta narrowed.passes)) c.ascending_difference-2.ensures.ok

pub returns-clause-compared : goal.returns-clause-compared
returns-clause-compared g c =
    let hashes = (g.T.KeySketch.shown c.args.b).hashes in
    let narrowed = c.in_ok-keys.ensures.ok in
    let keys_are : c.deref.result.now ≡ filter (λ h. narrowed.test (hash_key h)) (map_of hash_key hashes) = c.deref.ensures.value ∙ narrowed.kept in
    omega (arith, ap length keys_are, few_hashes (λ h. narrowed.test (hash_key h)) hashes c.requires.b_sound.distinct, c.ascending_difference-2.ensures.compared)

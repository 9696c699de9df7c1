use Rattle.std.proofs.Common.{refl, ◌∙◌}
use Rattle.std.proofs.lemmas.Result.{IfOk-weaker}
use Rattle.core_laws.specs.Entries.{hash_key}
use Rattle.core_operators.proofs.Admitted.{narrowed_below, narrowed_admitted}
use Rattle.core_operators.proofs.DifferenceEntries.{some_apart, map_of_below}
use Rattle.core_operators.proofs.ascending.narrowed_hashes.Goals as goal

pub returns-then-ordered-clause-ok : goal.returns-then-ordered-clause-ok
returns-then-ordered-clause-ok g c =
    let hashes = (g.T.KeySketch.shown c.args.sketch).hashes in
    IfOk-weaker c.ascending_hashes.result _ _ (λ v e. narrowed_below hash_key g.F.SketchEntry.key c.args.others.now c.args.theta hashes v.items (e ∙ map_of_below hash_key hashes c.args.theta)) c.ascending_hashes.ensures.ok

pub sorted_by_hash-requires : goal.sorted_by_hash-requires
sorted_by_hash-requires g c = rw (c.in_ok-keys.ensures.ok, c.hashes-hashes.ensures.all) (some_apart _ (g.T.KeySketch.shown c.args.sketch).hashes c.hashes-hashes.ensures.sound.distinct)

pub returns-clause-ok : goal.returns-clause-ok
returns-clause-ok g c =
    let hashes = (g.T.KeySketch.shown c.args.sketch).hashes in
    let f = c.in_ok-filter.filter in
    narrowed_admitted hash_key g.F.SketchEntry.key c.args.others.now c.args.theta hashes c.sorted_by_hash.result.items f.words.items f.shift c.in_ok-filter.ensures.admits (rw (c.sorted_by_hash.ensures, c.in_ok-keys.ensures.ok, c.hashes-hashes.ensures.all) refl)

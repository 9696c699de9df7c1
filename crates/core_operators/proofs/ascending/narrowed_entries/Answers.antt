use Rattle.std.proofs.Common.{refl}
use Rattle.std.proofs.lemmas.Result.{IfOk-weaker}
use Rattle.core_operators.proofs.SharedEntries.{apart_listed}
use Rattle.core_operators.proofs.Admitted.{narrowed_below, narrowed_admitted}
use Rattle.core_operators.proofs.ascending.narrowed_entries.Goals as goal

pub returns-then-ordered-clause-ok : goal.returns-then-ordered-clause-ok
returns-then-ordered-clause-ok g c =
    IfOk-weaker c.ascending_entries.result _ _ (λ v e. narrowed_below g.S.Entry.SketchEntry.key g.F.SketchEntry.key c.args.others.now c.args.theta (g.S.EntrySketch.listing c.args.sketch) v.items e) c.ascending_entries.ensures.ok

pub sorted_by_hash-requires : goal.sorted_by_hash-requires
sorted_by_hash-requires g c =
    rw (c.in_ok-entries.ensures.ok, c.entries-items.ensures.all) (apart_listed g.S.Entry.SketchEntry.key _ (g.S.KeySketch.shown c.args.sketch) (g.S.EntrySketch.listing c.args.sketch) c.entries-items.ensures.hashes c.entries-items.ensures.sound)

pub returns-clause-ok : goal.returns-clause-ok
returns-clause-ok g c =
    let key = g.S.Entry.SketchEntry.key in
    let listing = g.S.EntrySketch.listing c.args.sketch in
    let f = c.in_ok-filter.filter in
    narrowed_admitted key g.F.SketchEntry.key c.args.others.now c.args.theta listing c.sorted_by_hash.result.items f.words.items f.shift c.in_ok-filter.ensures.admits (rw (c.sorted_by_hash.ensures, c.in_ok-entries.ensures.ok, c.entries-items.ensures.all) refl)

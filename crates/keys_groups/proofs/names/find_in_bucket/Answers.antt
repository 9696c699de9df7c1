use Rattle.std.proofs.Common.{◌≡◌, Some, arith}
use Rattle.std.specs.Prelude.{slice_get}
use Rattle.std.proofs.lemmas.Option.{slice_get_within}
use Rattle.keys_groups.specs.Names.{texts_of, mark_of}
use Rattle.keys_groups.proofs.Marks.{no_place}
use Rattle.keys_groups.proofs.names.find_in_bucket.Goals as goal

pub loop-place-preserved : goal.loop-place-preserved
loop-place-preserved g c =
    no_place c.args.bucket.now c.args.hash c.tag_of-tag.result c.loop-place.place _ (λ number. slice_get (texts_of c.args.entries.now) number ≡ Some c.args.name.now) c.tag_of-tag.ensures c.loop-place.invariant c.in_default.ensures.absent

pub returns-clause-absent : goal.returns-clause-absent
returns-clause-absent g c = λ place number is.
    c.loop-place.invariant place number (omega (arith, slice_get_within c.args.bucket.now place (mark_of c.args.hash number) is, c.told-bucket, c.loop-place-test.false)) is

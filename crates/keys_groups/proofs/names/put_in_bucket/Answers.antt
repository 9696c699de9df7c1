use Rattle.std.proofs.Common.{◌<◌, length, refl, arith}
use Rattle.std.proofs.lemmas.Option.{slice_get_read, slice_get_within}
use Rattle.keys_groups.proofs.Marks.{marks_kept, mark_put}
use Rattle.keys_groups.proofs.names.put_in_bucket.Goals as goal

pub returns-clause-kept : goal.returns-clause-kept
returns-clause-kept c =
    let buckets = c.args.buckets.now.items in
    let inside : c.args.at < length buckets = omega (arith, c.if-at-len.false, c.len.ensures, c.args.buckets.now.ok.0) in
    let free = c.in-Some.ensures.free in
    marks_kept buckets c.args.at c.in-Some.place c.index.result.now free.0 c.args.mark inside (slice_get_read buckets (length buckets) c.args.at c.index.result.now refl inside c.index.ensures) free.1 free.2

pub returns-clause-put : goal.returns-clause-put
returns-clause-put c = λ _.
    let buckets = c.args.buckets.now.items in
    let free = c.in-Some.ensures.free in
    mark_put buckets c.args.at c.in-Some.place c.index.result.now free.0 c.args.mark (omega (arith, c.if-at-len.false, c.len.ensures, c.args.buckets.now.ok.0)) (slice_get_within c.index.result.now c.in-Some.place free.0 free.1)

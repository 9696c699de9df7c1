use Rattle.std.proofs.Common.{refl, inl}
use Rattle.c_objects.specs.SumsUnion.{AddsShownSums, sums_union_mode}
use Rattle.c_objects.proofs.Summed.{part_more}
use Rattle.c_objects.proofs.sums_union.add.Goals as goal

pub returns-in-Ok : goal.returns-in-Ok
unfolding AddsShownSums
returns-in-Ok c =
    let e = c.in-Ok.ensures in (refl, inl (refl, (e.accepted, e.skipped, e.united, e.joined, e.made_with, part_more (sums_union_mode c.args.union.now) _ _ _ e.given)))

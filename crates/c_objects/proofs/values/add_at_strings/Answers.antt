use Rattle.std.proofs.Common.{ℕ, List, inl, subst, ◌∙◌}
use Rattle.c_objects.specs.Values.{AddsValues}
use Rattle.c_objects.proofs.values.add_at_strings.Goals as goal

pub returns-in-Ok : goal.returns-in-Ok
returns-in-Ok c =
    let same = c.as_slice.ensures.value ∙ c.in-Ok.ensures.hashes in
    let added =
    subst (λ (hs : List ℕ). AddsValues hs c.args.values.now c.add_at_hashes.new.added c.args.sums.now c.add_at_hashes.result c.add_at_hashes.new.sums) same c.add_at_hashes.ensures in
    inl (c.in-Ok.ensures.valid, added)

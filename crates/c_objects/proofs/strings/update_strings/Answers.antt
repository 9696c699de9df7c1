use Rattle.std.proofs.Common.{ℕ, List, inl, subst, ◌∙◌}
use Rattle.c_objects.specs.Thetas.{UpdatesHashes}
use Rattle.c_objects.proofs.strings.update_strings.Goals as goal

pub returns-in-Ok : goal.returns-in-Ok
returns-in-Ok c =
    let same = c.as_slice.ensures.value ∙ c.in-Ok.ensures.hashes in
    let updates =
    subst (λ (hs : List ℕ). UpdatesHashes hs c.args.theta.now c.update_hashes.result c.update_hashes.new.theta) same c.update_hashes.ensures in
    inl (c.in-Ok.ensures.valid, updates)

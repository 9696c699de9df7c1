use Rattle.c_handles.proofs.Lending.{meets, refl}
use Rattle.c_handles.proofs.Values.{Owned}
use Rattle.c_objects.specs.contracts.sums_union.SeededSumsUnion.{the_row as object}
use Rattle.c_handles.specs.contracts.handles.SumsUnionHandle.{the_row as handle}
use Rattle.c_handles.proofs.handles.SumsUnionHandle.owned.Statement.{statement}
use Rattle.c_handles.proofs.handles.SumsUnionHandle.owned.Code.{unfolded}

pub owned_spec : {M : Type 1} → statement M
owned_spec 𝓤 𝓛 𝓜 𝓡 wired =
    meets handle (Owned object) (λ d. record { at = d.at; value = d.value }) (λ w. record { at = w.at; value = w.value }) refl (λ d vs. refl) (λ w vs. refl) 𝓛 𝓜 𝓡 _ _ _ _ _ (unfolded 𝓤 𝓛.H 𝓜 𝓡 wired)

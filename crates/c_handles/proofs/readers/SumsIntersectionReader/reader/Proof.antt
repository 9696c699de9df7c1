use Rattle.c_handles.proofs.Lending.{meets, refl}
use Rattle.c_objects.specs.contracts.sums_intersection.SeededSumsIntersection.{the_row as object}
use Rattle.c_handles.specs.contracts.reader.Reader.{the_row as Reader}
use Rattle.c_handles.specs.contracts.readers.SumsIntersectionReader.{the_row as handle}
use Rattle.c_handles.proofs.readers.SumsIntersectionReader.reader.Statement.{statement}
use Rattle.c_handles.proofs.readers.SumsIntersectionReader.reader.Code.{unfolded}

pub reader_spec : {M : Type 1} → statement M
reader_spec 𝓤 𝓛 𝓜 𝓡 wired =
    meets handle (Reader object) (λ d. record { at = d.at; loan = d.loan; share = d.share; value = d.value }) (λ w. record { at = w.at; loan = w.loan; share = w.share; value = w.value }) refl (λ d vs. refl) (λ w vs. refl) 𝓛 𝓜 𝓡 _ _ _ _ _ (unfolded 𝓤 𝓛.H 𝓜 𝓡 wired)

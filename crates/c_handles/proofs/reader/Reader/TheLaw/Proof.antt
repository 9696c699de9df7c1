-- A `&` to a reader holds a part of its loan, and a `&` to the object for the loan. Assumes `Logic`.
use denote.RattleType.{RattleType}
use denote.Param.Laws.{Laws}
use denote.Param.Shared.{copy_shared}
use denote.Struct.Field.{RawPtr-field}
use denote.Struct.Laws.{RawPtr-copy}
use denote.Struct.Lending.{of_Lends}
use Rattle.c_handles.specs.contracts.reader.Reader as C
use Rattle.c_handles.proofs.reader.Reader.TheLaw.Statement.{statement}
use Rattle.c_handles.proofs.Loans.{reader_lends-laws, Lends-reader}

pub shares : (T : RattleType) (L : Laws T) → statement T L
shares T L = of_Lends (C.struct T) (C.the_codes T.Denot T.coded) (C.the_heap T) (C.the_lent T)
    (λ d p. reader_lends-laws T L.shr_laws d.at d.loan d.value) (copy_shared RawPtr-field RawPtr-copy, tt)
    (λ M 𝓤 𝓛 d p. Lends-reader T L.shr_laws d.at d.loan 𝓛 d.share d.value (C.the_row T).lives)

use Rattle.tuple_sketches.proofs.ReadBack.{spells_again}
use Rattle.tuple_sketches.proofs.laws.read_again.Goals as goal

pub returns : goal.returns
returns g c s rest w values low high =
    let summary = g.S.TupleSummaryValue in
    record { seeded = low; spelled = spells_again summary.spells summary.text summary.is_value g.met.S.TupleSummaryValue.text_spells s rest w values high }

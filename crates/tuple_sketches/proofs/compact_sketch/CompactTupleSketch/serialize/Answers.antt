use Rattle.std.proofs.Common.{◌<◌, ◌^◌, ap, ◌∙◌, subst}
use Rattle.core_compact.specs.CompactState.{Compact, IsCompact}
use Rattle.core_slots.specs.Entry.{tuple_key}
use Rattle.core_slots.specs.declared.entry.TupleEntry.{TupleEntry}
use Rattle.core_streams.proofs.Calls.{if_both}
use Rattle.tuple_sketches.specs.Image.{Reads, HasValues, written}
use Rattle.tuple_sketches.proofs.ReadBack.{read_back}
use Rattle.tuple_sketches.proofs.compact_sketch.CompactTupleSketch.serialize.Goals as goal

pub returns-clause-read_back : goal.returns-clause-read_back
returns-clause-read_back g c =
    let summary = g.S.TupleSummaryValue in
    let laws = g.met.S.TupleSummaryValue in
    let same = c.state-3.ensures in
    let sound = subst (λ (s : Compact (TupleEntry g.row.S.Denot)). IsCompact tuple_key s) same c.write_image_with_capacity.ensures.sound in
    let short = subst (λ (s : Compact (TupleEntry g.row.S.Denot)). s.seed_hash < 2 ^ 16) same c.write_image_with_capacity.ensures.short in
    if_both c.write_image_with_capacity.result _ _ (λ v is values s reads.
    read_back summary.spells summary.text summary.is_value laws.text_spells laws.one_spelling c.args.self.now s sound (subst (HasValues summary.is_value) same values) short
    (subst (λ bytes. Reads summary.spells bytes c.args.self.now.seed_hash s) (is ∙ ap (written summary.text) same) reads)) c.write_image_with_capacity.ensures.ok c.write_image_with_capacity.ensures.values

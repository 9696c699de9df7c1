use Rattle.std.proofs.Common.{length, ap, ◌∙◌}
use Rattle.std.specs.Int.{w16, w32, w64, to_le_bytes}
use Rattle.core_images.proofs.WrittenPreambles.{preamble_as}
use Rattle.core_images.proofs.write.image_preamble.Goals as goal

pub returns-clause-preamble : goal.returns-clause-preamble
returns-clause-preamble g c =
    preamble_as c.args.family.id c.args.kind c.args.state.now c.longs_of-longs.result c.flags_of-flags.result c.to_le_bytes-h.result c.to_le_bytes-c.result c.to_le_bytes-t.result
    c.longs_of-longs.ensures c.flags_of-flags.ensures (c.to_le_bytes-h.ensures ∙ ap (to_le_bytes w16) c.written_seed_hash.ensures.value)
    (c.to_le_bytes-c.ensures ∙ ap (λ xs. to_le_bytes w32 (length xs)) c.retained_entries.ensures.all) (c.to_le_bytes-t.ensures ∙ ap (to_le_bytes w64) c.theta.ensures)

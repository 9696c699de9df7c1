use Rattle.std.proofs.Common.{◌≡◌, ◌++◌, rules, sym, ap, ◌∙◌}
use Rattle.std.specs.List.{flat_map}
use Rattle.core_images.specs.Write.{written_preamble}
use Rattle.core_images.proofs.WrittenPreambles.{preamble_first}
use Rattle.core_images.proofs.write.write_image_with_capacity.Goals as goal

pub returns-clause-ok : goal.returns-clause-ok
returns-clause-ok g c =
    let s = c.args.state.now in
    let text = g.E.ImageEntry.text in
    let family = c.args.family.id in
    let front : c.write.new.self.bytes ≡ written_preamble family c.args.kind s = search (rules) in
    c.into_bytes.ensures.bytes ∙ c.in_ok-write_each.ensures.ok
    ∙ ap (λ xs. c.write.new.self.bytes ++ flat_map text xs) c.retained_entries.ensures.all
    ∙ ap (λ xs. xs ++ flat_map text s.entries) front
    ∙ sym (preamble_first family c.args.kind s text g.E.SketchEntry.key c.retained_entries.ensures.sound)

use Rattle.std.proofs.Common.{◌≡◌, ◌++◌, length, rules, ap, map, ◌∙◌, subst}
use Rattle.std.specs.List.{AllByRecursion, flat_map}
use Rattle.core_images.proofs.Chunks.{one_block, none_left, values_left, all_values}
use Rattle.core_images.proofs.blocks.write_in_blocks.Goals as goal

pub returns-clause-ok : goal.returns-clause-ok
returns-clause-ok g c =
    let none : length c.loop-rest.rest.now ≡ 0 = search rules in
    none_left g.E.FixedEntry.text c.loop-rest.bytes.bytes (c.args.bytes.now.bytes ++ flat_map g.E.FixedEntry.text c.args.entries.now) c.loop-rest.rest.now none c.loop-rest.invariant.0

pub returns-clause-values : goal.returns-clause-values
returns-clause-values g c =
    let none : length c.loop-rest.rest.now ≡ 0 = search rules in
    c.loop-rest.invariant.1 (values_left g.E.FixedEntry.is_value c.loop-rest.rest.now none)

pub loop-rest-preserved : goal.loop-rest-preserved
loop-rest-preserved g c =
    let fixed = g.E.FixedEntry in
    let rest = c.loop-rest.rest.now in
    let block = c.split_at.ensures.front in
    let others = c.split_at.ensures.back in
    let appended = c.in_ok-write.ensures.ok ∙ ap (λ l. c.loop-rest.bytes.bytes ++ l) c.as_flattened.ensures.value in
    let spelled = c.split_at-in-loop-rest.ensures.front ∙ c.spell_block.ensures.texts ∙ ap (map fixed.text) block in
    let written = one_block fixed.text _ c.loop-rest.bytes.bytes c.write.new.self.bytes c.split_at-in-loop-rest.result.0.now rest appended spelled in
    let values = subst (AllByRecursion fixed.is_value) block c.spell_block.ensures.values in (
      ap (λ l. c.write.new.self.bytes ++ flat_map fixed.text l) others ∙ written ∙ c.loop-rest.invariant.0,
      λ behind. c.loop-rest.invariant.1 (all_values fixed.is_value _ rest values (subst (AllByRecursion fixed.is_value) others behind)),
    )

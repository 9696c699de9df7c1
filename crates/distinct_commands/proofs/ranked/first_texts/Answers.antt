use Rattle.std.proofs.Common.{◌++◌, ◌∷◌, Option, ℕ, sym, ap, ◌∙◌}
use Rattle.std.specs.Prelude.{flat_map}
use Rattle.distinct_commands.specs.Ranked.{first_items}
use Rattle.distinct_commands.specs.declared.ranked.Ranked.{Ranked}
use Rattle.distinct_commands.proofs.FirstItems.{none_first, one_first, first_of_nothing}
use Rattle.distinct_commands.proofs.Ranking.{text_joined, all_joined}
use Rattle.distinct_commands.proofs.ranked.first_texts.Goals as goal

pub loop-group-init : goal.loop-group-init
loop-group-init c = ap (λ items. items ++ flat_map (λ (group : Ranked). group.text.items) (first_items c.args.most c.args.groups.now)) (sym c.new-text.ensures.items)

pub loop-group-preserved : goal.loop-group-preserved
loop-group-preserved c =
    let group = c.in-Some.group.now in
    let others = c.in-Some.others.now in
    let room = c.loop-group.room in
    let more = c.one_less-room.result in
    let parted = ap (first_items room) c.in-Some.ensures.cases.0 ∙ one_first room group others (sym c.is_full.ensures ∙ c.if-is_full.false)
    ∙ ap (λ (n : Option ℕ). group ∷ first_items n others) (sym c.one_less-room.ensures) in
    text_joined (first_items room c.loop-group.left.now) (first_items more others) group (flat_map (λ group. group.text.items) (first_items c.args.most c.args.groups.now)) c.loop-group.text.items c.loop-group.invariant parted
    ∙ ap (λ items. items ++ flat_map (λ (group : Ranked). group.text.items) (first_items more others)) (sym (c.in_ok-extend_from_slice.ensures.items ∙ ap (λ bytes. c.loop-group.text.items ++ bytes) c.as_slice.ensures.value))

pub returns : goal.returns
returns c = all_joined (first_items c.loop-group.room c.loop-group.left.now) (flat_map (λ group. group.text.items) (first_items c.args.most c.args.groups.now)) c.loop-group.text.items c.loop-group.invariant
    (first_of_nothing c.loop-group.room c.loop-group.left.now c.in_default.ensures.cases)

pub returns-then-is_full : goal.returns-then-is_full
returns-then-is_full c = all_joined (first_items c.loop-group.room c.loop-group.left.now) (flat_map (λ group. group.text.items) (first_items c.args.most c.args.groups.now)) c.loop-group.text.items c.loop-group.invariant
    (none_first c.loop-group.room c.loop-group.left.now (sym c.is_full.ensures ∙ c.if-is_full.true))

use Rattle.std.proofs.Common.{◌≡◌, ℕ, ◌<◌, List, Option, Some, length, map, set, get_or, sym, ap, ◌∙◌}
use Rattle.core_slots.specs.SlotLayout.{slot}
use Rattle.core_slots.proofs.Held.{slot-map, map-set, set-again, wrote, left_it}
use Rattle.core_table.proofs.insertion.write_at.Goals as goal

-- a slot whose entry is taken out, and that is written again
module _ {S X : Type 0} (content : S → Option X) (slots : List S) (at : ℕ) where
  was_there : (d taken : S) (x : X) (o : Option X) → at < length slots → taken ≡ get_or slots at d → o ≡ content taken → o ≡ Some x → slot (map content slots) at ≡ Some x
  was_there d taken x o inside replaced from is = slot-map content slots at d inside ∙ ap content (sym replaced) ∙ sym from ∙ is

  written_again : (free back : S) (x : X) → content back ≡ Some x → map content (set (set slots at free) at back) ≡ set (map content slots) at (Some x)
  written_again free back x is = ap (map content) (set-again slots at free back) ∙ map-set content slots at back ∙ ap (λ o. set (map content slots) at o) is

pub returns-in-Some-clause-ok : goal.returns-in-Some-clause-ok
returns-in-Some-clause-ok g c =
    rw (written_again g.E.PathEntry.content c.args.slots.now c.args.at c.replace-slot.new.dest c.into_slot.result c.existing-result.new.entry c.into_slot.ensures)
    (wrote c.existing-result.result _ c.args.at c.in-Some.entry c.existing-result.new.entry (g.S.UpsertStep.means c.args.step).writes c.existing-result.ensures.written (was_there g.E.PathEntry.content c.args.slots.now c.args.at c.index-slots-at.result c.replace-slot.result c.in-Some.entry c.from_slot.result c.requires.inside c.replace-slot.ensures.value c.from_slot.ensures c.in-Some.is))

pub returns-in-Some-clause-err : goal.returns-in-Some-clause-err
returns-in-Some-clause-err g c =
    rw (written_again g.E.PathEntry.content c.args.slots.now c.args.at c.replace-slot.new.dest c.into_slot.result c.existing-result.new.entry c.into_slot.ensures)
    (left_it c.existing-result.result _ c.args.at c.in-Some.entry c.existing-result.new.entry (g.S.UpsertStep.means c.args.step).writes c.existing-result.ensures.written (was_there g.E.PathEntry.content c.args.slots.now c.args.at c.index-slots-at.result c.replace-slot.result c.in-Some.entry c.from_slot.result c.requires.inside c.replace-slot.ensures.value c.from_slot.ensures c.in-Some.is))

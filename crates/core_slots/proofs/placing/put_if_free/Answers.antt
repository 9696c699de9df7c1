use Rattle.std.proofs.Common.{◌≡◌, ℕ, true, false, cond, set, get_or, map, ap, ◌∙◌}
use Rattle.core_slots.proofs.Held.{map-set}
use Rattle.std.proofs.lemmas.List.{set-get_or}
use Rattle.core_slots.proofs.placing.put_if_free.Goals as goal

pub returns-clause-written : goal.returns-clause-written
returns-clause-written g c =
    let content = g.E.PathEntry.content in
    let slots = c.args.slots.now in
    let at : ℕ = c.args.at in
    let d = c.index-slots-at-2.result in
    let entry = c.args.entry in
    ap (λ s. map content (set slots at s)) c.put_either.ensures.first
    ∙ elim c.is_none-is_free.result as (λ b. map content (set slots at (cond b entry (get_or slots at d))) ≡ cond b (set (map content slots) at (content entry)) (map content slots)) [
      | true ↦ map-set content slots at entry
      | false ↦ ap (map content) (set-get_or slots at d)
    ]

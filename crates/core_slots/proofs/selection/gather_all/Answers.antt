use Rattle.std.proofs.Common.{◌≡◌, ℕ, ◌+◌, ◌∷◌, ◌++◌, [], List, map, take, sym, ap, ◌∙◌, append_assoc}
use Rattle.std.proofs.lemmas.List.{map-append, append-nil}
use Rattle.core_slots.specs.SlotLayout.{filled}
use Rattle.core_slots.proofs.Held.{filled-next, no_some}
use Rattle.core_slots.proofs.Windows.{key_held}
use Rattle.core_slots.proofs.selection.gather_all.Goals as goal
use Rattle.core_slots.proofs.selection.gather_all.Goals.{in-Some-hash_in+in_ok-push-2, in_default-hash_in}

pub loop-slot-preserved : goal.loop-slot-preserved
loop-slot-preserved g c =
    let i : ℕ = c.loop-slot.slot-index in
    let key = g.E.SketchEntry.key in
    let content = g.E.PathEntry.content in
    let slots = c.args.slots.now in
    let s = c.slot-item.result in
    let first : List ℕ = filled (c.args.also ∷ []) in
    let before = filled (map content (take i slots)) in
    let seen : List ℕ = map key before in
    let one : List ℕ = map key (filled (content s ∷ [])) in
    let more = filled-next content slots i s c.loop-slot-test.true ∙ ap (λ t. before ++ filled (content t ∷ [])) (sym c.slot-item.is) in
    let is : map key (filled (map content (take (i + 1) slots))) ≡ seen ++ one = ap (map key) more ∙ map-append key before (filled (content s ∷ [])) in
    let next : filled (c.hash_in.result ∷ []) ≡ one = ap (λ o. filled (o ∷ [])) c.hash_in.ensures ∙ key_held key (content s) in
    elim c.match-hash_in.branch [
      | in-Some-hash_in+in_ok-push-2 w ↦
          rw (w.hashes-is, is)
          (w.in_ok-push-2.ensures.items ∙ ap (λ xs. xs ++ w.in-Some-hash_in.hash ∷ []) c.loop-slot.invariant ∙ ap (λ xs. (first ++ seen) ++ xs) (ap (λ o. filled (o ∷ [])) (sym w.in-Some-hash_in.is) ∙ next) ∙ append_assoc first seen one)
      | in_default-hash_in w ↦
          rw (w.hashes-is, is)
          (c.loop-slot.invariant ∙ sym (append-nil (first ++ seen)) ∙ ap (λ xs. (first ++ seen) ++ xs) (sym (sym next ∙ ap (λ o. filled (o ∷ [])) (no_some c.hash_in.result w.in_default-hash_in.not-Some))) ∙ append_assoc first seen one)
    ]

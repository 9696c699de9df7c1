use Rattle.std.proofs.Common.{rules, ◌≡◌, ◌∷◌, ◌++◌, [], None, Option, List, map, refl, ap, ◌∙◌, append-nil}
use Rattle.std.proofs.Math.Seq.{take-nil}
use Rattle.std.proofs.lemmas.Fn.{chained_keeps}
use Rattle.std.proofs.lemmas.List.{map-append}
use Rattle.core_slots.specs.SlotLayout.{filled}
use Rattle.core_slots.proofs.SlotLayouts.{filled-append}
use Rattle.core_slots.proofs.entry.TupleEntryPathEntry.free_slots.Goals as goal

-- one more slot, without an entry
more_free : {X : Type 0} (slots : List (Option X)) (o : Option X) → o ≡ None → filled (map (λ s. s) slots) ≡ [] → filled (map (λ s. s) (slots ++ o ∷ [])) ≡ []
more_free slots o is before =
    ap filled (map-append (λ s. s) slots (o ∷ [])) ∙ filled-append (map (λ s. s) slots) (o ∷ []) ∙ ap (λ u. filled (map (λ s. s) slots) ++ filled (u ∷ [])) is ∙ append-nil (filled (map (λ s. s) slots)) ∙ before

pub returns-clause-free : goal.returns-clause-free
returns-clause-free g c =
    let made = c.in_ok-resize_with.ensures.items in
    rw (made.2, c.in_ok-slots.ensures.items, take-nil c.args.count) (chained_keeps _ (λ slots q. filled (map (λ s. s) slots) ≡ []) (λ slots q o v before gives. more_free slots o (search rules) before) made.0 _ _ refl made.3)

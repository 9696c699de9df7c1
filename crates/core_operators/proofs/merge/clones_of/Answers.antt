use Rattle.std.proofs.Common.{◌≡◌, ◌∷◌, ◌++◌, [], refl, sym, ap, ◌∙◌}
use Rattle.std.proofs.lemmas.List.{append_assoc}
use Rattle.core_operators.proofs.merge.clones_of.Goals as goal

pub loop-entry-init : goal.loop-entry-init
loop-entry-init g c =
    let clone_is = c.requires.clones_equal c.args.first.now c.in_ok-clone.field-0 c.in_ok-clone.ensures.cases in
    record { all = rw (c.into_iter-entry-iterator.ensures.into_iter_gives, c.in_ok-push.ensures.items, c.new-clones.ensures.items, clone_is) refl }

pub loop-entry-preserved : goal.loop-entry-preserved
loop-entry-preserved g c =
    let x = c.in-Some.entry.now in
    let left = c.next.new.self.rest in
    let clone_is = c.requires.clones_equal x c.in_ok-clone-2.field-0 c.in_ok-clone-2.ensures.cases in
    let shape : c.loop-entry.entry-iterator.rest ≡ x ∷ left = c.in-Some.ensures.steps.0 in
    record { all = rw (c.in_ok-push-2.ensures.items, clone_is) (append_assoc c.loop-entry.clones.items (x ∷ []) left ∙ ap (λ ys. c.loop-entry.clones.items ++ ys) (sym shape) ∙ c.loop-entry.invariant.all) }

use Rattle.std.proofs.Common.{◌≡◌, ◌∙◌, ap, ltb, map, rules}
use Rattle.std.proofs.lemmas.List.{map-id}
use Rattle.std.proofs.lemmas.List.Sorted.{answers_always}
use Rattle.core_images.specs.Check.{is_ascending}
use Rattle.core_images.proofs.AscendingTests.{sorted_apart, adjacent_answer}
use Rattle.core_images.proofs.check.are_distinct.Goals as goal

pub returns-clause-ok : goal.returns-clause-ok
returns-clause-ok g c =
    let moved = rw c.in_ok-hashes.ensures.ok at c.sort_unstable.ensures.permutation in
    let tested = c.is_sorted_by.ensures.cases (λ x y. ltb x y) (answers_always _ _ _ (λ f a r g' called. search rules)) in
    let answer : c.is_sorted_by.result ≡ is_ascending c.sort_unstable.new.self.items =
    adjacent_answer (λ h. h) _ c.is_sorted_by.result tested ∙ ap is_ascending (map-id c.deref.result.now ∙ c.deref.ensures.value) in
    rw answer (sorted_apart (map g.E.SketchEntry.key c.args.entries.now) c.sort_unstable.new.self.items moved c.sort_unstable.ensures.sorted)

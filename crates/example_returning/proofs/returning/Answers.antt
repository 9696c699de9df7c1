use Rattle.std.proofs.Common.{refl}
use Rattle.example_returning.proofs.returning.Goals as goal

pub unwrap-requires : goal.unwrap-requires
unwrap-requires c =
    let first = c.in_ok-update.ensures.given _ _ c.in_ok-both.ensures.given (c.as_view.ensures.sample _ _ _ _ c.in_ok-one.ensures) in
    c.in_ok-found.ensures.found _ (c.in_ok-update-2.ensures.given _ _ first (c.as_view-2.ensures.sample _ _ _ _ c.in_ok-two.ensures)) (λ none. cc)

pub returns : goal.returns
returns c =
    let first = c.in_ok-update.ensures.given _ _ c.in_ok-both.ensures.given (c.as_view.ensures.sample _ _ _ _ c.in_ok-one.ensures) in
    (rw c.unwrap.ensures at c.in_ok-found.ensures.below) _ (c.in_ok-update-2.ensures.given _ _ first (c.as_view-2.ensures.sample _ _ _ _ c.in_ok-two.ensures)) refl

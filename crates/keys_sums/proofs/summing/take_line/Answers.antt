use Rattle.std.proofs.Common.{◌≡◌, ◌++◌, ◌∷◌, [], Bool, true, false, ℕ, List, length, refl, sym, ap, subst, ◌∙◌, arith}
use Rattle.std.specs.Prelude.{◌==◌, not}
use Rattle.std.proofs.lemmas.Bool.Decides.{nat_tests}
use Rattle.std.proofs.lemmas.Result.{err_from_is_err_and}
use Rattle.keys_sums.specs.Amounts.{IsOpenAddend}
use Rattle.keys_sums.specs.Refusals.{IsPastIn}
use Rattle.keys_sums.specs.Sums.{HasAdded}
use Rattle.keys_sums.proofs.summing.take_line.Goals as goal

-- an open line that isn't begun has no byte
no_bytes : (front : List ℕ) (begun : Bool) → begun ≡ not (length front == 0) → begun ≡ false → front ≡ []
no_bytes [] begun is none = refl
no_bytes (b ∷ front) begun is none =
    let some : (length (b ∷ front) == 0) ≡ false = grind (arith, nat_tests) in
    let both : true ≡ false = ap not (sym some) ∙ sym is ∙ none in
    absurd (cc)

pub returns-in_err-add_number-clause-number : goal.returns-in_err-add_number-clause-number
returns-in_err-add_number-clause-number g c = λ front is.
    let p = err_from_is_err_and c.from_residual.result c.from_residual.ensures.1 in
    rw (p.1, p.2) (c.in_err-add_number.ensures.number c.args.amount (front ++ c.args.end.now))

pub returns-in_err-add_number-clause-past : goal.returns-in_err-add_number-clause-past
returns-in_err-add_number-clause-past g c = λ front is mode lg_k lines has.
    let p = err_from_is_err_and c.from_residual.result c.from_residual.ensures.1 in
    let none = no_bytes front _ (c.is_begun.ensures c.args.hashing c.args.amount front is) c.if-not-is_begun.true in
    let past = c.in_err-add_number.ensures.past c.args.hashing c.args.amount c.args.end.now c.in-Some.ensures.hash c.in-Some.ensures.value mode lg_k lines has in
    rw (p.1, p.2) (subst (λ (fr : List ℕ). IsPastIn mode c.args.hashing c.args.amount (lines ++ (fr ++ c.args.end.now) ∷ []) c.in_err-add_number.field-0.0) (sym none) past)

pub returns-in_err-add_number-clause-fallible : goal.returns-in_err-add_number-clause-fallible
returns-in_err-add_number-clause-fallible g c = λ may_fail.
    let p = err_from_is_err_and c.from_residual.result c.from_residual.ensures.1 in
    rw (p.1, p.2) (c.in_err-add_number.ensures.fallible may_fail)

pub returns-in-Some-clause-added : goal.returns-in-Some-clause-added
returns-in-Some-clause-added g c = λ front is mode lg_k lines has.
    let none = no_bytes front _ (c.is_begun.ensures c.args.hashing c.args.amount front is) c.if-not-is_begun.true in
    let added = c.in_ok-add_number.ensures.added c.args.hashing c.args.amount c.args.end.now c.in-Some.ensures.hash c.in-Some.ensures.value mode lg_k lines has in
    subst (λ (fr : List ℕ). HasAdded mode c.args.hashing c.args.amount lg_k (lines ++ (fr ++ c.args.end.now) ∷ []) c.add_number.new.summation) (sym none) added

pub returns-in-Some-clause-restarted : goal.returns-in-Some-clause-restarted
returns-in-Some-clause-restarted g c = λ front is.
    let none = no_bytes front _ (c.is_begun.ensures c.args.hashing c.args.amount front is) c.if-not-is_begun.true in
    subst (λ (fr : List ℕ). IsOpenAddend c.args.hashing c.args.amount fr c.args.last.now) none is

pub returns-in_err-add_line-clause-number : goal.returns-in_err-add_line-clause-number
returns-in_err-add_line-clause-number g c = λ front is.
    let p = err_from_is_err_and c.from_residual-in_err-add_line.result c.from_residual-in_err-add_line.ensures.1 in
    rw (p.1, p.2) (c.in_err-add_line.ensures.number c.args.hashing (front ++ c.args.end.now) front (c.end.ensures c.args.hashing front is))

pub returns-in_err-add_line-clause-past : goal.returns-in_err-add_line-clause-past
returns-in_err-add_line-clause-past g c = λ front is mode lg_k lines has.
    let p = err_from_is_err_and c.from_residual-in_err-add_line.result c.from_residual-in_err-add_line.ensures.1 in
    rw (p.1, p.2) (c.in_err-add_line.ensures.past c.args.hashing (front ++ c.args.end.now) front (c.end.ensures c.args.hashing front is) mode lg_k lines has)

pub returns-in_err-add_line-clause-fallible : goal.returns-in_err-add_line-clause-fallible
returns-in_err-add_line-clause-fallible g c = λ may_fail.
    let p = err_from_is_err_and c.from_residual-in_err-add_line.result c.from_residual-in_err-add_line.ensures.1 in
    rw (p.1, p.2) (c.in_err-add_line.ensures.fallible may_fail)

pub returns-clause-added : goal.returns-clause-added
returns-clause-added g c = λ front is mode lg_k lines has.
    c.in_ok-add_line.ensures.added c.args.hashing (front ++ c.args.end.now) front (c.end.ensures c.args.hashing front is) mode lg_k lines has

pub returns-clause-restarted : goal.returns-clause-restarted
returns-clause-restarted g c = λ front is. c.restart.ensures c.args.amount

pub returns-in_err-add_number-clause-refused : goal.returns-in_err-add_number-clause-refused
returns-in_err-add_number-clause-refused g c =
    let p = err_from_is_err_and c.from_residual.result c.from_residual.ensures.1 in
    rw (p.1, p.2) (c.in_err-add_number.ensures.refused c.args.amount)

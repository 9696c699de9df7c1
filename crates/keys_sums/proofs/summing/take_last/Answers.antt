use Rattle.std.proofs.Common.{◌≡◌, ℕ, ◌++◌, ◌∷◌, List, [], length, Bool, true, false, cond, eqb, not, refl, sym, subst, ◌∙◌}
use Rattle.std.specs.Prelude.{IfErr, OnOk}
use Rattle.std.proofs.lemmas.Result.{IfErr-weaker}
use Rattle.keys_sums.specs.Refusals.{IsPastIn, LacksNumberIn}
use Rattle.keys_sums.specs.Sums.{HasAdded}
use Rattle.keys_sums.proofs.FirstBytes.{ended_itself}
use Rattle.keys_sums.proofs.Pieces.{lacking_alone}
use Rattle.keys_sums.proofs.summing.take_last.Goals as goal

begun_some : (empty begun : Bool) → begun ≡ not empty → begun ≡ true → empty ≡ false
begun_some true begun is some = sym some ∙ is
begun_some false begun is some = refl

pub returns-clause-taken : goal.returns-clause-taken
returns-clause-taken g c = λ hashing front is mode lg_k lines has.
    let some : eqb (length front) 0 ≡ false = begun_some (eqb (length front) 0) c.is_begun.result (c.is_begun.ensures hashing c.args.amount front is) c.if-not-is_begun.false in
    subst (λ (empty : Bool). OnOk c.add_line.result (HasAdded mode hashing c.args.amount lg_k (lines ++ cond empty [] (front ∷ [])) c.add_line.new.summation)) (sym some)
    (c.add_line.ensures.added hashing front front (ended_itself hashing c.args.amount front c.args.last.now is) mode lg_k lines has)

pub returns-clause-numbered : goal.returns-clause-numbered
returns-clause-numbered g c = λ hashing front is.
    let some : eqb (length front) 0 ≡ false = begun_some (eqb (length front) 0) c.is_begun.result (c.is_begun.ensures hashing c.args.amount front is) c.if-not-is_begun.false in
    subst (λ (empty : Bool). IfErr c.add_line.result (LacksNumberIn c.args.amount c.args.count (cond empty [] (front ∷ [])))) (sym some)
    (IfErr-weaker c.add_line.result _ _ (lacking_alone c.args.amount front c.args.count) (c.add_line.ensures.number hashing front front (ended_itself hashing c.args.amount front c.args.last.now is)))

pub returns-clause-past : goal.returns-clause-past
returns-clause-past g c = λ hashing front is mode lg_k lines has.
    let some : eqb (length front) 0 ≡ false = begun_some (eqb (length front) 0) c.is_begun.result (c.is_begun.ensures hashing c.args.amount front is) c.if-not-is_begun.false in
    subst (λ (empty : Bool). IfErr c.add_line.result (IsPastIn mode hashing c.args.amount (lines ++ cond empty [] (front ∷ [])))) (sym some)
    (c.add_line.ensures.past hashing front front (ended_itself hashing c.args.amount front c.args.last.now is) mode lg_k lines has)

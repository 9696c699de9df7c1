-- Facts on the answers of calls.
use Rattle.std.proofs.Common.{◌≡◌, Result, Ok, Err, inl, inr, sym, subst}
use Rattle.std.specs.Prelude.{Bool, IfErr, IsErrAnd}
use Rattle.sketch_base.specs.declared.error.ErrorKind.{ErrorKind}
use Rattle.plan_evaluation.specs.Refused.{RefusedFor}

-- what the exit of a `?` returns, of whose error P holds
pub returned : {T : Type 0} {e : ErrorKind} (P : ErrorKind → Type 0) (r : Result T ErrorKind) → IsErrAnd r (λ y. y ≡ e) → P e → IfErr r P
returned P (Ok x) is p = tt
returned P (Err y) is p = subst P (sym is) p

-- the reason of a refusal implies another
pub for_other : {P Q : Type 0} (e : ErrorKind) (strict : Bool) → (P → Q) → RefusedFor e strict P → RefusedFor e strict Q
for_other e strict other (inl memory) = inl memory
for_other e strict other (inr policy) = inr (policy.0, policy.1, other policy.2)

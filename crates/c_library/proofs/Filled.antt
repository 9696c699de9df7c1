-- What a call puts into a handle, by what made it.
use Rattle.std.proofs.Common.{ℕ, true, Option, Some, None, inr, refl, sym, subst}
use Rattle.std.specs.Prelude.{Result, Ok, Err, IfOk}
use Rattle.sketch_base.specs.declared.error.ErrorKind.{ErrorKind}
use Rattle.sketch_base.specs.declared.error.ErrorKind.TheVariants.{OutOfMemory}
use Rattle.core_laws.specs.Refusal.{Refuses}
use Rattle.c_handles.specs.Calls.{Fills, IsMadeBy, IsRefusedWith}
use Rattle.c_objects.specs.Status.{IsRefusal}

-- what a call made is as the call says, and so is its refusal
pub filled : {T : Type 0} (made : Result T ErrorKind) (P : T → Type 0) (refusal : Option ErrorKind) (old : Option T) (status : ℕ) (new : Option T) →
    IfOk made P → Refuses made refusal true → Fills (IsMadeBy made) (IsRefusedWith made) old status new → Fills P (IsRefusal refusal true) old status new
filled made P refusal (Some x) status new ok refused is = is
filled (Ok y) P refusal None status None ok refused is = (OutOfMemory, is, inr (refl, refl))
filled (Err e) P refusal None status None ok refused is = (e, is, refused)
filled (Ok y) P refusal None status (Some x) ok refused is = (is.0, subst P (sym is.1) ok)
filled (Err e) P refusal None status (Some x) ok refused is = absurd is.1

-- Consequences of accepted settings.
use Rattle.std.proofs.Common.{◌≡◌, ℕ, ◌≤◌, Bool, true, false, cond, Option, Some, None, refl, arith}
use Rattle.std.specs.Prelude.{◌&&◌, nat_le, is_none}
use Rattle.std.proofs.lemmas.Bool.Decides.{nat_tests}
use Rattle.sketch_base.specs.declared.error.ErrorKind.TheVariants.{InvalidArgument}
use Rattle.core_laws.specs.declared.TheConstants.{MAX_THETA}
use Rattle.core_laws.specs.Settings.{settings_refusal}

-- a test that refuses nothing is true
pub accepted : (c : Bool) → cond c None (Some InvalidArgument) ≡ None → c ≡ true
accepted true e = refl
accepted false e = absurd (cc)

-- the first part of a conjunction that is true
pub and_left : (a b : Bool) → (a && b) ≡ true → a ≡ true
and_left true b e = refl
and_left false b e = cc

-- the second part of a conjunction that is true
pub and_right : (a b : Bool) → (a && b) ≡ true → b ≡ true
and_right true b e = e
and_right false b e = absurd (cc)

-- a conjunction of two that are true
pub both : (a b : Bool) → a ≡ true → b ≡ true → (a && b) ≡ true
both a b one two = rw (one, two) refl

-- a number that a test finds at most another one is
pub at_most : (a b : ℕ) → nat_le a b ≡ true → a ≤ b
at_most a b e = grind (arith, nat_tests)

pub start_fits : (lg_k start seed : ℕ) → settings_refusal lg_k start seed ≡ None → start ≤ MAX_THETA
start_fits lg_k start seed fits = at_most start MAX_THETA (and_right _ _ (and_left _ _ (accepted _ fits)))

nothing : {X : Type 0} (o : Option X) → is_none o ≡ true → o ≡ None
nothing None e = refl
nothing (Some x) e = absurd (cc)

-- a node that may be built
pub built : (lg_k start seed : ℕ) → is_none (settings_refusal lg_k start seed) ≡ true → settings_refusal lg_k start seed ≡ None
built lg_k start seed e = nothing (settings_refusal lg_k start seed) e

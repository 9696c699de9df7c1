use Rattle.std.proofs.Common.{◌≡◌, ℕ, Bool, true, Option, Some, is_some, ap, subst}
use Rattle.std.specs.Prelude.{if◌then◌else◌}
use Rattle.sketch_base.specs.declared.error.ErrorKind.TheVariants.{InvalidArgument}
use Rattle.core_laws.specs.Settings.{settings_refusal}
use Rattle.c_handles.specs.Calls.{Fills}
use Rattle.c_objects.specs.Settings.{valid_factor, mode_refusal}
use Rattle.c_objects.specs.Status.{IsRefusal}
use Rattle.c_objects.specs.Sums.{IsNewSumsByMode}
use Rattle.c_objects.specs.declared.sums.SeededSums.{SeededSums}
use Rattle.c_library.proofs.Filled.{filled}
use Rattle.c_library.proofs.sums.kcp_sums_new_by_mode.Goals as goal

pub returns-in-Some-clause-made : goal.returns-in-Some-clause-made
returns-in-Some-clause-made c =
    let refusal = mode_refusal c.args.mode (settings_refusal c.args.lg_k c.args.starting_theta c.args.seed) in
    let Made : SeededSums → Type 0 = IsNewSumsByMode c.args.mode c.args.lg_k c.args.starting_theta c.args.seed in
    let put = filled c.build_by_mode.result Made refusal c.owned.result.now.value c.put.result c.put.new.self.value in
    let same = ap (λ o. o.value) c.owned.ensures.same in
    let made =
    subst (λ (o : Option SeededSums). Fills Made (IsRefusal refusal true) o c.put.result c.put.new.self.value) same
    (put c.build_by_mode.ensures.made c.build_by_mode.ensures.refused c.put.ensures) in
    let valid : true ≡ is_some (valid_factor c.args.resize_factor) = ap (λ (o : Option ℕ). is_some o) c.in-Some.ensures in
    subst (λ (b : Bool). Fills Made (IsRefusal (if b then refusal else Some InvalidArgument) true) c.args.sums.now.value c.put.result c.put.new.self.value) valid made

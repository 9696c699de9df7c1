use Rattle.std.proofs.Common.{Option, ap, subst}
use Rattle.core_laws.specs.Settings.{settings_refusal}
use Rattle.core_laws.specs.declared.TheConstants.{MAX_THETA}
use Rattle.c_handles.specs.Calls.{Fills}
use Rattle.c_objects.specs.Settings.{IsSettingsRefusal}
use Rattle.c_objects.specs.SumsUnion.{IsNewSumsUnion}
use Rattle.c_objects.specs.declared.sums_union.SeededSumsUnion.{SeededSumsUnion}
use Rattle.tuple_sketches.specs.declared.numbers.SummaryMode.TheVariants.{Sum}
use Rattle.c_library.proofs.Filled.{filled}
use Rattle.c_library.proofs.sums_union.kcp_sums_union_new.Goals as goal

pub returns : goal.returns
returns c =
    let refusal = settings_refusal c.args.lg_k MAX_THETA c.args.seed in
    let put = filled c.build.result (IsNewSumsUnion Sum c.args.lg_k MAX_THETA c.args.seed) refusal c.owned.result.now.value c.put.result c.put.new.self.value in
    let same = ap (λ o. o.value) c.owned.ensures.same in
    subst (λ (o : Option SeededSumsUnion). Fills (IsNewSumsUnion Sum c.args.lg_k MAX_THETA c.args.seed) (IsSettingsRefusal c.args.lg_k c.args.seed) o c.put.result c.put.new.self.value) same
    (put c.build.ensures.made c.build.ensures.refused c.put.ensures)

use Rattle.std.proofs.Common.{Bool, true, sym, subst}
use Rattle.std.specs.Prelude.{IfSome, IfOk}
use Rattle.core_laws.specs.declared.TheConstants.{MAX_THETA}
use Rattle.core_laws.specs.Settings.{settings_refusal}
use Rattle.keys_sums.specs.Unions.{IsUnitedSumsImage, UnitesSumsOfTexts}
use Rattle.distinct_commands.specs.Answers.{IsUnionOf}
use Rattle.tuple_sketches.specs.declared.numbers.SummaryMode.{SummaryMode}
use Rattle.distinct_arguments.specs.Faults.{options_of}
use Rattle.distinct_inputs.specs.Failures.{chosen_summary}
use Rattle.distinct_inputs.specs.Images.{remaining_images}
use Rattle.distinct_commands.proofs.NextImages.{both_known}
use Rattle.distinct_commands.proofs.OnlyMemory.{sized, sums_refused, uniting_refused}
use Rattle.distinct_commands.proofs.combine.unite.Goals as goal

pub returns-then-options-clause-united : goal.returns-then-options-clause-united
returns-then-options-clause-united g c =
    let left = remaining_images g.S.Source.Read.remaining g.S.Sources.texts c.args.images.now in
    let options = c.args.options.now in
    let mode = c.chosen_summary-mode.result in
    let united = both_known left c.unite_sums.result (λ all u. IsUnitedSumsImage mode c.args.seed options.lg_k all u.image.items) (λ all u. UnitesSumsOfTexts mode c.args.seed options.lg_k all u.image.items) c.unite_sums.ensures.united c.unite_sums.ensures.apart in
    subst (λ (sums : Bool). IfSome left (λ all. IfOk c.unite_sums.result (λ u. IsUnionOf sums (chosen_summary (options_of options)) c.args.seed options.lg_k all u.image.items))) (sym c.if-options.true)
    (subst (λ (m : SummaryMode). IfSome left (λ all. IfOk c.unite_sums.result (λ u. IsUnionOf true m c.args.seed options.lg_k all u.image.items))) c.chosen_summary-mode.ensures united)

pub returns-then-options-clause-refused : goal.returns-then-options-clause-refused
returns-then-options-clause-refused g c =
    let options = c.args.options.now in
    sums_refused c.chosen_summary-mode.result c.unite_sums.result options.sums c.args.seed (settings_refusal options.lg_k MAX_THETA c.args.seed) (remaining_images g.S.Source.Read.remaining g.S.Sources.texts c.args.images.now)
    c.if-options.true (sized options.lg_k c.args.seed options.low options.high c.requires.seeded) c.unite_sums.ensures.refused

pub returns-else-options-clause-refused : goal.returns-else-options-clause-refused
returns-else-options-clause-refused g c =
    let options = c.args.options.now in
    uniting_refused c.unite_images.result options.sums c.args.seed (settings_refusal options.lg_k MAX_THETA c.args.seed) (remaining_images g.S.Source.Read.remaining g.S.Sources.texts c.args.images.now)
    c.if-options.false (sized options.lg_k c.args.seed options.low options.high c.requires.seeded) c.unite_images.ensures.refused

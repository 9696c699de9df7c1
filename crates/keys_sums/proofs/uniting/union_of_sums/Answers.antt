use Rattle.std.proofs.Common.{[], sym, subst}
use Rattle.std.specs.Prelude.{IfErr}
use Rattle.std.proofs.lemmas.Result.{err_from_is_err_and}
use Rattle.core_laws.specs.Settings.{settings_refusal}
use Rattle.core_laws.specs.declared.TheConstants.{MAX_THETA}
use Rattle.keys_lines.specs.Keys.{hashing_of}
use Rattle.keys_sketches.specs.Batches.{HasRead}
use Rattle.keys_sketches.proofs.Turns.{if_some}
use Rattle.keys_sums.specs.Images.{ReadsSumsUnder}
use Rattle.keys_sums.specs.Unions.{HasUnitedSums, IsUniteSumsRefusal}
use Rattle.keys_sums.proofs.RefusedSums.{image_not_united, merge_not_united}
use Rattle.keys_sums.proofs.UnitedSums.{sums_apart}
use Rattle.keys_sums.proofs.uniting.union_of_sums.Goals as goal

pub returns-clause-united : goal.returns-clause-united
returns-clause-united g c =
    let mode = c.args.mode in
    let seed = c.args.seed in
    let lg_k = c.args.lg_k in
    let batch = c.add_images.new.union in
    if_some (g.S.Sources.texts c.args.images.now) (λ all. HasRead (λ images u. HasUnitedSums mode seed lg_k images u.union.state) (ReadsSumsUnder seed) all batch.union batch.waiting.items) _
    (λ all has. c.in_ok-sketch.ensures.sketch mode seed lg_k all has)
    (c.in_ok-count.ensures.united (record { mode = mode; lg_k = lg_k }) [] c.in_ok-batch.ensures.united)

pub returns-clause-apart : goal.returns-clause-apart
returns-clause-apart g c =
    let mode = c.args.mode in
    let seed = c.args.seed in
    let lg_k = c.args.lg_k in
    let batch = c.add_images.new.union in
    if_some (g.S.Sources.texts c.args.images.now) (λ all. HasRead (λ images u. HasUnitedSums mode seed lg_k images u.union.state) (ReadsSumsUnder seed) all batch.union batch.waiting.items) _
    (λ all has key amount texts are. sums_apart mode (hashing_of key seed) amount c.one_reading.ensures lg_k texts all c.in_ok-sketch.sketch are (c.in_ok-sketch.ensures.sketch mode seed lg_k all has))
    (c.in_ok-count.ensures.united (record { mode = mode; lg_k = lg_k }) [] c.in_ok-batch.ensures.united)

pub returns-in_err-sketch-clause-refused : goal.returns-in_err-sketch-clause-refused
returns-in_err-sketch-clause-refused g c =
    let seed = c.args.seed in
    let texts = g.S.Sources.texts c.args.images.now in
    let p = err_from_is_err_and c.from_residual-in_err-sketch.result c.from_residual-in_err-sketch.ensures.1 in
    let is_refusal = IsUniteSumsRefusal c.args.mode seed (settings_refusal c.args.lg_k MAX_THETA seed) texts in
    subst (λ r. IfErr r is_refusal) (sym p.1) (subst is_refusal (sym p.2)
    (merge_not_united c.args.mode seed (settings_refusal c.args.lg_k MAX_THETA seed) texts c.in_err-sketch.field-0.0 c.in_ok-batch.ensures.refused (c.in_err-sketch.ensures.refused c.args.mode seed (c.in_ok-count.ensures.ready (record { mode = c.args.mode; lg_k = c.args.lg_k }) c.in_ok-batch.ensures.ready))))

pub returns-in_err-count-clause-refused : goal.returns-in_err-count-clause-refused
returns-in_err-count-clause-refused g c =
    let seed = c.args.seed in
    let mode = c.args.mode in
    let texts = g.S.Sources.texts c.args.images.now in
    let p = err_from_is_err_and c.from_residual-in_err-count.result c.from_residual-in_err-count.ensures.1 in
    let is_refusal = IsUniteSumsRefusal mode seed (settings_refusal c.args.lg_k MAX_THETA seed) texts in
    subst (λ r. IfErr r is_refusal) (sym p.1) (subst is_refusal (sym p.2)
    (image_not_united mode seed (settings_refusal c.args.lg_k MAX_THETA seed) texts c.in_err-count.field-0.0 c.in_ok-batch.ensures.refused
    (c.in_err-count.ensures.refused (record { mode = mode; lg_k = c.args.lg_k }) c.in_ok-batch.ensures.ready)))

use Rattle.std.proofs.Common.{◌≡◌, refl, sym, subst}
use Rattle.std.specs.Prelude.{min, IfErr, IfSome}
use Rattle.std.proofs.lemmas.Result.{err_from_is_err_and}
use Rattle.keys_lines.specs.Lines.{lines_of_all}
use Rattle.keys_sketches.proofs.Turns.{if_some}
use Rattle.keys_sums.specs.Amounts.{added_by, AreNumbers}
use Rattle.keys_sums.specs.Sums.{HasAdded, sketch_of_sums, total_added, GREATEST_TOTAL}
use Rattle.keys_sums.specs.Refusals.{IsPastIn}
use Rattle.keys_sums.proofs.sources.sum_sources.Goals as goal

pub returns-clause-sketch : goal.returns-clause-sketch
returns-clause-sketch g c =
    if_some (g.S.Sources.texts c.args.sources.now) (λ texts. HasAdded c.args.mode c.args.hashing c.args.amount c.args.lg_k (lines_of_all texts) c.add_sources.new.summation) (λ texts. c.in_ok-finish.field-0.sketch ≡ sketch_of_sums c.args.mode c.args.hashing (added_by c.args.amount) c.args.lg_k (lines_of_all texts))
    (λ texts has. c.in_ok-finish.ensures.sketch c.args.hashing c.args.amount c.args.mode c.args.lg_k (lines_of_all texts) has)
    (c.in_ok-add_sources.ensures.added c.args.mode c.args.lg_k (c.in_ok-summation.ensures.new c.args.hashing c.args.amount refl))

pub returns-clause-total : goal.returns-clause-total
returns-clause-total g c =
    if_some (g.S.Sources.texts c.args.sources.now) (λ texts. HasAdded c.args.mode c.args.hashing c.args.amount c.args.lg_k (lines_of_all texts) c.add_sources.new.summation)
    (λ texts. c.in_ok-finish.field-0.total ≡ min (total_added (added_by c.args.amount) (lines_of_all texts)) GREATEST_TOTAL)
    (λ texts has. c.in_ok-finish.ensures.total c.args.hashing c.args.amount c.args.mode c.args.lg_k (lines_of_all texts) has)
    (c.in_ok-add_sources.ensures.added c.args.mode c.args.lg_k (c.in_ok-summation.ensures.new c.args.hashing c.args.amount refl))

pub returns-clause-numbers : goal.returns-clause-numbers
returns-clause-numbers g c =
    if_some (g.S.Sources.texts c.args.sources.now) (λ texts. HasAdded c.args.mode c.args.hashing c.args.amount c.args.lg_k (lines_of_all texts) c.add_sources.new.summation) (λ texts. AreNumbers c.args.amount (lines_of_all texts)) (λ texts has. has.numbers) (c.in_ok-add_sources.ensures.added c.args.mode c.args.lg_k (c.in_ok-summation.ensures.new c.args.hashing c.args.amount refl))

pub returns-in_err-add_sources-clause-past : goal.returns-in_err-add_sources-clause-past
returns-in_err-add_sources-clause-past g c =
    let texts = g.S.Sources.texts c.args.sources.now in
    let hashing = c.args.hashing in
    let amount = c.args.amount in
    let p = err_from_is_err_and c.from_residual-in_err-add_sources.result c.from_residual-in_err-add_sources.ensures.1 in
    subst (λ r. IfSome texts (λ all. IfErr r (IsPastIn c.args.mode hashing amount (lines_of_all all)))) (sym p.1) (subst (λ v. IfSome texts (λ all. IsPastIn c.args.mode hashing amount (lines_of_all all) v)) (sym p.2)
    (c.in_err-add_sources.ensures.past c.args.mode c.args.lg_k (c.in_ok-summation.ensures.new hashing amount refl)))

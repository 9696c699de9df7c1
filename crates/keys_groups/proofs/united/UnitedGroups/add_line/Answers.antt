use Rattle.std.proofs.Common.{subst, sym, ap, ◌∙◌, inr}
use Rattle.std.specs.Prelude.{IfErr}
use Rattle.std.proofs.lemmas.Result.{err_from_is_err_and}
use Rattle.keys_groups.specs.United.{is_followed, IsAddError}
use Rattle.keys_groups.proofs.ImagesInGroups.{last_read}
use Rattle.keys_groups.proofs.UnitedInTurn.{no_flaw}
use Rattle.keys_groups.proofs.united.UnitedGroups.add_line.Goals as goal

pub returns-in_err-name-clause-failed : goal.returns-in_err-name-clause-failed
returns-in_err-name-clause-failed c =
    let result = c.from_residual.result in
    let p = err_from_is_err_and result c.from_residual.ensures.1 in
    subst (λ r. IfErr r (IsAddError c.args.seed c.args.line.now)) (sym p.1) (subst (IsAddError c.args.seed c.args.line.now) (sym p.2) (c.in_err-name.ensures.failed c.args.seed))

pub returns-then-is_longer-clause-failed : goal.returns-then-is_longer-clause-failed
returns-then-is_longer-clause-failed c =
    let image = c.in_ok-name.image.items in
    let line = c.args.line.now in
    c.not_one_image.ensures line (c.as_slice-then-is_longer.ensures.value ∙ c.in_ok-name.ensures.image)
    (inr (ap is_followed (c.as_slice-then-is_longer.ensures.value ∙ sym c.as_slice.ensures.value) ∙ sym c.is_longer.ensures ∙ c.if-is_longer.true))

pub returns-in-Ok-clause-uniting : goal.returns-in-Ok-clause-uniting
returns-in-Ok-clause-uniting c = λ lines uniting.
    c.in-Ok.ensures.uniting lines c.args.line.now c.in_ok-name.ensures.name (c.as_slice-3.ensures.value ∙ c.in_ok-name.ensures.image) uniting

pub returns-in-Ok-clause-flawless : goal.returns-in-Ok-clause-flawless
returns-in-Ok-clause-flawless c = λ lines uniting.
    let alone = ap is_followed (sym c.in_ok-name.ensures.image ∙ sym c.as_slice.ensures.value) ∙ sym c.is_longer.ensures ∙ c.if-is_longer.false in
    no_flaw c.args.seed c.args.line.now _ c.in_ok-name.ensures.tab c.in_ok-name.ensures.digits alone
    (last_read c.args.seed c.args.lg_k lines c.args.line.now c.add_image.new.self.map (returns-in-Ok-clause-uniting c lines uniting))

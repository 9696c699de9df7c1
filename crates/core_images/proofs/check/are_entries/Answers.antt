use Rattle.std.proofs.Common.{sym, ◌∙◌, map}
use Rattle.std.proofs.lemmas.Result.{IfOk-weaker}
use Rattle.core_images.proofs.AscendingTests.{outside, up_from_zero, not_from_zero, by_distinct}
use Rattle.core_images.proofs.check.are_entries.Goals as goal

pub returns-then-ascends-clause-ok : goal.returns-then-ascends-clause-ok
returns-then-ascends-clause-ok g c =
    up_from_zero c.args.theta c.args.ordered (map g.E.SketchEntry.key c.args.entries.now) c.is_last_below.result (sym c.requires ∙ c.if-ascends.true) c.is_last_below.ensures

pub returns-then-ordered-clause-ok : goal.returns-then-ordered-clause-ok
returns-then-ordered-clause-ok g c =
    rw c.if-ordered.true (not_from_zero c.args.theta (map g.E.SketchEntry.key c.args.entries.now) (sym c.requires ∙ c.if-ascends.false))

pub returns-then-not-are_below-clause-ok : goal.returns-then-not-are_below-clause-ok
returns-then-not-are_below-clause-ok g c = outside c.args.theta c.args.ordered (map g.E.SketchEntry.key c.args.entries.now) (sym c.are_below.ensures ∙ c.if-not-are_below.true)

pub returns-clause-ok : goal.returns-clause-ok
returns-clause-ok g c =
    rw c.if-ordered.false (IfOk-weaker c.are_distinct.result _ _ (λ b. by_distinct c.args.theta (map g.E.SketchEntry.key c.args.entries.now) b (sym c.are_below.ensures ∙ c.if-not-are_below.false)) c.are_distinct.ensures.ok)

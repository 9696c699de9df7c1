use Rattle.std.proofs.Common.{◌≡◌, cond, Some, sym, ap, ◌∙◌, inl, inr}
use Rattle.std.proofs.lemmas.Result.{err_from_is_err_and}
use Rattle.core_laws.specs.Folds.{Refused, Value}
use Rattle.core_laws.proofs.insertions.Unmarked.{not_refused, was_refused}
use Rattle.core_operators.proofs.share.shared_entry.Goals as goal

pub returns-in_err-merge-clause-refused : goal.returns-in_err-merge-clause-refused
returns-in_err-merge-clause-refused g c =
    let refuses = g.P.IntersectionMergePolicy.refuses c.args.policy.now in
    let p = err_from_is_err_and c.from_residual-in_err-merge.result c.from_residual-in_err-merge.ensures.1 in
    let same : c.in_ok-merged.merged ≡ c.args.existing.now = c.requires.clones_equal c.args.existing.now c.in_ok-merged.merged c.in_ok-merged.ensures.cases in
    rw (p.1, p.2) (elim c.in_err-merge.ensures.refused [
      | inl r ↦
          let why = was_refused (refuses c.args.existing.now c.args.incoming.now) c.in_err-merge.field-0.0 (rw same at r) in
          inr (why.1, c.if-not-same_hash.false, why.0)
      | inr o ↦ inl o.0
    ])

pub returns-clause-combined : goal.returns-clause-combined
returns-clause-combined g c =
    let merges = g.P.IntersectionMergePolicy.merges c.args.policy.now in
    let refuses = g.P.IntersectionMergePolicy.refuses c.args.policy.now in
    let key = g.E.SketchEntry.key in
    let same : c.in_ok-merged.merged ≡ c.args.existing.now = c.requires.clones_equal c.args.existing.now c.in_ok-merged.merged c.in_ok-merged.ensures.cases in
    let free = not_refused (refuses c.args.existing.now c.args.incoming.now) (rw same at c.in_ok-merge.ensures.refused) in
    let combined : c.merge.new.entry ≡ merges c.args.existing.now c.args.incoming.now = rw same at c.in_ok-merge.ensures.merged in
    rw c.if-not-same_hash.false (ap (λ x. Some (Value x)) combined ∙ ap (λ b. Some (cond b (Refused (key c.args.existing.now)) (Value (merges c.args.existing.now c.args.incoming.now)))) (sym free))

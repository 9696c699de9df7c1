use Rattle.std.proofs.Common.{refl, inl, inr}
use Rattle.std.proofs.lemmas.Result.{err_from_is_err_and}
use Rattle.core_laws.specs.Entries.{hash_key, hash_step}
use Rattle.core_laws.proofs.insertions.Cases.{never_refused}
use Rattle.theta_tables.proofs.run.run_command.Goals as goal

pub returns-in_err-created-in-Insert-clause-refused : goal.returns-in_err-created-in-Insert-clause-refused
returns-in_err-created-in-Insert-clause-refused g c =
    let p = err_from_is_err_and c.from_residual.result c.from_residual.ensures.1 in
    let never = never_refused hash_key 0 c.in-Insert.hash (hash_step c.in-Insert.hash) (g.T.ThetaTable.map c.args.table.now).kept (λ _. refl) refl in
    let refused = rw (c.new.ensures, c.of_hash.ensures, never) at c.in_err-created-in-Insert.ensures.refused in
    rw (p.1, p.2) (elim refused [ inl a ↦ inl a | inr b ↦ inr (b.0, refl) ])

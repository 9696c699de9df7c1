use Rattle.std.proofs.Common.{ℕ, suc, ◌∷◌, [], take, drop, get_or, sym, ap, ◌∙◌, inl, inr, arith}
use Rattle.std.proofs.lemmas.Result.{err_from_is_err_and}
use Rattle.std.proofs.lemmas.List.{take_more}
use Rattle.core_table.specs.HashTable.{after_hashes}
use Rattle.core_table.proofs.ManyHashes.{after_hashes-append, stops_here}
use Rattle.core_table.proofs.hash_table.SketchHashTable+ThetaEntry+A.insert_each.Goals as goal

pub returns-in_err-try_insert_hash-clause-err : goal.returns-in_err-try_insert_hash-clause-err
returns-in_err-try_insert_hash-clause-err g c =
    let p = err_from_is_err_and c.from_residual.result c.from_residual.ensures.1 in
    let hash : ℕ = get_or c.args.hashes.now c.loop-hash.hash-index 0 in
    let stays = c.in_err-try_insert_hash.ensures.inserts.err in
    let parts = stops_here c.args.hashes.now c.loop-hash.hash-index c.loop-hash-test.true in
    rw (p.1) (
      take c.loop-hash.hash-index c.args.hashes.now,
      hash,
      drop (suc c.loop-hash.hash-index) c.args.hashes.now,
      parts,
      (
        stays ∙ c.loop-hash.invariant.0,
        elim c.in_err-try_insert_hash.ensures.inserts.refused [ inl never ↦ absurd (cc) | inr makes ↦ rw stays (makes.1) ],
      ),
    )

pub loop-hash-preserved : goal.loop-hash-preserved
loop-hash-preserved g c =
    let hash : ℕ = get_or c.args.hashes.now c.loop-hash.hash-index 0 in
    (c.in_ok-try_insert_hash.ensures.inserts.after ∙ ap (after_hashes (hash ∷ [])) c.loop-hash.invariant.0 ∙ sym (after_hashes-append (take c.loop-hash.hash-index c.args.hashes.now) (hash ∷ []) c.args.self.now.map) ∙ ap (λ xs. after_hashes xs c.args.self.now.map) (sym (take_more c.args.hashes.now c.loop-hash.hash-index 0 c.loop-hash-test.true)), omega (arith, c.loop-hash.invariant.1, c.in_ok-try_insert_hash.ensures.works.looks_kept))

pub returns-in_err-try_insert_hash-clause-looks_kept : goal.returns-in_err-try_insert_hash-clause-looks_kept
returns-in_err-try_insert_hash-clause-looks_kept g c = omega (arith, c.loop-hash.invariant.1, c.in_err-try_insert_hash.ensures.works.looks_kept)

pub returns-clause-looks_kept : goal.returns-clause-looks_kept
returns-clause-looks_kept g c = c.loop-hash.invariant.1

use Rattle.std.proofs.Common.{◌≡◌, Bool, true, false, None, inl, inr, refl}
use Rattle.std.specs.Prelude.{◌&&◌, not, Result, Ok, Err, IsOk}
use Rattle.sketch_base.specs.declared.error.ErrorKind.{ErrorKind}
use Rattle.core_laws.specs.Insertion.{is_screened}
use Rattle.core_laws.specs.Refusal.{Refuses}
use Rattle.core_laws.specs.Entries.{hash_key, hash_step}
use Rattle.core_laws.proofs.insertions.Cases.{never_refused}
use Rattle.core_table.proofs.hash_table.SketchHashTable+ThetaEntry+A.try_insert_hash.Goals as goal

-- a call that is refused with nothing, and takes no memory, succeeds
and_false : (b : Bool) → (b && false) ≡ true → (true ≡ false)
and_false true e = absurd (cc)
and_false false e = absurd (cc)

succeeds : {T : Type 0} (r : Result T ErrorKind) (b : Bool) → Refuses r None (b && false) → IsOk r
succeeds (Ok x) b is = refl
succeeds (Err e) b is = elim is [ inl never ↦ absurd (cc) | inr taken ↦ absurd (let z = and_false b taken.1 in cc) ]

pub returns-clause-inserts : goal.returns-clause-inserts
returns-clause-inserts g c =
    let never = never_refused hash_key 0 c.args.hash (hash_step c.args.hash) c.args.self.now.map.kept (λ _. refl) refl in
    let is = rw (c.new.ensures, c.of_hash.ensures) at c.upsert_entry.ensures.inserts in
    let memory = rw (never) at is.memory in
    record {
      ok = is.ok;
      after = is.after;
      err = is.err;
      refused = rw (never) at is.refused;
      memory = λ low. succeeds c.upsert_entry.result (not (is_screened c.args.hash c.args.self.now.map.kept.theta)) (memory low);
    }

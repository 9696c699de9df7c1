use Rattle.std.proofs.Common.{◌≡◌, ℕ, Bool, true, false, List, [], ◌∷◌, length, inl, inr, refl, sym, ap, ◌∙◌, arith}
use Rattle.std.specs.Prelude.{◌&&◌, ◌==◌, IsTrue}
use Rattle.std.proofs.lemmas.Bool.Decides.{nat_tests}
use Rattle.std.proofs.lemmas.Result.{err_from_is_err_and, on_err_weaker}
use Rattle.core_laws.specs.Entries.{hash_key, hash_step}
use Rattle.core_laws.specs.Insertion.{upsert_allocates}
use Rattle.core_laws.specs.Parts.{StopsAt}
use Rattle.core_state.specs.Updatable.{Updatable}
use Rattle.core_table.specs.HashTable.{MapTable, after_hashes}
use Rattle.core_state.proofs.updatable.UpdatableState+ThetaEntry+A.insert_hashes.Goals as goal

-- a list with a first hash is not empty
some_there : (b : Bool) (hash : ℕ) (hashes : List ℕ) → (b && (length (hash ∷ hashes) == 0)) ≡ false
some_there true hash hashes = grind (arith, nat_tests)
some_there false hash hashes = refl

-- without hashes the state is empty if it was
none_there : (b : Bool) → b ≡ (b && (0 == 0))
none_there true = refl
none_there false = refl

-- after a first hash that was inserted
stopped_behind : (first : ℕ) (hashes others : List ℕ) (old mid new : MapTable ℕ) (was now : Bool) → hashes ≡ first ∷ others → mid ≡ after_hashes (first ∷ []) old → now ≡ false →
    StopsAt others (λ front hash. (new ≡ after_hashes front mid) × IsTrue (upsert_allocates hash_key hash (hash_step hash) new.kept)) →
    StopsAt hashes (λ front hash. (new ≡ after_hashes front old) × (now ≡ (was && (length front == 0))) × IsTrue (upsert_allocates hash_key hash (hash_step hash) new.kept))
stopped_behind first hashes others old mid new was now parts after nonempty part = (
  first ∷ part.0,
  part.1,
  part.2,
  parts ∙ ap (λ xs. first ∷ xs) part.3,
  (part.4.0 ∙ ap (after_hashes part.0) after, nonempty ∙ sym (some_there was first part.0), part.4.1),
)

pub returns-in_err-insert_hash-clause-err : goal.returns-in_err-insert_hash-clause-err
returns-in_err-insert_hash-clause-err g c =
    let p = err_from_is_err_and c.from_residual.result c.from_residual.ensures.1 in
    let stays = c.in_err-insert_hash.ensures.err in
    rw (p.1) (
      [],
      c.in-Some.first.now,
      c.in-Some.others.now,
      c.in-Some.ensures.cases.0,
      (
        stays,
        c.in_err-insert_hash.ensures.err_empty ∙ none_there c.args.self.now.empty,
        elim c.in_err-insert_hash.ensures.refused [ inl never ↦ absurd (cc) | inr makes ↦ rw stays (makes.1) ],
      ),
    )

pub returns-clause-err : goal.returns-clause-err
returns-clause-err g c =
    let map_of : Updatable ℕ → MapTable ℕ = λ s. s.map in
    let is_empty : Updatable ℕ → Bool = λ s. s.empty in
    let part =
    stopped_behind c.in-Some.first.now c.args.hashes.now c.in-Some.others.now c.args.self.now.map c.self.inside.table.map c.insert_hashes.new.self.map c.args.self.now.empty c.self.inside.empty
    c.in-Some.ensures.cases.0 (ap map_of c.self.view_is ∙ c.in_ok-insert_hash.ensures.after) (ap is_empty c.self.view_is ∙ c.in_ok-insert_hash.ensures.nonempty)
    in
    on_err_weaker c.insert_hashes.result part c.insert_hashes.ensures.err

use Rattle.std.proofs.Common.{ℕ, ◌<◌, subst, sym, ap, ◌∙◌, arith, inl, refl}
use Rattle.std.proofs.lemmas.Bool.Decides.{nat_tests}
use Rattle.core_compact.specs.CompactState.{IsCompact}
use Rattle.core_laws.specs.Entries.{hash_key}
use Rattle.c_objects.specs.Status.{IsUnreadStatus}
use Rattle.c_objects.specs.Tuples.{keys_by}
use Rattle.c_objects.proofs.Keys.{form_of, refused_keys, unseeded}
use Rattle.c_objects.proofs.tuples.of_hashes.Goals as goal

pub returns-then-seed_hash-eq0-clause-refused : goal.returns-then-seed_hash-eq0-clause-refused
returns-then-seed_hash-eq0-clause-refused c = unseeded c.args.state.now c.args.order c.args.seed c.args.hashes.now (sym c.reader_seed_hash-seed_hash.ensures ∙ c.if-seed_hash-eq0.true)

pub returns-in-Ok-clause-made : goal.returns-in-Ok-clause-made
returns-in-Ok-clause-made c =
    let layout = c.in-Some.layout in let hashes = c.args.hashes.now in
    let is = c.of_state.ensures ∙ c.in-Ok.ensures.made ∙ ap (λ (h : ℕ). keys_by layout h hashes) c.reader_seed_hash-seed_hash.ensures in
    let some : 0 < c.reader_seed_hash-seed_hash.result = grind (arith, nat_tests, c.if-seed_hash-eq0.false) in
    form_of c.args.state.now c.args.order c.args.seed hashes layout (record { sketch = c.of_state.result }) c.in-Some.ensures is (subst (λ (h : ℕ). 0 < h) c.reader_seed_hash-seed_hash.ensures some)

pub returns-in-Ok-clause-room : goal.returns-in-Ok-clause-room
returns-in-Ok-clause-room c = inl refl

pub returns-in-Err-clause-refused : goal.returns-in-Err-clause-refused
returns-in-Err-clause-refused c =
    let layout = c.in-Some.layout in let hashes = c.args.hashes.now in
    let refused = subst (λ (h : ℕ). IsUnreadStatus (IsCompact hash_key (keys_by layout h hashes)) c.in-Err.status) c.reader_seed_hash-seed_hash.ensures c.in-Err.ensures.refused in
    refused_keys c.args.state.now c.args.order c.args.seed hashes layout c.in-Err.status c.in-Some.ensures refused

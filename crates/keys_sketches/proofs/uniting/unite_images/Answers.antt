use Rattle.std.proofs.Common.{◌≡◌, ℕ, List, [], Option, Some, None, true, inl, inr, sym, subst}
use Rattle.std.specs.Prelude.{◌⊎◌, IfErr, IfSome, IsTrue}
use Rattle.std.proofs.lemmas.Result.{err_from_is_err_and}
use Rattle.sketch_base.specs.declared.error.ErrorKind.{ErrorKind}
use Rattle.sketch_base.specs.declared.error.ErrorKind.TheVariants.{OutOfMemory}
use Rattle.core_laws.specs.Settings.{settings_refusal}
use Rattle.core_laws.specs.declared.TheConstants.{MAX_THETA}
use Rattle.keys_lines.specs.Keys.{hashing_of}
use Rattle.keys_sketches.specs.Batches.{HasRead}
use Rattle.keys_sketches.specs.Refusals.{HasNoImage, IsImageFailure, IsUniteRefusal}
use Rattle.keys_sketches.specs.Shards.{ReadsUnder}
use Rattle.keys_sketches.specs.declared.sketching.ReadError.{ReadError}
use Rattle.keys_sketches.specs.declared.sketching.ReadError.TheVariants.{Refused, Failed}
use Rattle.keys_sketches.specs.Unions.{HasUnited}
use Rattle.keys_sketches.proofs.Compacts.{united_whole, united_apart}
use Rattle.keys_sketches.proofs.Turns.{if_some}
use Rattle.keys_sketches.proofs.uniting.unite_images.Goals as goal

pub returns-clause-united : goal.returns-clause-united
returns-clause-united g c =
    let seed = c.args.seed in
    let lg_k = c.args.lg_k in
    let batch = c.add_images.new.union in
    if_some (g.S.Sources.texts c.args.images.now) (λ all. HasRead (HasUnited seed lg_k) (ReadsUnder seed) all batch.union batch.waiting.items) _
    (λ all has. c.in_ok-image.ensures.image seed lg_k all has)
    (c.in_ok-count.ensures.united lg_k [] c.in_ok-batch.ensures.united)

pub returns-clause-whole : goal.returns-clause-whole
returns-clause-whole g c =
    let seed = c.args.seed in
    let lg_k = c.args.lg_k in
    let batch = c.add_images.new.union in
    if_some (g.S.Sources.texts c.args.images.now) (λ all. HasRead (HasUnited seed lg_k) (ReadsUnder seed) all batch.union batch.waiting.items) _
    (λ all has key texts whole are. united_whole c.one_reading.ensures c.read_again.ensures (hashing_of key seed) lg_k texts all c.in_ok-image.image.items whole are (c.in_ok-image.ensures.image seed lg_k all has))
    (c.in_ok-count.ensures.united lg_k [] c.in_ok-batch.ensures.united)

pub returns-clause-apart : goal.returns-clause-apart
returns-clause-apart g c =
    let seed = c.args.seed in
    let lg_k = c.args.lg_k in
    let batch = c.add_images.new.union in
    if_some (g.S.Sources.texts c.args.images.now) (λ all. HasRead (HasUnited seed lg_k) (ReadsUnder seed) all batch.union batch.waiting.items) _
    (λ all has key texts lines are same. united_apart c.one_reading.ensures c.read_again.ensures (hashing_of key seed) lg_k texts lines all c.in_ok-image.image.items same are (c.in_ok-image.ensures.image seed lg_k all has))
    (c.in_ok-count.ensures.united lg_k [] c.in_ok-batch.ensures.united)

-- images that aren't all read are not united
not_united : (seed : ℕ) (refusal : Option ErrorKind) (images : Option (List (List ℕ))) (e : ReadError) → refusal ≡ None → IsImageFailure None (IfSome images (HasNoImage seed)) e → IsUniteRefusal seed refusal images e
not_united seed refusal images (Refused kind) none failure = elim failure [ inl memory ↦ inr (inl memory) | inr fault ↦ inr (inr (fault.0, none, fault.1)) ]
not_united seed refusal images (Failed error) none failure = none

only_memory : (kind : ErrorKind) → (None ≡ Some kind) ⊎ ((kind ≡ OutOfMemory) × IsTrue true) → kind ≡ OutOfMemory
only_memory kind (inl never) = absurd (cc)
only_memory kind (inr memory) = memory.0

pub returns-in_err-count-clause-refused : goal.returns-in_err-count-clause-refused
returns-in_err-count-clause-refused g c =
    let seed = c.args.seed in
    let refusal = settings_refusal c.args.lg_k MAX_THETA seed in
    let texts = g.S.Sources.texts c.args.images.now in
    let p = err_from_is_err_and c.from_residual-in_err-count.result c.from_residual-in_err-count.ensures.1 in
    subst (λ r. IfErr r (IsUniteRefusal seed refusal texts)) (sym p.1) (subst (IsUniteRefusal seed refusal texts) (sym p.2)
    (not_united seed refusal texts c.in_err-count.field-0.0 c.in_ok-batch.ensures.refused (c.in_err-count.ensures.refused c.args.lg_k c.in_ok-batch.ensures.ready)))

pub returns-in_err-image-clause-refused : goal.returns-in_err-image-clause-refused
returns-in_err-image-clause-refused g c =
    let seed = c.args.seed in
    let refusal = settings_refusal c.args.lg_k MAX_THETA seed in
    let texts = g.S.Sources.texts c.args.images.now in
    let p = err_from_is_err_and c.from_residual-in_err-image.result c.from_residual-in_err-image.ensures.1 in
    subst (λ r. IfErr r (IsUniteRefusal seed refusal texts)) (sym p.1) (subst (IsUniteRefusal seed refusal texts) (sym p.2)
    (inr (inl (only_memory c.in_err-image.field-0.0 (c.in_err-image.ensures.refused seed (c.in_ok-count.ensures.ready c.args.lg_k c.in_ok-batch.ensures.ready))))))

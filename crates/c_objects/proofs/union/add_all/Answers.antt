use Rattle.std.proofs.Common.{ℕ, List, ◌++◌, map, refl, sym, inl, inr, ap, subst, ◌∙◌}
use Rattle.std.specs.List.{concat}
use Rattle.core_compact.specs.CompactState.{shown_of}
use Rattle.core_laws.specs.Entries.{hash_key}
use Rattle.theta_sketches.specs.Streams.{ArePartsOf, IsUnionOf, value_of}
use Rattle.theta_sketches.specs.View.{view_shows, view_sequence}
use Rattle.c_objects.specs.Status.{status_of}
use Rattle.c_objects.proofs.Gathered.{all_given}
use Rattle.c_objects.proofs.Inputs.{same_values, accepted, skipped, united, joined, refused}
use Rattle.c_objects.proofs.union.add_all.Goals as goal

pub returns-in-Ok-update_all : goal.returns-in-Ok-update_all
returns-in-Ok-update_all c =
    let views = c.as_slice.result.now in
    let sketches = c.args.sketches.now in
    let shown = ap (map (λ v. view_shows v)) c.as_slice.ensures.value ∙ c.in-Ok.ensures.shown in
    let listed = ap (map (λ v. view_sequence v)) c.as_slice.ensures.value ∙ c.in-Ok.ensures.listed in
    let old = c.args.union.now.union in
    let new = c.update_all.new.self in
    let done = c.in-Ok-update_all.ensures in (
      refl,
      inl (
        refl,
        (
          accepted (λ v. view_shows v) (λ v. view_sequence v) (shown_of hash_key) (λ s. s.entries) views sketches shown listed old new done.accepted,
          skipped (λ v. view_shows v) (λ v. view_sequence v) (shown_of hash_key) (λ s. s.entries) views sketches shown listed old new done.skipped,
          united (λ v. view_shows v) (λ v. view_sequence v) (shown_of hash_key) (λ s. s.entries) views sketches shown listed old new done.united,
          joined (λ v. view_shows v) (λ v. view_sequence v) (shown_of hash_key) (λ s. s.entries) views sketches shown listed old new done.joined,
          done.made_with,
          λ lg_k k start hashes more is batch.
              let same = same_values (λ v. view_shows v) (λ v. view_sequence v) (shown_of hash_key) (λ s. s.entries) views sketches shown listed old new in
              let given : (streams : List (List ℕ)) → ArePartsOf k start (map value_of sketches) streams → IsUnionOf lg_k k start new (hashes ++ concat streams) = λ streams parts. done.given lg_k k start hashes streams is (subst (λ values. ArePartsOf k start values streams) (sym same) parts) in
              all_given new sketches lg_k k start hashes more given batch,
        ),
      ),
    )

pub returns : goal.returns
returns c =
    let views = c.as_slice.result.now in
    let sketches = c.args.sketches.now in
    let shown = ap (map (λ v. view_shows v)) c.as_slice.ensures.value ∙ c.in-Ok.ensures.shown in
    let listed = ap (map (λ v. view_sequence v)) c.as_slice.ensures.value ∙ c.in-Ok.ensures.listed in
    let e = c.in-Err-update_all.error in
    let why = refused (λ v. view_shows v) (λ v. view_sequence v) (shown_of hash_key) (λ s. s.entries) views sketches shown listed c.args.union.now.union c.update_all.new.self e c.in-Err-update_all.ensures.refused in
    (refl, inr (inl (e, c.status_of.ensures.status ∙ ap status_of c.kind.ensures, why)))

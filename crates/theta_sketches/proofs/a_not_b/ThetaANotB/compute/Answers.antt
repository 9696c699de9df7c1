use Rattle.std.proofs.Common.{◌≡◌, ℕ, ◌||◌, refl, sym, subst}
use Rattle.std.proofs.lemmas.List.{map-id}
use Rattle.core_laws.specs.Entries.{hash_key}
use Rattle.core_laws.specs.Operators.{minus}
use Rattle.core_laws.specs.Shown.{shown_value}
use Rattle.core_state.specs.View.{viewed_shows, viewed_lending}
use Rattle.core_state.specs.declared.view.SketchView.{SketchView}
use Rattle.core_state.specs.declared.view.Viewed.TheVariants.{Mutable, Compact}
use Rattle.theta_sketches.specs.Streams.{lacking_hashes, view_value, IsSampleOf}
use Rattle.theta_sketches.specs.View.{view_shows, view_sequence}
use Rattle.theta_sketches.proofs.Streams.{minus-sample, answer-sample, answer-below}
use Rattle.theta_sketches.proofs.a_not_b.ThetaANotB.compute.Goals as goal

view-hashes : {Z S : Type 0} (view : SketchView ℕ Z S) → (view_shows view).hashes ≡ view_sequence view
view-hashes view = elim view.sketch as (λ v. (viewed_shows hash_key v).hashes ≡ (viewed_lending v).rest) [ Mutable s ↦ map-id s.now.sequence | Compact s ↦ map-id s.now.entries ]

pub returns-clause-sample : goal.returns-clause-sample
returns-clause-sample g c = rw c.of_state.ensures (λ hashes others sa sb.
    answer-sample (view_shows c.args.a).seed_hash (c.args.ordered || (view_shows c.args.a).ordered) (minus hash_key hash_key (view_value c.args.a) (shown_value hash_key (view_shows c.args.b) (view_shows c.args.b).hashes)) c.in_ok-state.state (lacking_hashes hashes others) c.in_ok-state.ensures.ok
    (minus-sample (view_value c.args.a) (shown_value hash_key (view_shows c.args.b) (view_shows c.args.b).hashes) hashes others sa (subst (λ xs. IsSampleOf (shown_value hash_key (view_shows c.args.b) xs) others) (sym (view-hashes c.args.b)) sb)))

pub returns-clause-below : goal.returns-clause-below
returns-clause-below g c = rw c.of_state.ensures (λ hashes others sa sb ordered.
    answer-below (view_shows c.args.a).seed_hash (c.args.ordered || (view_shows c.args.a).ordered) (minus hash_key hash_key (view_value c.args.a) (shown_value hash_key (view_shows c.args.b) (view_shows c.args.b).hashes)) c.in_ok-state.state (lacking_hashes hashes others) c.in_ok-state.ensures.ok (rw ordered refl)
    (minus-sample (view_value c.args.a) (shown_value hash_key (view_shows c.args.b) (view_shows c.args.b).hashes) hashes others sa (subst (λ xs. IsSampleOf (shown_value hash_key (view_shows c.args.b) xs) others) (sym (view-hashes c.args.b)) sb)))

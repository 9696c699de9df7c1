use Rattle.std.proofs.Common.{◌≡◌, ◌||◌, map, refl, subst}
use Rattle.core_laws.specs.Entries.{hash_key}
use Rattle.core_laws.specs.Operators.{minus}
use Rattle.core_laws.specs.Shown.{shown_value}
use Rattle.core_slots.specs.Entry.{tuple_key}
use Rattle.core_slots.specs.declared.entry.TupleEntry.{TupleEntry}
use Rattle.core_state.specs.View.{shows, sequence, viewed_shows, viewed_lending}
use Rattle.core_state.specs.declared.view.SketchView.{SketchView}
use Rattle.core_state.specs.declared.view.Viewed.TheVariants.{Mutable, Compact}
use Rattle.core_streams.proofs.Folds.{keys-shown}
use Rattle.tuple_sketches.specs.Streams.{Given, without, view_value, IsSampleOf}
use Rattle.tuple_sketches.proofs.Streams.{minus-sample, answer-sample, answer-below}
use Rattle.tuple_sketches.proofs.a_not_b.TupleANotB.compute.Goals as goal

view-hashes : {S Z T : Type 0} (view : SketchView (TupleEntry S) Z T) → (shows tuple_key view).hashes ≡ map tuple_key (sequence view)
view-hashes view = elim view.sketch as (λ v. (viewed_shows tuple_key v).hashes ≡ map tuple_key (viewed_lending v).rest) [ Mutable s ↦ refl | Compact s ↦ refl ]

difference : {S T Z Y U V : Type 0} (a : SketchView (TupleEntry S) Z U) (b : SketchView (TupleEntry T) Y V) (given : Given S) (others : Given T) → IsSampleOf (view_value a) given → IsSampleOf (view_value b) others → IsSampleOf (minus tuple_key hash_key (view_value a) (shown_value hash_key (shows tuple_key b) (shows tuple_key b).hashes)) (without given others)
difference a b given others sa sb =
    subst (λ value. IsSampleOf (minus tuple_key hash_key (view_value a) value) (without given others)) (keys-shown tuple_key (shows tuple_key b) (sequence b) (view-hashes b)) (minus-sample (view_value a) (view_value b) given others sa sb)

pub returns-clause-sample : goal.returns-clause-sample
returns-clause-sample g c = rw c.of_state.ensures (λ given others sa sb.
    answer-sample (shows tuple_key c.args.a).seed_hash (c.args.ordered || (shows tuple_key c.args.a).ordered) (minus tuple_key hash_key (view_value c.args.a) (shown_value hash_key (shows tuple_key c.args.b) (shows tuple_key c.args.b).hashes)) c.in_ok-state.state (without given others) c.in_ok-state.ensures.ok (difference c.args.a c.args.b given others sa sb))

pub returns-clause-below : goal.returns-clause-below
returns-clause-below g c = rw c.of_state.ensures (λ given others sa sb ordered.
    answer-below (shows tuple_key c.args.a).seed_hash (c.args.ordered || (shows tuple_key c.args.a).ordered) (minus tuple_key hash_key (view_value c.args.a) (shown_value hash_key (shows tuple_key c.args.b) (shows tuple_key c.args.b).hashes)) c.in_ok-state.state (without given others) c.in_ok-state.ensures.ok (rw ordered refl) (difference c.args.a c.args.b given others sa sb))

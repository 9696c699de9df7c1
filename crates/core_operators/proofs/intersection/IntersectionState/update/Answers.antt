use Rattle.std.proofs.Common.{◌≡◌, false, true, refl, sym, ap, ◌∙◌, arith}
use Rattle.core_laws.specs.Maps.{below, map_of}
use Rattle.core_laws.proofs.maps.Ascending.{ascending-nil}
use Rattle.core_operators.specs.Intersection.{is_settled_outcome, is_begun}
use Rattle.core_operators.proofs.Outcomes.{held_value, held_retained, not_begun}
use Rattle.core_operators.proofs.Metadata.{reported_counted}
use Rattle.core_operators.proofs.SharedEntries.{copied}
use Rattle.core_operators.proofs.intersection.IntersectionState.update.Goals as goal

pub returns-then-is_settled-clause-content : goal.returns-then-is_settled-clause-content
returns-then-is_settled-clause-content g c = rw (← c.self.view_is) (held_retained g.E.SketchEntry.key c.self.inside.outcome (record { entries = c.self.inside.entries.items; theta = c.self.inside.theta }) c.self.invariant.retained)

pub returns-then-self-seed_hash-clause-content : goal.returns-then-self-seed_hash-clause-content
returns-then-self-seed_hash-clause-content g c = rw (← c.self.view_is) (held_retained g.E.SketchEntry.key c.self.inside.outcome (record { entries = c.self.inside.entries.items; theta = c.self.inside.theta }) c.self.invariant.retained)

pub returns-in_err-alloc-in-NonEmpty-clause-content : goal.returns-in_err-alloc-in-NonEmpty-clause-content
returns-in_err-alloc-in-NonEmpty-clause-content g c = rw (← c.self.view_is) (held_retained g.E.SketchEntry.key c.self.inside.outcome (record { entries = c.self.inside.entries.items; theta = c.self.inside.theta }) c.self.invariant.retained)

pub returns-in_err-self-inside-in-NonEmpty-clause-content : goal.returns-in_err-self-inside-in-NonEmpty-clause-content
returns-in_err-self-inside-in-NonEmpty-clause-content g c = rw (← c.self.view_is) (held_retained g.E.SketchEntry.key c.self.inside.outcome (record { entries = c.self.inside.entries.items; theta = c.self.inside.theta }) c.self.invariant.retained)

pub returns-then-not-has_begun-clause-content : goal.returns-then-not-has_begun-clause-content
returns-then-not-has_begun-clause-content g c = rw (← c.self.view_is) (held_retained g.E.SketchEntry.key c.self.inside.outcome (record { entries = c.self.inside.entries.items; theta = c.self.inside.theta }) c.self.invariant.retained)

pub returns-in-Empty-clause-content : goal.returns-in-Empty-clause-content
returns-in-Empty-clause-content g c = rw (← c.self.view_is) (held_retained g.E.SketchEntry.key c.self.inside.outcome (record { entries = c.self.inside.entries.items; theta = c.self.inside.theta }) c.self.invariant.retained)

pub invariant_of-self : goal.invariant_of-self
invariant_of-self g c = rw c.clear.ensures.items (record {
  intersection = record { limited = omega arith };
  retained = record { ascending = ascending-nil g.E.SketchEntry.key; nonzero = tt; below_theta = tt; theta_low = c.self.invariant.retained.theta_low; theta_high = c.self.invariant.retained.theta_high };
})

pub invariant_of-self-then-not-has_begun : goal.invariant_of-self-then-not-has_begun
invariant_of-self-then-not-has_begun g c =
    let key = g.E.SketchEntry.key in
    let listing = g.S.EntrySketch.listing c.args.sketch in
    let shown = g.S.KeySketch.shown c.args.sketch in
    let reported = reported_counted shown c.in-NonEmpty.seed_hash c.in-NonEmpty.theta c.in-NonEmpty.num_retained c.in-NonEmpty.ordered c.in-NonEmpty.ensures.metadata in
    let copy = copied key shown listing c.metadata.ensures.is_sound c.ascending_entries.ensures.listed in
    let all : c.in_ok-self-inside-in-NonEmpty.field-0.items ≡ map_of key listing = c.in_ok-self-inside-in-NonEmpty.ensures.ok ∙ ap (below key (map_of key listing)) reported.theta_is ∙ copy.all in
    rw (all, reported.theta_is) (record { intersection = record { limited = copy.limited }; retained = copy.retained })

pub returns-then-not-has_begun-clause-met : goal.returns-then-not-has_begun-clause-met
returns-then-not-has_begun-clause-met g c =
    let key = g.E.SketchEntry.key in
    let listing = g.S.EntrySketch.listing c.args.sketch in
    let shown = g.S.KeySketch.shown c.args.sketch in
    let unbegun : is_begun c.self.inside.outcome ≡ false = sym c.has_begun.ensures ∙ c.if-not-has_begun.true in
    let reported = reported_counted shown c.in-NonEmpty.seed_hash c.in-NonEmpty.theta c.in-NonEmpty.num_retained c.in-NonEmpty.ordered c.in-NonEmpty.ensures.metadata in
    let copy = copied key shown listing c.metadata.ensures.is_sound c.ascending_entries.ensures.listed in
    let all : c.in_ok-self-inside-in-NonEmpty.field-0.items ≡ map_of key listing = c.in_ok-self-inside-in-NonEmpty.ensures.ok ∙ ap (below key (map_of key listing)) reported.theta_is ∙ copy.all in
    rw (← c.self.view_is, all, reported.nonempty, reported.theta_is, not_begun c.self.inside.outcome unbegun) refl

pub returns-in_ok-outcome-in-NonEmpty-clause-met : goal.returns-in_ok-outcome-in-NonEmpty-clause-met
returns-in_ok-outcome-in-NonEmpty-clause-met g c =
    let unsettled : is_settled_outcome c.self.inside.outcome ≡ false = sym c.is_settled.ensures ∙ c.if-is_settled.false in
    let begun : is_begun c.self.inside.outcome ≡ true = sym c.has_begun.ensures ∙ c.if-not-has_begun.false in
    let reported = reported_counted (g.S.KeySketch.shown c.args.sketch) c.in-NonEmpty.seed_hash c.in-NonEmpty.theta c.in-NonEmpty.num_retained c.in-NonEmpty.ordered c.in-NonEmpty.ensures.metadata in
    rw (← c.self.view_is, reported.nonempty, held_value c.self.inside.outcome (record { entries = c.self.inside.entries.items; theta = c.self.inside.theta }) unsettled begun, ← reported.theta_is) c.in_ok-outcome-in-NonEmpty.ensures.met

use Rattle.std.proofs.Common.{◌≡◌, ◌<◌, ◌≤◌, None, false, refl, sym, ap, ◌∙◌, min, flat_map, arith, rules}
use Rattle.core_laws.specs.Cuts.{retained, IsRetained}
use Rattle.core_laws.proofs.cuts.WithinWholeMaps.{below-below}
use Rattle.core_laws.proofs.insertions.Cases.{IsRetained-below}
use Rattle.core_operators.specs.Union.{IsJoined, least_theta, update_all_refusal}
use Rattle.core_operators.proofs.Inputs.{least_theta-low}
use Rattle.core_operators.proofs.LoweredUnion.{over}
use Rattle.core_operators.proofs.UnitedMany.{unites-nothing, unites-joined, refused-below}
use Rattle.core_operators.proofs.union.UnionState.update_all.Goals as goal

pub returns-then-self-clause-content : goal.returns-then-self-clause-content
returns-then-self-clause-content g c = rw (← c.self.view_is) (IsRetained-below g.E.SketchEntry.key _ _ _ c.self.invariant.table_sound.kept c.self.invariant.theta_low c.self.invariant.theta_within)

pub returns-in_err-inputs-clause-content : goal.returns-in_err-inputs-clause-content
returns-in_err-inputs-clause-content g c = rw (← c.self.view_is) (IsRetained-below g.E.SketchEntry.key _ _ _ c.self.invariant.table_sound.kept c.self.invariant.theta_low c.self.invariant.theta_within)

pub returns-then-inputs-clause-content : goal.returns-then-inputs-clause-content
returns-then-inputs-clause-content g c = rw (← c.self.view_is) (IsRetained-below g.E.SketchEntry.key _ _ _ c.self.invariant.table_sound.kept c.self.invariant.theta_low c.self.invariant.theta_within)

pub returns-in-Err-clause-content : goal.returns-in-Err-clause-content
returns-in-Err-clause-content g c = rw (← c.self.view_is) (IsRetained-below g.E.SketchEntry.key _ _ _ c.self.invariant.table_sound.kept c.self.invariant.theta_low c.self.invariant.theta_within)

pub returns-clause-content : goal.returns-clause-content
returns-clause-content g c = rw (← c.self.view_is) (IsRetained-below g.E.SketchEntry.key _ _ _ c.self.invariant.table_sound.kept c.self.invariant.theta_low c.self.invariant.theta_within)

pub returns-then-inputs-clause-united : goal.returns-then-inputs-clause-united
returns-then-inputs-clause-united g c =
    let merges = g.P.UnionMergePolicy.merges c.self.inside.policy in
    let refuses = g.P.UnionMergePolicy.refuses c.self.inside.policy in
    let keeps = g.met.P.UnionMergePolicy.keeps_hash c.self.inside.policy in
    let retained_old : IsRetained g.E.SketchEntry.key (retained g.E.SketchEntry.key c.self.inside.table.map.kept.entries c.self.inside.theta) = IsRetained-below g.E.SketchEntry.key _ _ _ c.self.invariant.table_sound.kept c.self.invariant.theta_low c.self.invariant.theta_within in
    let old = over g.E.SketchEntry.key c.self.inside.empty c.self.inside.failed c.self.inside.policy c.self.inside.table.map c.self.inside.theta in
    rw (← c.self.view_is) (unites-nothing g.E.SketchEntry.key merges refuses keeps g.S.KeySketch.shown g.S.EntrySketch.listing old old c.args.sketches.now c.self.invariant.union c.if-self.false retained_old c.in_ok-inputs.ensures.inputs (sym c.in_ok-inputs.ensures.empty ∙ c.if-inputs.true))

pub merge_all-merged-requires-clause-low : goal.merge_all-merged-requires-clause-low
merge_all-merged-requires-clause-low g c =
    let low : 0 < least_theta g.S.KeySketch.shown c.args.sketches.now = least_theta-low g.E.SketchEntry.key g.S.KeySketch.shown g.S.EntrySketch.listing c.args.sketches.now c.in_ok-inputs.ensures.inputs in
    omega (arith, c.min-least.ensures, c.in_ok-inputs.ensures.theta, low, c.self.invariant.theta_low)

pub invariant_of-self : goal.invariant_of-self
invariant_of-self g c =
    let is = c.self.invariant in
    let t = c.merge_all-merged.new.table.map in
    let lg : t.lg_nom ≡ c.self.inside.table.map.lg_nom = ap (λ m. m.lg_nom) c.merge_all-merged.ensures.made_with in
    let least : 0 < least_theta g.S.KeySketch.shown c.args.sketches.now = least_theta-low g.E.SketchEntry.key g.S.KeySketch.shown g.S.EntrySketch.listing c.args.sketches.now c.in_ok-inputs.ensures.inputs in
    let low : 0 < c.min-least.result = omega (arith, c.min-least.ensures, c.in_ok-inputs.ensures.theta, least, c.self.invariant.theta_low) in
    record {
      union = record { lg_k_low = omega (arith, lg, is.union.lg_k_low); lg_k_high = omega (arith, lg, is.union.lg_k_high); theta_high = λ e. absurd (cc); none_held = λ e. absurd (cc) };
      theta_low = omega (arith, c.min-self-inside.ensures, low, c.retention_theta.ensures.theta, c.retention_theta.ensures.sound.kept.theta_low);
      theta_within = omega (arith, c.min-self-inside.ensures, c.retention_theta.ensures.theta);
      table_sound = c.retention_theta.ensures.sound;
    }

pub invariant_of-self-2 : goal.invariant_of-self-2
invariant_of-self-2 g c =
    let is = c.self.invariant in
    let t = c.merge_all-merged.new.table.map in
    let lg : t.lg_nom ≡ c.self.inside.table.map.lg_nom = ap (λ m. m.lg_nom) c.merge_all-merged.ensures.made_with in
    let start : t.start ≡ c.self.inside.table.map.start = ap (λ m. m.start) c.merge_all-merged.ensures.made_with in
    let least : 0 < least_theta g.S.KeySketch.shown c.args.sketches.now = least_theta-low g.E.SketchEntry.key g.S.KeySketch.shown g.S.EntrySketch.listing c.args.sketches.now c.in_ok-inputs.ensures.inputs in
    let low : 0 < c.min-least.result = omega (arith, c.min-least.ensures, c.in_ok-inputs.ensures.theta, least, c.self.invariant.theta_low) in
    let high : c.self.inside.theta ≤ c.self.inside.table.map.start = is.union.theta_high c.if-self.false in
    record {
      union = record { lg_k_low = omega (arith, lg, is.union.lg_k_low); lg_k_high = omega (arith, lg, is.union.lg_k_high); theta_high = λ e. omega (arith, c.min-self-inside.ensures, c.min-least.ensures, start, high); none_held = λ e f. absurd (cc) };
      theta_low = omega (arith, c.min-self-inside.ensures, low, c.retention_theta.ensures.theta, c.retention_theta.ensures.sound.kept.theta_low);
      theta_within = omega (arith, c.min-self-inside.ensures, c.retention_theta.ensures.theta);
      table_sound = c.retention_theta.ensures.sound;
    }

pub returns-in-Err-clause-refused : goal.returns-in-Err-clause-refused
returns-in-Err-clause-refused g c =
    let merges = g.P.UnionMergePolicy.merges c.self.inside.policy in
    let refuses = g.P.UnionMergePolicy.refuses c.self.inside.policy in
    let keeps = g.met.P.UnionMergePolicy.keeps_hash c.self.inside.policy in
    let none : update_all_refusal c.args.self.now g.S.KeySketch.shown c.args.sketches.now ≡ None = search rules in
    let m_is : c.min-least.result ≡ min c.self.inside.theta (least_theta g.S.KeySketch.shown c.args.sketches.now) = c.min-least.ensures ∙ ap (λ t. min c.self.inside.theta t) c.in_ok-inputs.ensures.theta in
    rw (none, ← c.self.view_is) (record {
      nonempty = sym c.in_ok-inputs.ensures.empty ∙ c.if-inputs.false;
      why = rw (← m_is) (refused-below g.E.SketchEntry.key merges refuses keeps g.S.KeySketch.shown g.S.EntrySketch.listing c.self.inside.table.map.kept.entries c.min-least.result c.self.inside.theta c.args.sketches.now _ (omega (arith, c.min-least.ensures)) c.in-Err.ensures.refused);
      made_with = rw c.in-Err.ensures.made_with refl;
    })

pub returns-clause-joined : goal.returns-clause-joined
returns-clause-joined g c some =
    let shown = g.S.KeySketch.shown in
    let now = c.merge_all-merged.new.table.map.kept in
    let m_is : c.min-least.result ≡ min c.self.inside.theta (least_theta shown c.args.sketches.now) = c.min-least.ensures ∙ ap (λ t. min c.self.inside.theta t) c.in_ok-inputs.ensures.theta in
    let now_is : c.min-self-inside.result ≡ min c.min-least.result now.theta = c.min-self-inside.ensures ∙ ap (λ t. min c.min-least.result t) c.retention_theta.ensures.theta in
    rw (← c.self.view_is) (record {
      whole = rw (now_is, ← m_is, below-below g.E.SketchEntry.key c.self.inside.table.map.kept.entries c.min-least.result c.self.inside.theta (omega (arith, c.min-least.ensures))) c.in_default.ensures.whole;
      made_with = rw c.merge_all-merged.ensures.made_with refl;
    })

pub returns-clause-united : goal.returns-clause-united
returns-clause-united g c =
    let key = g.E.SketchEntry.key in
    let shown = g.S.KeySketch.shown in
    let listing = g.S.EntrySketch.listing in
    let merges = g.P.UnionMergePolicy.merges c.self.inside.policy in
    let refuses = g.P.UnionMergePolicy.refuses c.self.inside.policy in
    let keeps = g.met.P.UnionMergePolicy.keeps_hash c.self.inside.policy in
    let retained_old : IsRetained key (retained key c.self.inside.table.map.kept.entries c.self.inside.theta) = IsRetained-below key _ _ _ c.self.invariant.table_sound.kept c.self.invariant.theta_low c.self.invariant.theta_within in
    let old = over key c.self.inside.empty c.self.inside.failed c.self.inside.policy c.self.inside.table.map c.self.inside.theta in
    let new = over key false c.self.inside.failed c.self.inside.policy c.merge_all-merged.new.table.map c.min-self-inside.result in
    let some = sym c.in_ok-inputs.ensures.empty ∙ c.if-inputs.false in
    let join : IsJoined key merges refuses old new (least_theta shown c.args.sketches.now) (flat_map listing c.args.sketches.now) = rw (← c.self.view_is) at (returns-clause-joined g c some) in
    rw (← c.self.view_is) (unites-joined key merges refuses keeps shown listing old new c.args.sketches.now c.self.invariant.union c.if-self.false retained_old c.in_ok-inputs.ensures.inputs some join)

use Rattle.std.proofs.Common.{◌≡◌, ◌^◌, ◌<◌, None, List, false, refl, ap, ◌∙◌, subst, map, min, inl, inr, arith, rules}
use Rattle.std.specs.List.{AllByRecursion}
use Rattle.core_laws.specs.Maps.{IsApart, below}
use Rattle.core_laws.specs.Cuts.{Retained, retained}
use Rattle.core_laws.specs.Step.{merge_step}
use Rattle.core_laws.specs.Insertion.{after_upserts}
use Rattle.core_laws.specs.Folds.{Fold, Value, fold_key, fold_merges, unmarked, never}
use Rattle.core_operators.specs.Union.{Union, IsJoined, IsMergeRefused, update_refusal}
use Rattle.core_operators.proofs.MergedListing.{at_or_above_zero}
use Rattle.core_laws.proofs.maps.Ascending.{ascending-filter}
use Rattle.core_laws.proofs.maps.MapsOfLists.{each-from_map, apart-distinct}
use Rattle.core_laws.proofs.cuts.WithinWholeMaps.{below-below}
use Rattle.core_laws.proofs.insertions.Cases.{IsRetained-below}
use Rattle.core_operators.proofs.UnionValue.{united}
use Rattle.core_laws.proofs.operators.UnionUpdates.{union-below}
use Rattle.core_operators.proofs.union.UnionState.update.Goals as goal

pub returns-then-self-clause-content : goal.returns-then-self-clause-content
returns-then-self-clause-content g c = rw (← c.self.view_is) (IsRetained-below g.E.SketchEntry.key _ _ _ c.self.invariant.table_sound.kept c.self.invariant.theta_low c.self.invariant.theta_within)

pub returns-then-seed_hash-clause-content : goal.returns-then-seed_hash-clause-content
returns-then-seed_hash-clause-content g c = rw (← c.self.view_is) (IsRetained-below g.E.SketchEntry.key _ _ _ c.self.invariant.table_sound.kept c.self.invariant.theta_low c.self.invariant.theta_within)

pub returns-in-Err-clause-content : goal.returns-in-Err-clause-content
returns-in-Err-clause-content g c = rw (← c.self.view_is) (IsRetained-below g.E.SketchEntry.key _ _ _ c.self.invariant.table_sound.kept c.self.invariant.theta_low c.self.invariant.theta_within)

pub returns-in-Empty-clause-content : goal.returns-in-Empty-clause-content
returns-in-Empty-clause-content g c = rw (← c.self.view_is) (IsRetained-below g.E.SketchEntry.key _ _ _ c.self.invariant.table_sound.kept c.self.invariant.theta_low c.self.invariant.theta_within)

pub returns-in_default-clause-content : goal.returns-in_default-clause-content
returns-in_default-clause-content g c = rw (← c.self.view_is) (IsRetained-below g.E.SketchEntry.key _ _ _ c.self.invariant.table_sound.kept c.self.invariant.theta_low c.self.invariant.theta_within)

pub returns-in-Err-clause-refused : goal.returns-in-Err-clause-refused
returns-in-Err-clause-refused g c =
    let key = g.E.SketchEntry.key in
    let theta = c.self.inside.theta in
    let refuses = g.P.UnionMergePolicy.refuses c.self.inside.policy in
    let listing = g.S.EntrySketch.listing c.args.sketch in
    let none : update_refusal c.args.self.now (g.S.KeySketch.shown c.args.sketch) ≡ None = search rules in
    let nonempty : (g.S.KeySketch.shown c.args.sketch).empty ≡ false = search rules in
    let reported = rw nonempty at c.in-NonEmpty.ensures.metadata in
    let theta_is : c.in-NonEmpty.theta ≡ (g.S.KeySketch.shown c.args.sketch).theta = cc in
    let m_is : c.min-least.result ≡ min theta (g.S.KeySketch.shown c.args.sketch).theta = c.min-least.ensures ∙ ap (λ t. min theta t) theta_is in
    rw (none, ← c.self.view_is) (record {
      nonempty = nonempty;
      why = elim c.in-Err.ensures.refused [
        | inl out ↦ inl out
        | inr policy ↦
            let refused : IsMergeRefused key refuses (below key c.self.inside.table.map.kept.entries c.min-least.result) listing = subst (λ ys. IsMergeRefused key refuses (below key c.self.inside.table.map.kept.entries c.min-least.result) ys) (at_or_above_zero key listing) policy.1 in
            inr (policy.0, rw (← m_is, below-below key c.self.inside.table.map.kept.entries c.min-least.result theta (omega (arith, c.min-least.ensures))) refused)
      ];
      made_with = rw c.in-Err.ensures.made_with refl;
    })

pub returns-in_default-clause-joined : goal.returns-in_default-clause-joined
returns-in_default-clause-joined g c nonempty =
    let key = g.E.SketchEntry.key in
    let merges = g.P.UnionMergePolicy.merges c.self.inside.policy in
    let refuses = g.P.UnionMergePolicy.refuses c.self.inside.policy in
    let listing = g.S.EntrySketch.listing c.args.sketch in
    let k = 2 ^ c.self.inside.table.map.lg_nom in
    let theta = c.self.inside.theta in
    let now = c.merge_entries-merged.new.table.map.kept in
    let keeps = g.met.P.UnionMergePolicy.keeps_hash c.self.inside.policy in
    let listed : map key listing ≡ (g.S.KeySketch.shown c.args.sketch).hashes = c.merge_entries-merged.ensures.listed in
    let nonzero : AllByRecursion (λ x. 0 < key x) listing = each-from_map key (λ h. 0 < h) _ (rw listed c.metadata.ensures.is_sound.nonzero) in
    let made = c.merge_entries-merged.ensures.made_with in
    let folded : List g.row.E.Denot → Retained (Fold g.row.E.Denot) = λ ys. after_upserts (fold_key key) k (merge_step (fold_merges key merges refuses) never) (map Value (below key ys c.min-least.result)) (unmarked c.self.inside.table.map.kept) in
    let after : unmarked now ≡ folded listing = c.in_default.ensures.after ∙ ap folded (at_or_above_zero key listing) in
    let within = union-below key merges refuses keeps k c.min-least.result theta c.self.inside.table.map.kept now listing c.self.invariant.table_sound.kept (omega (arith, c.min-least.ensures)) c.self.invariant.theta_within nonzero after in
    let reported = rw nonempty at c.in-NonEmpty.ensures.metadata in
    let theta_is : c.in-NonEmpty.theta ≡ (g.S.KeySketch.shown c.args.sketch).theta = cc in
    let m_is : c.min-least.result ≡ min theta (g.S.KeySketch.shown c.args.sketch).theta = c.min-least.ensures ∙ ap (λ t. min theta t) theta_is in
    let now_is : c.min-self-inside.result ≡ min c.min-least.result now.theta = c.min-self-inside.ensures ∙ ap (λ t. min c.min-least.result t) c.retention_theta.ensures.theta in
    rw (← c.self.view_is) (record {
      whole = rw (now_is, ← m_is) within;
      made_with = rw made refl;
    })

pub returns-in_default-clause-united : goal.returns-in_default-clause-united
returns-in_default-clause-united g c nonempty =
    let listing = g.S.EntrySketch.listing c.args.sketch in
    let key = g.E.SketchEntry.key in
    let merges = g.P.UnionMergePolicy.merges c.self.inside.policy in
    let refuses = g.P.UnionMergePolicy.refuses c.self.inside.policy in
    let keeps = g.met.P.UnionMergePolicy.keeps_hash c.self.inside.policy in
    let listed : map key listing ≡ (g.S.KeySketch.shown c.args.sketch).hashes = c.merge_entries-merged.ensures.listed in
    let apart : IsApart key listing = apart-distinct key listing (rw listed c.metadata.ensures.is_sound.distinct) in
    let old : Union g.row.E.Denot g.row.P.Denot = record { empty = c.self.inside.empty; failed = c.self.inside.failed; content = retained key c.self.inside.table.map.kept.entries c.self.inside.theta; lg_k = c.self.inside.table.map.lg_nom; start = c.self.inside.table.map.start; seed_hash = c.self.inside.table.map.seed_hash; policy = c.self.inside.policy } in
    let new : Union g.row.E.Denot g.row.P.Denot = record { empty = false; failed = c.self.inside.failed; content = retained key c.merge_entries-merged.new.table.map.kept.entries c.min-self-inside.result; lg_k = c.merge_entries-merged.new.table.map.lg_nom; start = c.merge_entries-merged.new.table.map.start; seed_hash = c.merge_entries-merged.new.table.map.seed_hash; policy = c.self.inside.policy } in
    let join : IsJoined key merges refuses old new (g.S.KeySketch.shown c.args.sketch).theta listing = rw (← c.self.view_is) at (returns-in_default-clause-joined g c nonempty) in
    let ok : c.self.inside.failed ≡ false = c.if-self.false in
    rw (nonempty, ← c.self.view_is) (united key merges refuses keeps old new (g.S.KeySketch.shown c.args.sketch).theta listing c.self.invariant.union ok (ascending-filter key _ c.self.inside.table.map.kept.entries c.self.invariant.table_sound.kept.ascending) apart join)

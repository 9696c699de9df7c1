use Rattle.std.proofs.Common.{◌≡◌, ◌≢◌, ◌||◌, ◌<◌, ◌≤◌, ℕ, ◌^◌, false, List, Some, None, length, set, get_or, sym, ap, ◌∙◌, refl, inl, inr, arith}
use Rattle.std.specs.Prelude.{is_some, ◌⊎◌}
use Rattle.std.proofs.lemmas.Result.{err_from_is_err_and}
use Rattle.core_laws.specs.Maps.{IsAscending, with_entry}
use Rattle.core_laws.specs.Places.{IsAt, IsGapFor}
use Rattle.core_laws.specs.Step.{Step}
use Rattle.core_laws.specs.Cuts.{IsRetained}
use Rattle.core_laws.specs.Insertion.{rebuilt, after_absent}
use Rattle.core_laws.proofs.maps.Insertions.{entry_at_place, entry_at_gap, with_entry_at}
use Rattle.std.proofs.Math.ListN.{length-set}
use Rattle.core_laws.proofs.maps.Ascending.{ascending-with_entry}
use Rattle.core_laws.proofs.insertions.Cases.{IsCase, or_left, or_right, limited-rebuilt, IsRetained-with_entry, IsRetained-rebuilt, screened_case, existing_case, absent_case, is_screened_true, is_screened_false}
use Rattle.theta_tables.proofs.plain_table.PlainTableThetaTable.upsert_entry.Goals as goal
use Rattle.theta_tables.proofs.plain_table.PlainTableThetaTable.upsert_entry.Goals.{then-hash-eq0-via-then-hash-eq0, then-hash-eq0-via-else-hash-eq0+then-hash-self}

-- the case of an insertion into ascending entries, by what the search for its hash found
module _ {X : Type 0} (key : X → ℕ) (k h : ℕ) (step : Step X) (items : List X) (theta : ℕ) where
  screened_by : (h ≡ 0) ⊎ (theta ≤ h) → IsCase key k h step (record { entries = items; theta = theta }) false (record { entries = items; theta = theta }) None false
  screened_by out = screened_case key k h step (record { entries = items; theta = theta }) (is_screened_true h theta out)

  gap_at : (at : ℕ) → IsGapFor key items h at → h ≢ 0 → h < theta → IsCase key k h step (record { entries = items; theta = theta }) (is_some step.makes) (after_absent key k step (record { entries = items; theta = theta })) step.refuses_absent (step.allocates || is_some step.makes)
  gap_at at gap nonzero low = absent_case key k h step (record { entries = items; theta = theta }) (is_screened_false h theta nonzero low) (entry_at_gap key items h at gap)

  module _ (at : ℕ) (x : X) (up : IsAscending key items) (is : IsAt key items h at) (value : x ≡ get_or items at x) where
    found_at : h ≢ 0 → h < theta → IsCase key k h step (record { entries = items; theta = theta }) false (record { entries = with_entry key items (step.writes x); theta = theta }) (step.refuses_existing x) step.allocates
    found_at nonzero low = existing_case key k h step (record { entries = items; theta = theta }) x (is_screened_false h theta nonzero low) (entry_at_place key items h at x up is ∙ ap Some (sym value))

    -- the entry that the step writes there
    written_at : (y : X) → y ≡ step.writes x → ((z : X) → key z ≡ h → key (step.writes z) ≡ h) → (key y ≡ h) × (with_entry key items y ≡ set items at y)
    written_at y written keeps =
        let same : key y ≡ h = ap key written ∙ keeps x (ap key value ∙ is.has_key x) in
        (same, with_entry_at key items h at up is y same)

pub returns-then-hash-eq0-clause-ok : goal.returns-then-hash-eq0-clause-ok
returns-then-hash-eq0-clause-ok g c = rw (← c.self.view_is) (sym (screened_by g.E.SketchEntry.key (2 ^ c.self.inside.lg_nom_size) c.args.hash (g.S.UpsertStep.means c.args.step) c.self.inside.entries.items c.self.inside.theta (elim c.then-hash-eq0.branch [ then-hash-eq0-via-then-hash-eq0 w ↦ inl w.if-hash-eq0.true | then-hash-eq0-via-else-hash-eq0+then-hash-self w ↦ inr w.if-hash-self.true ])).creates_is)

pub returns-then-hash-eq0-clause-after : goal.returns-then-hash-eq0-clause-after
returns-then-hash-eq0-clause-after g c = rw (← c.self.view_is) (rw (screened_by g.E.SketchEntry.key (2 ^ c.self.inside.lg_nom_size) c.args.hash (g.S.UpsertStep.means c.args.step) c.self.inside.entries.items c.self.inside.theta (elim c.then-hash-eq0.branch [ then-hash-eq0-via-then-hash-eq0 w ↦ inl w.if-hash-eq0.true | then-hash-eq0-via-else-hash-eq0+then-hash-self w ↦ inr w.if-hash-self.true ])).after_is refl)

pub returns-then-hash-eq0-clause-refused : goal.returns-then-hash-eq0-clause-refused
returns-then-hash-eq0-clause-refused g c = rw (← c.self.view_is) (screened_by g.E.SketchEntry.key (2 ^ c.self.inside.lg_nom_size) c.args.hash (g.S.UpsertStep.means c.args.step) c.self.inside.entries.items c.self.inside.theta (elim c.then-hash-eq0.branch [ then-hash-eq0-via-then-hash-eq0 w ↦ inl w.if-hash-eq0.true | then-hash-eq0-via-else-hash-eq0+then-hash-self w ↦ inr w.if-hash-self.true ])).refusal_is

pub returns-in_err-existing-in-Ok-clause-refused : goal.returns-in_err-existing-in-Ok-clause-refused
returns-in_err-existing-in-Ok-clause-refused g c =
    let case = found_at g.E.SketchEntry.key (2 ^ c.self.inside.lg_nom_size) c.args.hash (g.S.UpsertStep.means c.args.step) c.self.inside.entries.items c.self.inside.theta c.in-Ok.at c.index_mut.result.now c.self.invariant.table.kept.ascending (rw c.deref.ensures.value at c.in-Ok.ensures.found) c.index_mut.ensures.value c.if-hash-eq0.false c.if-hash-self.false in
    let p = err_from_is_err_and c.from_residual.result c.from_residual.ensures.1 in
    rw (p.1, p.2, ← c.self.view_is, case.refusal_is, case.allocates_is) c.in_err-existing-in-Ok.ensures.refused

pub invariant_of-self-in-Ok : goal.invariant_of-self-in-Ok
invariant_of-self-in-Ok g c =
    let put = written_at g.E.SketchEntry.key (2 ^ c.self.inside.lg_nom_size) c.args.hash (g.S.UpsertStep.means c.args.step) c.self.inside.entries.items c.self.inside.theta c.in-Ok.at c.index_mut.result.now c.self.invariant.table.kept.ascending (rw c.deref.ensures.value at c.in-Ok.ensures.found) c.index_mut.ensures.value c.existing.new.entry c.in_ok-existing-in-Ok.ensures.written c.requires.keeps_hash in
    record {
      of_sketch = c.self.invariant.of_sketch;
      table = record {
        kept = rw (← put.1) (IsRetained-with_entry g.E.SketchEntry.key _ _ _ c.self.invariant.table.kept (omega (arith, put.0, c.if-hash-eq0.false)) (omega (arith, put.0, c.if-hash-self.false)));
        limited = λ large. rw (length-set) (c.self.invariant.table.limited large);
        made = c.self.invariant.table.made;
        without_slots = c.self.invariant.table.without_slots;
      };
    }

pub returns-in_err-absent-in-Err-clause-refused : goal.returns-in_err-absent-in-Err-clause-refused
returns-in_err-absent-in-Err-clause-refused g c =
    let case = gap_at g.E.SketchEntry.key (2 ^ c.self.inside.lg_nom_size) c.args.hash (g.S.UpsertStep.means c.args.step) c.self.inside.entries.items c.self.inside.theta c.in-Err.at (rw c.deref.ensures.value at c.in-Err.ensures.absent) c.if-hash-eq0.false c.if-hash-self.false in
    let p = err_from_is_err_and c.from_residual-in_err-absent-in-Err.result c.from_residual-in_err-absent-in-Err.ensures.1 in
    rw (p.1, p.2, ← c.self.view_is, case.refusal_is, case.allocates_is) (elim c.in_err-absent-in-Err.ensures.refused [ inl a ↦ inl a | inr b ↦ inr (b.0, or_left _ _ b.1) ])

pub returns-in_err-self-inside-in-Some-clause-refused : goal.returns-in_err-self-inside-in-Some-clause-refused
returns-in_err-self-inside-in-Some-clause-refused g c =
    let case = gap_at g.E.SketchEntry.key (2 ^ c.self.inside.lg_nom_size) c.args.hash (g.S.UpsertStep.means c.args.step) c.self.inside.entries.items c.self.inside.theta c.in-Err.at (rw c.deref.ensures.value at c.in-Err.ensures.absent) c.if-hash-eq0.false c.if-hash-self.false in
    let p = err_from_is_err_and c.from_residual-in_err-self-inside-in-Some.result c.from_residual-in_err-self-inside-in-Some.ensures.1 in
    let made = sym c.in_ok-absent-in-Err.ensures.made ∙ c.in-Some.is in
    rw (p.1, p.2, ← c.self.view_is, case.refusal_is, case.allocates_is) (inr (refl, or_right _ _ (ap is_some made)))

pub invariant_of-self-in-Some : goal.invariant_of-self-in-Some
invariant_of-self-in-Some g c =
    let key = g.E.SketchEntry.key in
    let made = sym c.in_ok-absent-in-Err.ensures.made ∙ c.in-Some.is in
    let has_key : key c.in-Some.entry ≡ c.args.hash = c.requires.makes_hash c.in-Some.entry made in
    let put : IsRetained key _ = IsRetained-rebuilt key _ _ _ (IsRetained-with_entry key _ _ c.in-Some.entry c.self.invariant.table.kept (omega (arith, has_key, c.if-hash-eq0.false)) (omega (arith, has_key, c.if-hash-self.false))) in
    record {
      of_sketch = c.self.invariant.of_sketch;
      table = record {
        kept = rw c.in_ok-self-inside-in-Some.ensures.ok put;
        limited = λ large.
            let k : ℕ = c.nominal_size-nominal.result in
            let joined = with_entry key c.self.inside.entries.items c.in-Some.entry in
            let same : length c.put_entry.new.entries.items ≡ length (rebuilt key k joined c.self.inside.theta).entries = ap (λ v. length v.entries) c.in_ok-self-inside-in-Some.ensures.ok in
            omega (arith, same, limited-rebuilt key k joined c.self.inside.theta (ascending-with_entry key c.self.inside.entries.items c.in-Some.entry c.self.invariant.table.kept.ascending) (omega (arith, large, c.nominal_size-nominal.ensures.power)), c.nominal_size-nominal.ensures.power);
        made = c.self.invariant.table.made;
        without_slots = c.self.invariant.table.without_slots;
      };
    }

pub returns-in_ok-existing-in-Ok-clause-ok : goal.returns-in_ok-existing-in-Ok-clause-ok
returns-in_ok-existing-in-Ok-clause-ok g c = rw (← c.self.view_is) (sym (found_at g.E.SketchEntry.key (2 ^ c.self.inside.lg_nom_size) c.args.hash (g.S.UpsertStep.means c.args.step) c.self.inside.entries.items c.self.inside.theta c.in-Ok.at c.index_mut.result.now c.self.invariant.table.kept.ascending (rw c.deref.ensures.value at c.in-Ok.ensures.found) c.index_mut.ensures.value c.if-hash-eq0.false c.if-hash-self.false).creates_is)

pub returns-in_ok-existing-in-Ok-clause-after : goal.returns-in_ok-existing-in-Ok-clause-after
returns-in_ok-existing-in-Ok-clause-after g c = rw (← c.self.view_is, (found_at g.E.SketchEntry.key (2 ^ c.self.inside.lg_nom_size) c.args.hash (g.S.UpsertStep.means c.args.step) c.self.inside.entries.items c.self.inside.theta c.in-Ok.at c.index_mut.result.now c.self.invariant.table.kept.ascending (rw c.deref.ensures.value at c.in-Ok.ensures.found) c.index_mut.ensures.value c.if-hash-eq0.false c.if-hash-self.false).after_is, ← c.in_ok-existing-in-Ok.ensures.written, (written_at g.E.SketchEntry.key (2 ^ c.self.inside.lg_nom_size) c.args.hash (g.S.UpsertStep.means c.args.step) c.self.inside.entries.items c.self.inside.theta c.in-Ok.at c.index_mut.result.now c.self.invariant.table.kept.ascending (rw c.deref.ensures.value at c.in-Ok.ensures.found) c.index_mut.ensures.value c.existing.new.entry c.in_ok-existing-in-Ok.ensures.written c.requires.keeps_hash).1) refl

pub returns-in_ok-existing-in-Ok-clause-refused : goal.returns-in_ok-existing-in-Ok-clause-refused
returns-in_ok-existing-in-Ok-clause-refused g c = rw (← c.self.view_is) ((found_at g.E.SketchEntry.key (2 ^ c.self.inside.lg_nom_size) c.args.hash (g.S.UpsertStep.means c.args.step) c.self.inside.entries.items c.self.inside.theta c.in-Ok.at c.index_mut.result.now c.self.invariant.table.kept.ascending (rw c.deref.ensures.value at c.in-Ok.ensures.found) c.index_mut.ensures.value c.if-hash-eq0.false c.if-hash-self.false).refusal_is ∙ c.in_ok-existing-in-Ok.ensures.refused)

pub returns-in-None-clause-ok : goal.returns-in-None-clause-ok
returns-in-None-clause-ok g c = rw (← c.self.view_is) (sym ((gap_at g.E.SketchEntry.key (2 ^ c.self.inside.lg_nom_size) c.args.hash (g.S.UpsertStep.means c.args.step) c.self.inside.entries.items c.self.inside.theta c.in-Err.at (rw c.deref.ensures.value at c.in-Err.ensures.absent) c.if-hash-eq0.false c.if-hash-self.false).creates_is ∙ ap is_some (sym c.in_ok-absent-in-Err.ensures.made ∙ c.in-None.is)))

pub returns-in-None-clause-after : goal.returns-in-None-clause-after
returns-in-None-clause-after g c = rw (← c.self.view_is, (gap_at g.E.SketchEntry.key (2 ^ c.self.inside.lg_nom_size) c.args.hash (g.S.UpsertStep.means c.args.step) c.self.inside.entries.items c.self.inside.theta c.in-Err.at (rw c.deref.ensures.value at c.in-Err.ensures.absent) c.if-hash-eq0.false c.if-hash-self.false).after_is, sym c.in_ok-absent-in-Err.ensures.made ∙ c.in-None.is) refl

pub returns-in-None-clause-refused : goal.returns-in-None-clause-refused
returns-in-None-clause-refused g c = rw (← c.self.view_is) ((gap_at g.E.SketchEntry.key (2 ^ c.self.inside.lg_nom_size) c.args.hash (g.S.UpsertStep.means c.args.step) c.self.inside.entries.items c.self.inside.theta c.in-Err.at (rw c.deref.ensures.value at c.in-Err.ensures.absent) c.if-hash-eq0.false c.if-hash-self.false).refusal_is ∙ c.in_ok-absent-in-Err.ensures.refused)

pub returns-in_ok-self-inside-in-Some-clause-ok : goal.returns-in_ok-self-inside-in-Some-clause-ok
returns-in_ok-self-inside-in-Some-clause-ok g c = rw (← c.self.view_is) (sym ((gap_at g.E.SketchEntry.key (2 ^ c.self.inside.lg_nom_size) c.args.hash (g.S.UpsertStep.means c.args.step) c.self.inside.entries.items c.self.inside.theta c.in-Err.at (rw c.deref.ensures.value at c.in-Err.ensures.absent) c.if-hash-eq0.false c.if-hash-self.false).creates_is ∙ ap is_some (sym c.in_ok-absent-in-Err.ensures.made ∙ c.in-Some.is)))

pub returns-in_ok-self-inside-in-Some-clause-after : goal.returns-in_ok-self-inside-in-Some-clause-after
returns-in_ok-self-inside-in-Some-clause-after g c = rw (← c.self.view_is, (gap_at g.E.SketchEntry.key (2 ^ c.self.inside.lg_nom_size) c.args.hash (g.S.UpsertStep.means c.args.step) c.self.inside.entries.items c.self.inside.theta c.in-Err.at (rw c.deref.ensures.value at c.in-Err.ensures.absent) c.if-hash-eq0.false c.if-hash-self.false).after_is, sym c.in_ok-absent-in-Err.ensures.made ∙ c.in-Some.is, ← c.nominal_size-nominal.ensures.power, ← c.in_ok-self-inside-in-Some.ensures.ok) refl

pub returns-in_ok-self-inside-in-Some-clause-refused : goal.returns-in_ok-self-inside-in-Some-clause-refused
returns-in_ok-self-inside-in-Some-clause-refused g c = rw (← c.self.view_is) ((gap_at g.E.SketchEntry.key (2 ^ c.self.inside.lg_nom_size) c.args.hash (g.S.UpsertStep.means c.args.step) c.self.inside.entries.items c.self.inside.theta c.in-Err.at (rw c.deref.ensures.value at c.in-Err.ensures.absent) c.if-hash-eq0.false c.if-hash-self.false).refusal_is ∙ c.in_ok-absent-in-Err.ensures.refused)

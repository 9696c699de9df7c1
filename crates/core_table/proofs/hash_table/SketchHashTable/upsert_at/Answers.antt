use Rattle.std.proofs.Common.{◌≡◌, ◌++◌, length, map, take, drop, sym, ap, ◌∙◌, refl, inl, inr, rules}
use Rattle.std.specs.Prelude.{is_some}
use Rattle.std.proofs.lemmas.List.{places}
use Rattle.std.proofs.lemmas.Result.{err_from_is_err_and}
use Rattle.core_laws.proofs.insertions.Cases.{or_left, or_right}
use Rattle.core_table.proofs.Upserts.{IsAtEntry, IsAtFree, IsOverwritten, IsPut, at_entry, at_free}
use Rattle.core_table.proofs.hash_table.SketchHashTable.upsert_at.Given.{Over}
use Rattle.core_table.proofs.hash_table.SketchHashTable.upsert_at.Goals as goal
use Rattle.core_table.proofs.hash_table.SketchHashTable.upsert_at.Goals.{Then-not-place, Else-not-place}

-- the search ended at an entry
found : (g : Over) (c : goal.Then-not-place g) → IsAtEntry g.E.SketchEntry.key c.self.view_is c.self.inside.threshold c.self.inside.count c.args.hash c.args.place.at (g.S.UpsertStep.means c.args.step)
found g c = at_entry _ _ _ c.self.view_is _ _ _ _ _ _ c.self.invariant refl c.requires.room c.requires.passes c.requires.inside c.requires.on_path c.requires.ends c.requires.is_free c.requires.keeps_hash c.if-not-place.true

-- it ended at a free slot
absent : (g : Over) (c : goal.Else-not-place g) → IsAtFree g.E.SketchEntry.key c.self.view_is c.self.inside.threshold c.self.inside.count c.args.hash c.args.place.at (g.S.UpsertStep.means c.args.step)
absent g c = at_free _ _ _ c.self.view_is _ _ _ _ _ _ c.self.invariant refl c.requires.room c.requires.passes c.requires.inside c.requires.on_path c.requires.ends c.requires.is_free c.requires.makes_hash c.if-not-place.false

-- ---- the entry is written
pub returns-in_err-write_at-clause-inserts : goal.returns-in_err-write_at-clause-inserts
returns-in_err-write_at-clause-inserts g c =
    let it = found g (goal.at.returns-in_err-write_at-clause-inserts g c).Then-not-place in
    let p = err_from_is_err_and c.from_residual.result c.from_residual.ensures.1 in
    let refused = (rw c.deref_mut.ensures.value at c.in_err-write_at.ensures.refused) it.entry it.content in
    record {
      ok = search (rules);
      after = search (rules);
      err = search (rules, places);
      refused = rw (p.1, p.2, it.case.refusal_is, it.case.allocates_is) refused;
      memory = rw (p.1, p.2, it.case.refusal_is, c.requires.passes) (λ _. refused);
    }

written : (g : Over) (c : goal.In_ok-write_at g)
    → IsOverwritten g.E.SketchEntry.key c.self.view_is c.self.inside.threshold c.self.inside.count c.args.hash (g.S.UpsertStep.means c.args.step) (map g.E.PathEntry.content (take c.self.inside.slots.len (c.write_at.new.slots ++ drop (length c.write_at.new.slots) c.self.inside.slots.items)))
written g c =
    let it = found g (goal.at.invariant_of-self-then-not-place g c).Then-not-place in
    let whole : take c.self.inside.slots.len (c.write_at.new.slots ++ drop (length c.write_at.new.slots) c.self.inside.slots.items) ≡ c.write_at.new.slots = search (rules, places) in
    it.written _ (ap (map g.E.PathEntry.content) whole ∙ (rw c.deref_mut.ensures.value at c.in_ok-write_at.ensures.ok) it.entry it.content)

pub invariant_of-self-then-not-place : goal.invariant_of-self-then-not-place
invariant_of-self-then-not-place g c = (written g c).probing

pub returns-then-not-place-clause-inserts : goal.returns-then-not-place-clause-inserts
returns-then-not-place-clause-inserts g c =
    let it = found g (goal.at.returns-then-not-place-clause-inserts g c).Then-not-place in
    let refused = it.case.refusal_is ∙ (rw c.deref_mut.ensures.value at c.in_ok-write_at.ensures.refused) it.entry it.content in
    record {
      ok = sym it.case.creates_is;
      after = (written g c).after;
      err = tt;
      refused = refused;
      memory = λ _. refused;
    }

-- ---- the step makes no entry
pub returns-in_err-absent-clause-inserts : goal.returns-in_err-absent-clause-inserts
returns-in_err-absent-clause-inserts g c =
    let it = absent g (goal.at.returns-in_err-absent-clause-inserts g c).Else-not-place in
    let p = err_from_is_err_and c.from_residual-in_err-absent.result c.from_residual-in_err-absent.ensures.1 in
    record {
      ok = search (rules);
      after = search (rules);
      err = search (rules);
      refused = rw (p.1, p.2, it.case.refusal_is, it.case.allocates_is) (elim c.in_err-absent.ensures.refused [ inl a ↦ inl a | inr b ↦ inr (b.0, or_left _ _ b.1) ]);
      memory = rw (p.1, p.2, it.case.refusal_is, c.requires.passes) (λ _. c.in_err-absent.ensures.refused);
    }

pub returns-in-None-clause-inserts : goal.returns-in-None-clause-inserts
returns-in-None-clause-inserts g c =
    let it = absent g (goal.at.returns-in-None-clause-inserts g c).Else-not-place in
    let made = sym c.in_ok-absent.ensures.made ∙ c.in-None.is in
    let refused = it.case.refusal_is ∙ c.in_ok-absent.ensures.refused in
    record {
      ok = sym (it.case.creates_is ∙ ap is_some made);
      after = rw (it.case.after_is, made) refl;
      err = tt;
      refused = refused;
      memory = λ _. refused;
    }

-- ---- it makes one, which is put
pub put_entry-requires-clause-room : goal.put_entry-requires-clause-room
put_entry-requires-clause-room g c = (absent g (goal.at.put_entry-requires-clause-room g c).Else-not-place).fits

pub returns-in_err-settled-in-Some-clause-inserts : goal.returns-in_err-settled-in-Some-clause-inserts
returns-in_err-settled-in-Some-clause-inserts g c =
    let it = absent g (goal.at.returns-in_err-settled-in-Some-clause-inserts g c).Else-not-place in
    let p = err_from_is_err_and c.from_residual-in_err-settled-in-Some.result c.from_residual-in_err-settled-in-Some.ensures.1 in
    record {
      ok = search (rules);
      after = search (rules);
      err = search (rules);
      refused = rw (p.1, p.2, it.case.refusal_is, it.case.allocates_is) (inr (refl, or_right _ _ (ap is_some (sym c.in_ok-absent.ensures.made ∙ c.in-Some.is))));
      memory = λ low. let ok = c.in_err-settled-in-Some.ensures.room (it.limited low) in absurd (cc);
    }

put : (g : Over) (c : goal.After-self-in-Some-4-1 g)
    → IsPut g.E.SketchEntry.key c.self.view_is c.args.hash (g.S.UpsertStep.means c.args.step) c.in_ok-settled-in-Some.settled (map g.E.PathEntry.content c.put_entry.new.slots.items) c.put_entry.new.counts
put g c =
    let it = absent g (goal.at.invariant_of-self-in-Some g c).Else-not-place in
    let is = rw c.lg_value.ensures at c.in_ok-settled-in-Some.ensures.puts in
    it.put c.in-Some.entry (sym c.in_ok-absent.ensures.made ∙ c.in-Some.is) _ _ _ is.laid_out is.counted is.sized is.size is.most is.count is.after is.ticked

pub invariant_of-self-in-Some : goal.invariant_of-self-in-Some
invariant_of-self-in-Some g c = (put g c).probing

pub returns-in_ok-settled-in-Some-clause-inserts : goal.returns-in_ok-settled-in-Some-clause-inserts
returns-in_ok-settled-in-Some-clause-inserts g c =
    let it = absent g (goal.at.returns-in_ok-settled-in-Some-clause-inserts g c).Else-not-place in
    let refused = it.case.refusal_is ∙ c.in_ok-absent.ensures.refused in
    record {
      ok = (put g c).ok;
      after = (put g c).after;
      err = tt;
      refused = refused;
      memory = λ _. refused;
    }

pub returns-in_ok-settled-in-Some-clause-ticked : goal.returns-in_ok-settled-in-Some-clause-ticked
returns-in_ok-settled-in-Some-clause-ticked g c = (put g c).ticked

pub returns-in_ok-settled-in-Some-clause-sized : goal.returns-in_ok-settled-in-Some-clause-sized
returns-in_ok-settled-in-Some-clause-sized g c = (put g c).sized

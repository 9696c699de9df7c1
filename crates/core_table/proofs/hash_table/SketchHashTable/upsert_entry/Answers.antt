use Rattle.std.proofs.Common.{◌^◌, false, None, sym, refl, inl, inr, rules, arith}
use Rattle.core_laws.proofs.insertions.Cases.{IsCase, screened_case, is_screened_true}
use Rattle.core_table.proofs.Slotted.{slotted_count}
use Rattle.core_table.proofs.hash_table.SketchHashTable.upsert_entry.Given.{Over}
use Rattle.core_table.proofs.hash_table.SketchHashTable.upsert_entry.Goals as goal

-- the hash is screened
screened : (g : Over) (c : goal.After-drop-step g) → IsCase g.E.SketchEntry.key (2 ^ c.args.self.now.map.lg_nom) c.args.hash (g.S.UpsertStep.means c.args.step) c.args.self.now.map.kept false c.args.self.now.map.kept None false
screened g c = rw (← c.self.view_is) (screened_case _ _ _ _ _ (is_screened_true _ _ (elim c.then-hash-self.either [ inl high ↦ inr high | inr zero ↦ inl zero.1 ])))

pub returns-then-hash-self-clause-inserts : goal.returns-then-hash-self-clause-inserts
returns-then-hash-self-clause-inserts g c = record {
  ok = sym (screened g c).creates_is;
  after = rw (screened g c).after_is refl;
  err = tt;
  refused = (screened g c).refusal_is;
  memory = λ _. (screened g c).refusal_is;
}

pub returns-then-hash-self-clause-works : goal.returns-then-hash-self-clause-works
returns-then-hash-self-clause-works g c = record {
  ticked = refl;
  unticked = tt;
  sized = refl;
  grows = refl;
  looks = omega arith;
  looked = search (rules);
  looks_kept = omega arith;
  screened = λ _. refl;
  layout_err = tt;
}

pub returns-clause-works : goal.returns-clause-works
returns-clause-works g c =
    let many = slotted_count _ _ _ _ _ _ c.self.invariant.slotted in
    record {
      ticked = search (rules);
      unticked = search (rules);
      sized = search (rules);
      grows = search (rules);
      looks = rw (← c.self.view_is) (omega (arith, rw c.deref.ensures.value at c.seek-place.ensures.looks, many, c.self.invariant.slotted.counted, c.upsert_at.ensures.looks));
      looked = search (rules);
      looks_kept = search (rules);
      screened = search (rules);
      layout_err = search (rules);
    }

use Rattle.std.proofs.Common.{◌^◌, false, None, refl, inl, inr}
use Rattle.core_laws.proofs.insertions.Cases.{IsCase, screened_case, is_screened_true}
use Rattle.core_table.proofs.hash_table.SketchHashTable.upsert_near.Given.{Over}
use Rattle.core_table.proofs.hash_table.SketchHashTable.upsert_near.Goals as goal

-- the hash is screened
screened : (g : Over) (c : goal.After-drop-step g) → IsCase g.E.SketchEntry.key (2 ^ c.args.self.now.map.lg_nom) c.args.hash (g.S.UpsertStep.means c.args.step) c.args.self.now.map.kept false c.args.self.now.map.kept None false
screened g c = rw (← c.self.view_is) (screened_case _ _ _ _ _ (is_screened_true _ _ (elim c.then-self-hash.either [ inl high ↦ inr high | inr zero ↦ inl zero.1 ])))

pub returns-then-self-hash-clause-after : goal.returns-then-self-hash-clause-after
returns-then-self-hash-clause-after g c = rw (screened g c).after_is refl

pub returns-then-self-hash-clause-allowed : goal.returns-then-self-hash-clause-allowed
returns-then-self-hash-clause-allowed g c = λ _. (screened g c).refusal_is

use Rattle.std.proofs.Common.{◌<◌, ◌≤◌, ◌+◌, map, length, sym, ap, inl, inr, ◌∙◌, refl, rules, arith}
use Rattle.std.proofs.lemmas.Bool.{cases_lt}
use Rattle.core_table.specs.HashTable.{threshold}
use Rattle.core_table.proofs.Counting.{few_ticked}
use Rattle.core_slots.proofs.Held.{map-set, length-content}
use Rattle.core_slots.proofs.SlotLayouts.{laid_out_new, filled_new}
use Rattle.core_table.proofs.Tables.{one_more, threshold_most, joins, not_rebuilt}
use Rattle.core_table.proofs.insertion.put_entry.Goals as goal

pub returns-then-more-sizes-clause-puts : goal.returns-then-more-sizes-clause-puts
returns-then-more-sizes-clause-puts g c =
    let key = g.E.SketchEntry.key in
    let content = g.E.PathEntry.content in
    let slots = map content c.args.slots.now.items in
    let s = c.args.sizes in
    let inside : c.args.at < length slots = omega (arith, c.requires.inside, length-content content c.args.slots.now.items) in
    let limited : c.args.sizes.count + 1 ≤ threshold c.args.sizes.lg_cur c.args.sizes.lg_nom = omega (arith, c.if-more-sizes.true, c.requires.place.bounded) in
    let few = few_ticked s.lg_cur s.lg_nom s.grow s.count c.args.counts.now limited in
    let is_set = map-set content c.args.slots.now.items c.args.at c.into_slot.result in
    record {
      laid_out = rw (is_set, c.into_slot.ensures)
          (laid_out_new key s.lg_cur slots c.args.at c.args.entry c.requires.place.free_slot.laid_out inside c.requires.place.free_slot.free c.requires.place.free_slot.on_path);
      counted = rw (is_set, c.into_slot.ensures)
          (omega (arith, c.requires.place.counted, filled_new slots c.args.at c.args.entry inside c.requires.place.free_slot.free));
      after = rw (is_set, c.into_slot.ensures)
          (ap (λ ys. record { entries = ys; theta = c.args.sizes.theta }) (joins key s.lg_cur c.args.at c.args.entry slots c.requires.place.free_slot.laid_out inside c.requires.place.free_slot.free c.requires.place.free_slot.on_path)
          ∙ sym (not_rebuilt key s.lg_cur c.args.at c.args.entry slots c.requires.place.free_slot.laid_out inside c.requires.place.free_slot.free c.requires.place.free_slot.on_path s.lg_nom s.theta
          (elim (cases_lt s.lg_nom 3) [
            | inl lt ↦ inl lt
            | inr ge ↦ inr (omega (arith, limited, c.requires.place.counted, threshold_most s.lg_cur s.lg_nom s.grow s.count c.requires.place.sized ge))
          ])));
      sized = one_more s.lg_cur s.lg_nom s.grow s.count c.requires.place.sized limited c.requires.room;
      size = sym few.size;
      most = c.requires.place.bounded;
      count = sym few.retained;
      err = tt;
      looks = search (rules);
      looked = search (rules);
      ticked = rw (few.counts, c.tick.ensures, c.tick-then-more-sizes.ensures) refl;
      unticked = tt;
    }

pub returns-in_err-settled-clause-room : goal.returns-in_err-settled-clause-room
returns-in_err-settled-clause-room g c = λ low. absurd (omega (arith, low, c.if-more-sizes.false, c.requires.place.bounded))

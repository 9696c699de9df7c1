use Rattle.std.proofs.Common.{◌<◌, ℕ, map, length, sym, ap, inr, ◌∙◌, refl, arith}
use Rattle.core_laws.specs.Maps.{map_of, with_entry}
use Rattle.core_slots.specs.SlotLayout.{filled}
use Rattle.core_table.proofs.Counting.{grown_ticked, rebuilt_ticked}
use Rattle.core_slots.proofs.Held.{length-content}
use Rattle.core_slots.proofs.SlotLayouts.{length-map_of}
use Rattle.core_table.proofs.Tables.{grown, full, joined_count, not_rebuilt}
use Rattle.core_table.proofs.insertion.overflow.Goals as goal

pub rebuild-requires-clause-full : goal.rebuild-requires-clause-full
rebuild-requires-clause-full g c =
    let s = c.args.sizes in
    (full s.lg_cur s.lg_nom s.grow s.count c.requires.place.sized (omega (arith, c.if-full.false)) c.requires.full c.requires.room).many

pub rebuild-requires-clause-large : goal.rebuild-requires-clause-large
rebuild-requires-clause-large g c =
    let s = c.args.sizes in
    (full s.lg_cur s.lg_nom s.grow s.count c.requires.place.sized (omega (arith, c.if-full.false)) c.requires.full c.requires.room).large

pub returns-then-full : goal.returns-then-full
returns-then-full g c =
    let key = g.E.SketchEntry.key in
    let content = g.E.PathEntry.content in
    let slots = map content c.args.slots.now.items in
    let after = map content c.grow.new.slots.items in
    let s = c.args.sizes in
    let inside : c.args.at < length slots = omega (arith, c.requires.inside, length-content content c.args.slots.now.items) in
    let one = c.in_ok-wider.ensures in
    let wide = grown s.lg_cur _ s.lg_nom s.grow s.count c.requires.place.sized c.if-full.true refl in
    let counts = grown_ticked s.lg_cur s.lg_nom s.grow s.count c.args.counts.now c.requires.full c.if-full.true in
    record {
      puts = record {
        laid_out = one.laid_out;
        counted = ap (λ z. z.count) one.same ∙ omega (arith, c.requires.place.counted, joined_count key s.lg_cur c.args.at c.args.entry slots c.requires.place.free_slot.laid_out inside c.requires.place.free_slot.free c.requires.place.free_slot.on_path, ap length one.after, length-map_of key c.in_ok-wider.wider.lg_cur after one.laid_out);
        after =
            ap (λ ys. record { entries = ys; theta = c.in_ok-wider.wider.theta }) one.after
            ∙ ap (λ (t : ℕ). record { entries = with_entry key (map_of key (filled slots)) c.args.entry; theta = t }) (ap (λ z. z.theta) one.same)
            ∙ sym (not_rebuilt key s.lg_cur c.args.at c.args.entry slots c.requires.place.free_slot.laid_out inside c.requires.place.free_slot.free c.requires.place.free_slot.on_path s.lg_nom s.theta (inr (omega (arith, c.requires.place.counted, wide.limited))));
        sized = rw one.same wide.size;
        size = ap (λ z. z.lg_cur) one.same ∙ sym counts.size;
        most = rw one.same refl;
        count = ap (λ z. z.count) one.same ∙ sym counts.retained;
        err = tt;
        looks = one.looks;
        looked = one.looked;
        ticked = rw counts.counts one.ticked;
        unticked = tt;
      };
    }

pub returns : goal.returns
returns g c =
    let s = c.args.sizes in
    let one = c.in_ok-cut.ensures in
    let counts = rebuilt_ticked s.lg_cur s.lg_nom s.grow s.count c.args.counts.now c.requires.full (omega (arith, c.if-full.false)) in
    record {
      puts = record {
        laid_out = rw one.same one.laid_out;
        counted = ap (λ z. z.count) one.same ∙ sym one.count;
        after = one.after;
        sized = rw one.same (full s.lg_cur s.lg_nom s.grow s.count c.requires.place.sized (omega (arith, c.if-full.false)) c.requires.full c.requires.room).size;
        size = ap (λ z. z.lg_cur) one.same ∙ sym counts.size;
        most = rw one.same c.requires.place.bounded;
        count = ap (λ z. z.count) one.same ∙ sym counts.retained;
        err = tt;
        looks = one.looks;
        looked = one.looked;
        ticked = rw counts.counts one.ticked;
        unticked = tt;
      };
    }

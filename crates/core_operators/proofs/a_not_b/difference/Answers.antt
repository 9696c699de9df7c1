use Rattle.std.proofs.Common.{◌≡◌, ◌<◌, true, false, ◌||◌, [], length, sym, ◌∙◌, arith, rules}
use Rattle.std.specs.Prelude.{◌&&◌, ◌==◌}
use Rattle.core_laws.specs.declared.TheConstants.{MAX_THETA}
use Rattle.core_laws.proofs.maps.MapsOfLists.{each-from_map}
use Rattle.core_laws.specs.Maps.{map_of}
use Rattle.core_operators.proofs.DifferenceEntries.{kept_of, kept_all, shown_kept, kept_below, answer_kept_sorted, answer_nothing_sorted, answer_all}
use Rattle.core_operators.proofs.Metadata.{reported_empty, reported_nonempty}
use Rattle.core_operators.proofs.a_not_b.difference.Goals as goal
use Rattle.core_operators.proofs.a_not_b.difference.Goals.{then-requested, else-requested}

pub state_of-requires : goal.state_of-requires
state_of-requires g c =
    let key = g.S.Entry.SketchEntry.key in
    let a = g.S.KeySketch.shown c.args.a in
    let items = c.entries-items.ensures in
    let all = c.in_ok-kept-in-Empty.ensures.all ∙ items.all ∙ sym (kept_all key (g.S.EntrySketch.listing c.args.a) c.args.a_theta (each-from_map key (λ h. h < c.args.a_theta) _ (rw (items.hashes, ← c.requires.of_theta) c.requires.sound.below_theta))) in
    rw (all, ← c.requires.in_order) (shown_kept key a (g.S.EntrySketch.listing c.args.a) [] c.args.a_theta c.args.seed_hash c.requires.sound items.hashes (omega (arith, c.requires.of_theta, c.requires.sound.theta_low)) (omega (arith, c.requires.of_theta)))

pub returns-in_ok-kept-in-Empty-clause-ok : goal.returns-in_ok-kept-in-Empty-clause-ok
returns-in_ok-kept-in-Empty-clause-ok g c =
    let key = g.S.Entry.SketchEntry.key in
    let a = g.S.KeySketch.shown c.args.a in
    let b = g.T.KeySketch.shown c.args.b in
    let items = c.entries-items.ensures in
    let all = c.in_ok-kept-in-Empty.ensures.all ∙ items.all ∙ sym (kept_all key (g.S.EntrySketch.listing c.args.a) c.args.a_theta (each-from_map key (λ h. h < c.args.a_theta) _ (rw (items.hashes, ← c.requires.of_theta) c.requires.sound.below_theta))) in
    let empty : b.empty ≡ true = reported_empty b _ c.in-Empty.ensures.metadata in
    rw (c.requires.of_seed, c.requires.in_order) (answer_all key a b (g.S.EntrySketch.listing c.args.a) b.hashes c.args.seed_hash (c.args.requested || c.args.a_ordered) c.state_of.result c.requires.nonempty empty c.requires.sound items.hashes (rw (c.requires.of_theta, ← all) c.state_of.ensures))

pub state_of-requires-in-NonEmpty : goal.state_of-requires-in-NonEmpty
state_of-requires-in-NonEmpty g c =
    let reported = reported_nonempty (g.T.KeySketch.shown c.args.b) _ c.in-NonEmpty.b_theta _ _ c.in-NonEmpty.ensures.metadata in
    let kept = c.in_ok-kept-in-NonEmpty.ensures in
    let below = kept_below g.S.Entry.SketchEntry.key (g.S.KeySketch.shown c.args.a) (g.T.KeySketch.shown c.args.b) (g.S.EntrySketch.listing c.args.a) c.min-theta.result c.args.a_theta c.in-NonEmpty.b_theta c.args.seed_hash c.requires.sound c.metadata.ensures.is_sound c.kept_entries.ensures.listed c.min-theta.ensures c.requires.of_theta reported.theta_is in
    rw kept.ok (below.shown c.if-requested.state_of)

pub returns-then-is_empty_result-clause-ok : goal.returns-then-is_empty_result-clause-ok
returns-then-is_empty_result-clause-ok g c =
    let key = g.S.Entry.SketchEntry.key in
    let a = g.S.KeySketch.shown c.args.a in
    let b = g.T.KeySketch.shown c.args.b in
    let reported = reported_nonempty b _ c.in-NonEmpty.b_theta _ _ c.in-NonEmpty.ensures.metadata in
    let kept = c.in_ok-kept-in-NonEmpty.ensures in
    let listing = g.S.EntrySketch.listing c.args.a in
    let below = kept_below key a b listing c.min-theta.result c.args.a_theta c.in-NonEmpty.b_theta c.args.seed_hash c.requires.sound c.metadata.ensures.is_sound c.kept_entries.ensures.listed c.min-theta.ensures c.requires.of_theta reported.theta_is in
    let count : c.len.result ≡ length c.in_ok-kept-in-NonEmpty.kept.items = search rules in
    let nothing : (length (kept_of key (map_of key listing) b.hashes c.min-theta.result) == 0 && c.min-theta.result == MAX_THETA) ≡ true = rw (← kept.ok, ← count) (sym c.is_empty_result.ensures ∙ c.if-is_empty_result.true) in
    rw (c.empty.ensures, c.requires.of_seed) (answer_nothing_sorted key a b listing b.hashes c.min-theta.result c.args.seed_hash _ c.requires.nonempty reported.nonempty below.theta_is below.apart nothing)

pub returns-after-requested-clause-ok : goal.returns-after-requested-clause-ok
returns-after-requested-clause-ok g c =
    let b = g.T.KeySketch.shown c.args.b in
    let reported = reported_nonempty b _ c.in-NonEmpty.b_theta _ _ c.in-NonEmpty.ensures.metadata in
    let kept = c.in_ok-kept-in-NonEmpty.ensures in
    let key = g.S.Entry.SketchEntry.key in
    let a = g.S.KeySketch.shown c.args.a in
    let listing = g.S.EntrySketch.listing c.args.a in
    let below = kept_below key a b listing c.min-theta.result c.args.a_theta c.in-NonEmpty.b_theta c.args.seed_hash c.requires.sound c.metadata.ensures.is_sound c.kept_entries.ensures.listed c.min-theta.ensures c.requires.of_theta reported.theta_is in
    let count : c.len.result ≡ length c.in_ok-kept-in-NonEmpty.kept.items = search rules in
    let some : (length (kept_of key (map_of key listing) b.hashes c.min-theta.result) == 0 && c.min-theta.result == MAX_THETA) ≡ false = rw (← kept.ok, ← count) (sym c.is_empty_result.ensures ∙ c.if-is_empty_result.false) in
    let requested : c.if-requested.state_of ≡ (c.args.requested || c.args.a_ordered) = elim c.if-requested.branch [ then-requested w ↦ rw w.if-requested.true (w.state_of-is ∙ w.if-requested.true) | else-requested w ↦ rw w.if-requested.false w.state_of-is ] in
    rw (c.requires.of_seed, c.requires.in_order) (answer_kept_sorted key a b listing b.hashes c.min-theta.result c.args.seed_hash (c.args.requested || c.args.a_ordered) c.state_of-in-NonEmpty.result c.requires.nonempty reported.nonempty below.theta_is below.apart some (rw (← kept.ok, ← requested) c.state_of-in-NonEmpty.ensures))

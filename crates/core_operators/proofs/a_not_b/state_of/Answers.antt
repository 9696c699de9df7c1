use Rattle.std.proofs.Common.{◌≡◌, ◌||◌, inl, inr, length, refl, rules}
use Rattle.core_operators.proofs.DifferenceEntries.{apart_shown, shown_known, shown_sorted, compact_known, compact_sorted}
use Rattle.core_operators.proofs.a_not_b.state_of.Goals as goal

pub sorted_by_hash-requires : goal.sorted_by_hash-requires
sorted_by_hash-requires g c = apart_shown g.E.SketchEntry.key c.args.theta c.args.seed_hash c.args.entries.items _ c.requires

pub non_empty-requires : goal.non_empty-requires
non_empty-requires g c = rw c.sorted_by_hash.ensures (shown_sorted g.E.SketchEntry.key c.args.theta c.args.seed_hash c.args.entries.items _ c.requires)

pub returns-then-not-ascending : goal.returns-then-not-ascending
returns-then-not-ascending g c =
    rw (c.non_empty.ensures, c.sorted_by_hash.ensures, c.if-requested.true) (compact_sorted g.E.SketchEntry.key c.args.theta c.args.seed_hash c.args.entries.items _ c.requires)

pub non_empty-requires-2 : goal.non_empty-requires-2
non_empty-requires-2 g c =
    let count : c.len.result ≡ length c.args.entries.items = search rules in
    rw (c.is_answer_ordered-ordered.ensures, count) (shown_known g.E.SketchEntry.key c.args.theta c.args.seed_hash c.args.entries.items c.args.ascending c.requires)

pub returns : goal.returns
returns g c =
    let requested : (c.args.requested || c.args.ascending) ≡ c.args.ascending = elim c.else-requested.either [ inl both ↦ rw (both.0, both.1) refl | inr not ↦ rw not refl ] in
    let count : c.len.result ≡ length c.args.entries.items = search rules in
    rw (c.non_empty-2.ensures, c.is_answer_ordered-ordered.ensures, count, requested) (compact_known g.E.SketchEntry.key c.args.theta c.args.seed_hash c.args.entries.items c.args.ascending c.requires)

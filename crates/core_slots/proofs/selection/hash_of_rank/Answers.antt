use Rattle.std.proofs.Common.{ℕ, ◌≡◌, ◌-◌, ◌∷◌, ◌++◌, [], List, length, map, sym, ap, arith}
use Rattle.core_slots.specs.SlotLayout.{filled}
use Rattle.core_slots.specs.Rank.{HasRank, within}
use Rattle.core_slots.proofs.Windows.{IsWindow, apart_within, rank_in_window}
use Rattle.core_slots.proofs.selection.hash_of_rank.Goals as goal

pub nth_hash-requires-clause-apart : goal.nth_hash-requires-clause-apart
nth_hash-requires-clause-apart g c =
    let all : List ℕ = filled (c.args.also ∷ []) ++ map g.E.SketchEntry.key (filled (map g.E.PathEntry.content c.args.slots.now)) in
    rw c.in_ok-below.ensures.gathered (apart_within c.expected_bounds-low.result.0 c.expected_bounds-low.result.1 all c.requires.apart)

pub returns-then-rank-below : goal.returns-then-rank-below
returns-then-rank-below g c =
    let all : List ℕ = filled (c.args.also ∷ []) ++ map g.E.SketchEntry.key (filled (map g.E.PathEntry.content c.args.slots.now)) in
    let low : ℕ = c.expected_bounds-low.result.0 in
    let high : ℕ = c.expected_bounds-low.result.1 in
    let gathered : c.gather_window.new.hashes.items ≡ within low high all = c.in_ok-below.ensures.gathered in
    let window : IsWindow all low high c.in_ok-below.below c.args.rank = record {
      counted = sym c.in_ok-below.ensures.below;
      from = c.if-below-rank.true;
      to = omega (arith, c.if-rank-below.true, c.len.ensures, c.gather_window.new.hashes.ok, ap length gathered);
    } in
    let reported : HasRank (within low high all) (c.args.rank - c.in_ok-below.below) c.nth_hash.result = rw gathered at c.nth_hash.ensures.ranked in
    record { ranked = rank_in_window low high all c.in_ok-below.below c.args.rank c.nth_hash.result window reported }

pub nth_hash-requires-2-clause-apart : goal.nth_hash-requires-2-clause-apart
nth_hash-requires-2-clause-apart g c = rw c.in_ok-gather_all.ensures c.requires.apart

pub nth_hash-requires-2-clause-inside : goal.nth_hash-requires-2-clause-inside
nth_hash-requires-2-clause-inside g c = omega (arith, ap length c.in_ok-gather_all.ensures, c.requires.counted, c.requires.inside)

pub returns : goal.returns
returns g c = record { ranked = rw c.in_ok-gather_all.ensures at c.nth_hash-2.ensures.ranked }

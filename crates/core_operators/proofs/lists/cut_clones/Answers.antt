use Rattle.std.proofs.Common.{◌≡◌, ℕ, List, ◌++◌, [], ap, ◌∙◌}
use Rattle.core_laws.specs.Maps.{below, map_of}
use Rattle.core_laws.proofs.cuts.WithinWholeMaps.{cut_below}
use Rattle.core_laws.proofs.maps.MapsOfLists.{ascending-map_of}
use Rattle.core_operators.proofs.ListedMerge.{clones-sorted, clones-apart, all_below}
use Rattle.core_operators.proofs.lists.cut_clones.Goals as goal

-- the clones of both lists
clones : {X : Type 0} (key : X → ℕ) (held added read read_added before first second : List X) (theta : ℕ) → before ≡ [] → read ≡ held → read_added ≡ added → first ≡ before ++ below key read theta → second ≡ first ++ below key read_added theta → second ≡ below key held theta ++ below key added theta
clones key held added read read_added before first second theta none is added_is first_is second_is =
    second_is ∙ ap (λ ys. ys ++ below key read_added theta) (first_is ∙ ap (λ ys. ys ++ below key read theta) none ∙ ap (λ ys. below key ys theta) is)
    ∙ ap (λ ys. below key held theta ++ below key ys theta) added_is

pub sorted_by_hash-sorted-requires : goal.sorted_by_hash-sorted-requires
sorted_by_hash-sorted-requires g c =
    let key = g.E.SketchEntry.key in
    clones-apart key c.args.lists.now.held.items c.args.lists.now.added.items c.push_below-2.new.kept.items c.args.theta (clones key c.args.lists.now.held.items c.args.lists.now.added.items c.deref.result.now c.deref-2.result.now c.in_ok-entries.entries.items c.push_below.new.kept.items c.push_below-2.new.kept.items c.args.theta c.in_ok-entries.ensures.items c.deref.ensures.value c.deref-2.ensures.value c.in_ok-push_below.ensures c.in_ok-push_below-2.ensures) c.requires.apart

pub cut_entries-cut_theta-requires-clause-ascending : goal.cut_entries-cut_theta-requires-clause-ascending
cut_entries-cut_theta-requires-clause-ascending g c = rw c.sorted_by_hash-sorted.ensures (ascending-map_of g.E.SketchEntry.key c.push_below-2.new.kept.items)

pub cut_entries-cut_theta-requires-clause-below_theta : goal.cut_entries-cut_theta-requires-clause-below_theta
cut_entries-cut_theta-requires-clause-below_theta g c =
    let key = g.E.SketchEntry.key in
    let sorted = clones-sorted key c.args.lists.now.held.items c.args.lists.now.added.items c.push_below-2.new.kept.items c.sorted_by_hash-sorted.result.items c.args.theta (clones key c.args.lists.now.held.items c.args.lists.now.added.items c.deref.result.now c.deref-2.result.now c.in_ok-entries.entries.items c.push_below.new.kept.items c.push_below-2.new.kept.items c.args.theta c.in_ok-entries.ensures.items c.deref.ensures.value c.deref-2.ensures.value c.in_ok-push_below.ensures c.in_ok-push_below-2.ensures) c.sorted_by_hash-sorted.ensures in
    rw sorted (all_below key (map_of key (c.args.lists.now.held.items ++ c.args.lists.now.added.items)) c.args.theta)

pub returns : goal.returns
returns g c =
    let key = g.E.SketchEntry.key in
    let whole = map_of key (c.args.lists.now.held.items ++ c.args.lists.now.added.items) in
    let sorted = clones-sorted key c.args.lists.now.held.items c.args.lists.now.added.items c.push_below-2.new.kept.items c.sorted_by_hash-sorted.result.items c.args.theta (clones key c.args.lists.now.held.items c.args.lists.now.added.items c.deref.result.now c.deref-2.result.now c.in_ok-entries.entries.items c.push_below.new.kept.items c.push_below-2.new.kept.items c.args.theta c.in_ok-entries.ensures.items c.deref.ensures.value c.deref-2.ensures.value c.in_ok-push_below.ensures c.in_ok-push_below-2.ensures) c.sorted_by_hash-sorted.ensures in
    (rw sorted at c.cut_entries-cut_theta.ensures) ∙ cut_below key c.args.nominal whole c.args.theta (ascending-map_of key (c.args.lists.now.held.items ++ c.args.lists.now.added.items))

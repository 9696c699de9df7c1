use Rattle.std.proofs.Common.{min, refl, sym, ap, ◌∙◌, inl, inr, subst}
use Rattle.std.proofs.lemmas.Result.{err_from_is_err_and}
use Rattle.core_laws.specs.Maps.{IsApart, IsAscending}
use Rattle.core_laws.proofs.maps.Ascending.{ascending-filter}
use Rattle.core_laws.proofs.maps.MapsOfLists.{apart-distinct, ascending-from_map}
use Rattle.core_laws.proofs.maps.ApartEntries.{apart-filter}
use Rattle.core_operators.specs.Union.{at_or_above}
use Rattle.core_operators.proofs.MergedListing.{IsRead, merge_starts, is_read, read_fewer, rest_merged, rest_refused, merged_all, merged_below}
use Rattle.core_operators.proofs.merge.merge_entries.Given.{Over}
use Rattle.core_operators.proofs.merge.merge_entries.Goals as goal
use Rattle.core_operators.proofs.merge.merge_entries.Goals.{In-Some, In-Some-next_entry}
use Rattle.core_operators.proofs.merge.merge_entries.Goals.{in_default-next_entry, in-Some-next_entry+then-is_past, then-hash-from-via-then-hash-from, then-hash-from-via-else-hash-from+then-hash-theta}

-- ---- the entries ascend, and are in a slice
up : (g : Over) (c : goal.In-Some g) → IsAscending g.S.Entry.SketchEntry.key c.in-Some.ascending.now
up g c =
    let listing = c.entries-entries.ensures in
    rw (c.in-Some.ensures.left, listing.all) (ascending-from_map g.S.Entry.SketchEntry.key (g.S.EntrySketch.listing c.args.sketch) (rw listing.hashes (listing.sound.ascending (sym c.requires.in_order ∙ c.in-Some.ensures.ascending refl))))

pub entries_from-requires : goal.entries_from-requires
entries_from-requires g c = record { ascending = up g (goal.at.entries_from-requires g c).In-Some }

pub merge_ascending-requires-clause-ascending : goal.merge_ascending-requires-clause-ascending
merge_ascending-requires-clause-ascending g c =
    rw c.entries_from.ensures (ascending-filter g.S.Entry.SketchEntry.key _ c.in-Some.ascending.now (up g (goal.at.merge_ascending-requires-clause-ascending g c).In-Some))

-- ---- otherwise they are read one by one
pub loop-entry-init : goal.loop-entry-init
loop-entry-init g c =
    let key = g.S.Entry.SketchEntry.key in
    let listing = g.S.EntrySketch.listing c.args.sketch in
    let hashes = c.entries-entries.ensures.hashes in
    let shown = c.entries-entries.ensures.sound in
    let apart : IsApart key listing = apart-distinct key listing (rw hashes shown.distinct) in
    rw c.entries-entries.ensures.all (record {
      merged = merge_starts (apart-filter key _ listing apart) (λ e. ascending-filter key _ listing (ascending-from_map key listing (rw hashes (shown.ascending (sym c.requires.in_order ∙ e)))));
      lesser_is = c.min-lesser.ensures ∙ ap (λ t. min c.args.theta t) c.retention_theta.ensures.theta;
      apart = apart;
    })

-- an entry was read
read : (g : Over) (c : goal.In-Some-next_entry g) → IsRead c.loop-entry.invariant.merged c.args.from c.in-Some-next_entry.entry.now c.next_entry.new.entries.rest
read g c =
    let was = c.loop-entry.invariant in
    is_read c.loop-entry.entries.rest c.args.from was.merged was.lesser_is c.in-Some-next_entry.ensures (g.met.P.UnionMergePolicy.keeps_hash c.args.policy.now) was.apart

pub loop-entry-smaller : goal.loop-entry-smaller
loop-entry-smaller g c = read_fewer g.S.Entry.SketchEntry.key c.args.ordered c.loop-entry.lesser c.loop-entry.entries.rest c.in-Some-next_entry.ensures

pub loop-entry-smaller-then-hash-from : goal.loop-entry-smaller-then-hash-from
loop-entry-smaller-then-hash-from g c = read_fewer g.S.Entry.SketchEntry.key c.args.ordered c.loop-entry.lesser c.loop-entry.entries.rest c.in-Some-next_entry.ensures

pub loop-entry-preserved-then-hash-from : goal.loop-entry-preserved-then-hash-from
loop-entry-preserved-then-hash-from g c =
    let it = read g (goal.at.loop-entry-preserved-then-hash-from g c).In-Some-next_entry in
    record {
      merged = it.passed (elim c.then-hash-from.branch [
        | then-hash-from-via-then-hash-from w ↦ inl (rw (← c.hash-hash.ensures) w.if-hash-from.true)
        | then-hash-from-via-else-hash-from+then-hash-theta w ↦ inr (rw (← c.hash-hash.ensures) w.if-hash-theta.true)
      ]);
      lesser_is = c.loop-entry.invariant.lesser_is;
      apart = it.apart.1;
    }

pub loop-entry-preserved : goal.loop-entry-preserved
loop-entry-preserved g c =
    let it = read g (goal.at.loop-entry-preserved g c).In-Some-next_entry in
    record {
      merged = (it.next _ c.hash-hash.ensures c.if-hash-from.false c.if-hash-theta.false).merged _ (rw c.if-not-branch.false at c.in_ok-merge_one.ensures.after) (c.in_ok-merge_one.ensures.allowed c.if-not-branch.false);
      lesser_is = c.min-lesser-in-Some-next_entry.ensures ∙ ap (λ t. min c.args.theta t) c.retention_theta-in-Some-next_entry.ensures.theta;
      apart = it.apart.1;
    }

pub returns-in_err-merge_one-clause-refused : goal.returns-in_err-merge_one-clause-refused
returns-in_err-merge_one-clause-refused g c =
    let it = read g (goal.at.returns-in_err-merge_one-clause-refused g c).In-Some-next_entry in
    let p = err_from_is_err_and c.from_residual.result c.from_residual.ensures.1 in
    rw (p.1, p.2) ((it.next _ c.hash-hash.ensures c.if-hash-from.false c.if-hash-theta.false).refused _ c.in_err-merge_one.ensures.refused)

-- ---- nothing has changed, and the entries that are left are merged by way of a list
pub merge_listed-requires-clause-apart : goal.merge_listed-requires-clause-apart
merge_listed-requires-clause-apart g c =
    let it = read g (goal.at.merge_listed-requires-clause-apart g c).In-Some-next_entry in
    subst (λ ys. IsApart g.S.Entry.SketchEntry.key ys) (sym (c.deref.ensures.value ∙ c.in_ok-rest.ensures)) it.apart

pub merge_listed-requires-clause-in_order : goal.merge_listed-requires-clause-in_order
merge_listed-requires-clause-in_order g c =
    let it = read g (goal.at.merge_listed-requires-clause-in_order g c).In-Some-next_entry in
    let rest_is = ap (λ ys. at_or_above g.S.Entry.SketchEntry.key ys c.args.from) (c.deref.ensures.value ∙ c.in_ok-rest.ensures) in
    λ e. subst (λ ys. IsAscending g.S.Entry.SketchEntry.key ys) (sym rest_is) (it.whole.merging.in_order e)

pub returns-then-not-branch-clause-after : goal.returns-then-not-branch-clause-after
returns-then-not-branch-clause-after g c =
    let it = read g (goal.at.returns-then-not-branch-clause-after g c).In-Some-next_entry in
    let rest_is = ap (λ ys. at_or_above g.S.Entry.SketchEntry.key ys c.args.from) (c.deref.ensures.value ∙ c.in_ok-rest.ensures) in
    rest_merged it.whole (rw c.if-not-branch.true at c.in_ok-merge_one.ensures.after) rest_is c.merge_listed.new.self.map c.merge_listed.result c.merge_listed.ensures.after

pub returns-then-not-branch-clause-refused : goal.returns-then-not-branch-clause-refused
returns-then-not-branch-clause-refused g c =
    let it = read g (goal.at.returns-then-not-branch-clause-refused g c).In-Some-next_entry in
    let rest_is = ap (λ ys. at_or_above g.S.Entry.SketchEntry.key ys c.args.from) (c.deref.ensures.value ∙ c.in_ok-rest.ensures) in
    rest_refused it.whole (rw c.if-not-branch.true at c.in_ok-merge_one.ensures.after) rest_is c.merge_listed.result c.merge_listed.ensures.refused

-- ---- no entry is left, or the next one is past
pub returns-clause-after : goal.returns-clause-after
returns-clause-after g c =
    let was = c.loop-entry.invariant in
    elim c.match-next_entry.branch [
      | in_default-next_entry w ↦ merged_all c.loop-entry.entries.rest c.args.from was.merged was.lesser_is w.in_default-next_entry.ensures
      | in-Some-next_entry+then-is_past w ↦ merged_below c.loop-entry.entries.rest c.args.from was.merged was.lesser_is w.in-Some-next_entry.ensures (rw (← w.hash-hash.ensures) (w.is_past.ensures.0 w.if-is_past.true))
    ]

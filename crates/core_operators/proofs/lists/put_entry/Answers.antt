use Rattle.std.proofs.Common.{inl, inr, ◌≡◌, ℕ, ◌*◌, ◌/◌, ◌^◌, ◌++◌, List, [], ap, ◌∙◌, arith}
use Rattle.std.specs.List.{insert}
use Rattle.core_laws.specs.Maps.{map_of}
use Rattle.core_laws.specs.Places.{IsGapFor}
use Rattle.core_laws.specs.Cuts.{cut, IsRetained}
use Rattle.core_laws.proofs.maps.MapsOfLists.{ascending-map_of}
use Rattle.core_laws.proofs.insertions.Cases.{IsRetained-cut}
use Rattle.core_operators.proofs.ListedMerge.{IsPut, both_apart, lists-gathered, put_added, put_held, put_cut, put_sound, not_there}
use Rattle.core_operators.proofs.lists.put_entry.Given.{Over}
use Rattle.core_operators.proofs.lists.put_entry.Goals as goal
use Rattle.core_operators.proofs.lists.put_entry.Goals.{In_ok-insert, In_ok-gather, In_ok-insert-2}

-- ---- it is put among the added ones
added : (g : Over) (c : goal.In_ok-insert g) → IsPut g.E.SketchEntry.key c.args.table.now.map c.args.lists.now.held.items c.args.lists.now.added.items c.args.entry c.args.table.now.map c.args.lists.now.held.items (insert c.args.lists.now.added.items c.args.at c.args.entry)
added g c =
    let most_is : c.most_entries.result ≡ 15 * 2 ^ c.args.table.now.map.lg_nom / 8 = c.most_entries.ensures ∙ ap (λ (n : ℕ). 15 * 2 ^ n / 8) c.lg_nom_size-lg_nom.ensures in
    put_added g.E.SketchEntry.key c.args.table.now.map c.args.lists.now.held.items c.args.lists.now.added.items c.requires.lists c.args.entry c.requires.absent c.args.at c.requires.gap c.requires.nonzero c.requires.small
    (omega (arith, c.if-not-full.true, c.len.ensures, c.len-2.ensures, c.args.lists.now.held.ok.0, c.args.lists.now.added.ok.0, most_is, c.requires.lists.limited))

pub returns-then-len-most_added-clause-lists : goal.returns-then-len-most_added-clause-lists
returns-then-len-most_added-clause-lists g c = rw c.in_ok-insert.ensures.items (added g (goal.at.returns-then-len-most_added-clause-lists g c).In_ok-insert).lists

pub returns-then-len-most_added-clause-after : goal.returns-then-len-most_added-clause-after
returns-then-len-most_added-clause-after g c = rw c.in_ok-insert.ensures.items (added g (goal.at.returns-then-len-most_added-clause-after g c).In_ok-insert).after

-- ---- all are gathered
pub gather-requires : goal.gather-requires
gather-requires g c = both_apart g.E.SketchEntry.key c.args.table.now.map c.args.lists.now.held.items c.args.lists.now.added.items c.requires.lists

pub returns-in_err-gather-clause-lists : goal.returns-in_err-gather-clause-lists
returns-in_err-gather-clause-lists g c = elim c.in_err-gather.ensures.err [
  | inl same ↦ rw (same.0, same.1) c.requires.lists
  | inr one ↦ rw (one.0, one.1) (lists-gathered g.E.SketchEntry.key c.args.table.now.map c.args.lists.now.held.items c.args.lists.now.added.items c.requires.lists)
]

pub place_of-requires : goal.place_of-requires
place_of-requires g c = rw (c.deref.ensures.value, c.in_ok-gather.ensures.held) (ascending-map_of g.E.SketchEntry.key (c.args.lists.now.held.items ++ c.args.lists.now.added.items))

pub returns-in_default-clause-lists : goal.returns-in_default-clause-lists
returns-in_default-clause-lists g c =
    absurd (not_there g.E.SketchEntry.key c.args.table.now.map c.args.lists.now.held.items c.args.lists.now.added.items c.requires.lists c.args.entry c.requires.absent c.args.at c.requires.gap c.requires.nonzero c.requires.small c.in_default.field-0
    (rw (c.deref.ensures.value, c.in_ok-gather.ensures.held, c.hash.ensures) at c.in_default.ensures.found))

pub returns-in_default-clause-after : goal.returns-in_default-clause-after
returns-in_default-clause-after g c =
    absurd (not_there g.E.SketchEntry.key c.args.table.now.map c.args.lists.now.held.items c.args.lists.now.added.items c.requires.lists c.args.entry c.requires.absent c.args.at c.requires.gap c.requires.nonzero c.requires.small c.in_default.field-0
    (rw (c.deref.ensures.value, c.in_ok-gather.ensures.held, c.hash.ensures) at c.in_default.ensures.found))

pub returns-in_err-insert-2-clause-lists : goal.returns-in_err-insert-2-clause-lists
returns-in_err-insert-2-clause-lists g c =
    rw (c.in_err-insert-2.ensures.items, c.in_ok-gather.ensures.held, c.in_ok-gather.ensures.added) (lists-gathered g.E.SketchEntry.key c.args.table.now.map c.args.lists.now.held.items c.args.lists.now.added.items c.requires.lists)

-- ---- it is put among all
abbrev all : (g : Over) (c : goal.In_ok-insert-2 g) → List g.row.E.Denot
all g c = map_of g.E.SketchEntry.key (c.args.lists.now.held.items ++ c.args.lists.now.added.items)

gap : (g : Over) (c : goal.In_ok-insert-2 g) → IsGapFor g.E.SketchEntry.key (all g c) (g.E.SketchEntry.key c.args.entry) c.in-Err.place
gap g c = rw (c.deref.ensures.value, c.in_ok-gather.ensures.held, c.hash.ensures) at c.in-Err.ensures.absent

put_is : (g : Over) (c : goal.In_ok-insert-2 g) → c.insert-2.new.self.items ≡ insert (all g c) c.in-Err.place c.args.entry
put_is g c = rw c.in_ok-gather.ensures.held at c.in_ok-insert-2.ensures.items

sound : (g : Over) (c : goal.In_ok-insert-2 g) → IsRetained g.E.SketchEntry.key (record { entries = c.insert-2.new.self.items; theta = c.args.table.now.map.kept.theta })
sound g c = rw (put_is g c) (put_sound g.E.SketchEntry.key c.args.table.now.map c.args.lists.now.held.items c.args.lists.now.added.items c.requires.lists c.args.entry c.requires.absent c.args.at c.requires.gap c.requires.nonzero c.requires.small c.in-Err.place (gap g c))

pub returns-then-not-full-2-clause-lists : goal.returns-then-not-full-2-clause-lists
returns-then-not-full-2-clause-lists g c =
    let at = (goal.at.returns-then-not-full-2-clause-lists g c).In_ok-insert-2 in
    let most_is : c.most_entries.result ≡ 15 * 2 ^ c.args.table.now.map.lg_nom / 8 = c.most_entries.ensures ∙ ap (λ (n : ℕ). 15 * 2 ^ n / 8) c.lg_nom_size-lg_nom.ensures in
    rw (put_is g at, c.in_ok-gather.ensures.added) (put_held g.E.SketchEntry.key c.args.table.now.map c.args.lists.now.held.items c.args.lists.now.added.items c.requires.lists c.args.entry c.requires.absent c.args.at c.requires.gap c.requires.nonzero c.requires.small c.in-Err.place (gap g at)
    (omega (arith, c.if-not-full-2.true, c.len.ensures, c.len-2.ensures, c.args.lists.now.held.ok.0, c.args.lists.now.added.ok.0, most_is, c.requires.lists.limited))).lists

pub returns-then-not-full-2-clause-after : goal.returns-then-not-full-2-clause-after
returns-then-not-full-2-clause-after g c =
    let at = (goal.at.returns-then-not-full-2-clause-after g c).In_ok-insert-2 in
    let most_is : c.most_entries.result ≡ 15 * 2 ^ c.args.table.now.map.lg_nom / 8 = c.most_entries.ensures ∙ ap (λ (n : ℕ). 15 * 2 ^ n / 8) c.lg_nom_size-lg_nom.ensures in
    rw (put_is g at, c.in_ok-gather.ensures.added) (put_held g.E.SketchEntry.key c.args.table.now.map c.args.lists.now.held.items c.args.lists.now.added.items c.requires.lists c.args.entry c.requires.absent c.args.at c.requires.gap c.requires.nonzero c.requires.small c.in-Err.place (gap g at)
    (omega (arith, c.if-not-full-2.true, c.len.ensures, c.len-2.ensures, c.args.lists.now.held.ok.0, c.args.lists.now.added.ok.0, most_is, c.requires.lists.limited))).after

-- ---- all are cut
pub cut_entries-theta-requires-clause-ascending : goal.cut_entries-theta-requires-clause-ascending
cut_entries-theta-requires-clause-ascending g c = (sound g (goal.at.cut_entries-theta-requires-clause-ascending g c).In_ok-insert-2).ascending

pub cut_entries-theta-requires-clause-below_theta : goal.cut_entries-theta-requires-clause-below_theta
cut_entries-theta-requires-clause-below_theta g c = rw c.retention_theta-own.ensures.theta (sound g (goal.at.cut_entries-theta-requires-clause-below_theta g c).In_ok-insert-2).below_theta

-- what is cut is the cut of all
is_cut : (g : Over) (c : goal.After-set_retention_theta-arg-1 g) → record { entries = c.cut_entries-theta.new.entries.items; theta = c.cut_entries-theta.result } ≡ cut g.E.SketchEntry.key (2 ^ c.args.table.now.map.lg_nom) c.insert-2.new.self.items c.args.table.now.map.kept.theta
is_cut g c =
    let power : c.nominal_size.result ≡ 2 ^ c.args.table.now.map.lg_nom = c.nominal_size.ensures.power ∙ ap (λ (n : ℕ). 2 ^ n) c.lg_nom_size-lg_nom.ensures in
    rw (power, c.retention_theta-own.ensures.theta) at c.cut_entries-theta.ensures

pub set_retention_theta-requires-clause-low : goal.set_retention_theta-requires-clause-low
set_retention_theta-requires-clause-low g c =
    let at = (goal.at.set_retention_theta-requires-clause-low g c).In_ok-insert-2 in
    let bounds : IsRetained g.E.SketchEntry.key (record { entries = c.cut_entries-theta.new.entries.items; theta = c.cut_entries-theta.result }) = rw (is_cut g c) (IsRetained-cut g.E.SketchEntry.key (2 ^ c.args.table.now.map.lg_nom) c.insert-2.new.self.items c.args.table.now.map.kept.theta (sound g at)) in
    bounds.theta_low

pub set_retention_theta-requires-clause-high : goal.set_retention_theta-requires-clause-high
set_retention_theta-requires-clause-high g c =
    let at = (goal.at.set_retention_theta-requires-clause-high g c).In_ok-insert-2 in
    let bounds : IsRetained g.E.SketchEntry.key (record { entries = c.cut_entries-theta.new.entries.items; theta = c.cut_entries-theta.result }) = rw (is_cut g c) (IsRetained-cut g.E.SketchEntry.key (2 ^ c.args.table.now.map.lg_nom) c.insert-2.new.self.items c.args.table.now.map.kept.theta (sound g at)) in
    bounds.theta_high

-- the table and the lists after the cut
cut_put : (g : Over) (c : goal.After-set_retention_theta g) → IsPut g.E.SketchEntry.key c.args.table.now.map c.args.lists.now.held.items c.args.lists.now.added.items c.args.entry c.set_retention_theta.new.self.map c.cut_entries-theta.new.entries.items []
cut_put g c =
    let place = c.in-Err.place in
    let key = g.E.SketchEntry.key in
    let whole = map_of key (c.args.lists.now.held.items ++ c.args.lists.now.added.items) in
    let gap_is : IsGapFor key whole (key c.args.entry) place = rw (c.deref.ensures.value, c.in_ok-gather.ensures.held, c.hash.ensures) at c.in-Err.ensures.absent in
    let items : c.insert-2.new.self.items ≡ insert whole place c.args.entry = rw c.in_ok-gather.ensures.held at c.in_ok-insert-2.ensures.items in
    let power : c.nominal_size.result ≡ 2 ^ c.args.table.now.map.lg_nom = c.nominal_size.ensures.power ∙ ap (λ (n : ℕ). 2 ^ n) c.lg_nom_size-lg_nom.ensures in
    let most_is : c.most_entries.result ≡ 15 * 2 ^ c.args.table.now.map.lg_nom / 8 = c.most_entries.ensures ∙ ap (λ (n : ℕ). 15 * 2 ^ n / 8) c.lg_nom_size-lg_nom.ensures in
    put_cut key c.args.table.now.map c.args.lists.now.held.items c.args.lists.now.added.items c.requires.lists c.args.entry c.requires.absent c.args.at c.requires.gap c.requires.nonzero c.requires.small place gap_is
    (omega (arith, c.if-not-full-2.false, c.len.ensures, c.len-2.ensures, c.args.lists.now.held.ok.0, c.args.lists.now.added.ok.0, most_is))
    c.cut_entries-theta.new.entries.items c.cut_entries-theta.result c.set_retention_theta.new.self.map (rw (power, c.retention_theta-own.ensures.theta, items) at c.cut_entries-theta.ensures) c.set_retention_theta.ensures.after

pub returns-clause-lists : goal.returns-clause-lists
returns-clause-lists g c = rw c.in_ok-gather.ensures.added (cut_put g c).lists

pub returns-clause-after : goal.returns-clause-after
returns-clause-after g c = rw c.in_ok-gather.ensures.added (cut_put g c).after

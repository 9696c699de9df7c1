use Rattle.std.proofs.Common.{List, inl, inr, refl, ◌≡◌, ℕ, ◌^◌, ◌++◌, ap, ◌∙◌}
use Rattle.std.proofs.lemmas.Result.{err_from_is_err_and}
use Rattle.core_laws.specs.Maps.{map_of}
use Rattle.core_laws.specs.Cuts.{cut, IsRetained}
use Rattle.core_laws.proofs.insertions.Cases.{IsRetained-cut}
use Rattle.core_table.specs.HashTable.{MapTable}
use Rattle.core_operators.proofs.ListedMerge.{both_apart, map_sound, lists-gathered, map-gathered, lists-trimmed, map-trimmed}
use Rattle.core_operators.proofs.lists.trim_lists.Given.{Over}
use Rattle.core_operators.proofs.lists.trim_lists.Goals as goal

pub gather-requires : goal.gather-requires
gather-requires g c = both_apart g.E.SketchEntry.key c.args.table.now.map c.args.lists.now.held.items c.args.lists.now.added.items c.requires.lists

pub returns-in_err-gather-clause-lists : goal.returns-in_err-gather-clause-lists
returns-in_err-gather-clause-lists g c = elim c.in_err-gather.ensures.err [
  | inl same ↦ rw (same.0, same.1) c.requires.lists
  | inr one ↦ rw (one.0, one.1) (lists-gathered g.E.SketchEntry.key c.args.table.now.map c.args.lists.now.held.items c.args.lists.now.added.items c.requires.lists)
]

pub returns-in_err-gather-clause-err : goal.returns-in_err-gather-clause-err
returns-in_err-gather-clause-err g c =
    let put : List g.row.E.Denot → MapTable g.row.E.Denot = λ ys. record c.args.table.now.map { kept = record { entries = ys; theta = c.args.table.now.map.kept.theta } } in
    let p = err_from_is_err_and c.from_residual.result c.from_residual.ensures.1 in
    elim c.in_err-gather.ensures.err [
      | inl same ↦ rw (p.1, same.0, same.1) refl
      | inr one ↦ rw (p.1, one.0, one.1) (ap put (map-gathered g.E.SketchEntry.key c.args.table.now.map c.args.lists.now.held.items c.args.lists.now.added.items c.requires.lists))
    ]

pub cut_entries-theta-requires-clause-ascending : goal.cut_entries-theta-requires-clause-ascending
cut_entries-theta-requires-clause-ascending g c = rw c.in_ok-gather.ensures.held (map_sound g.E.SketchEntry.key c.args.table.now.map c.args.lists.now.held.items c.args.lists.now.added.items c.requires.lists).ascending

pub cut_entries-theta-requires-clause-below_theta : goal.cut_entries-theta-requires-clause-below_theta
cut_entries-theta-requires-clause-below_theta g c = rw (c.in_ok-gather.ensures.held, c.retention_theta-own.ensures.theta) (map_sound g.E.SketchEntry.key c.args.table.now.map c.args.lists.now.held.items c.args.lists.now.added.items c.requires.lists).below_theta

-- what is cut is the cut of both lists
is_cut : (g : Over) (c : goal.After-set_retention_theta-arg-1 g) → record { entries = c.cut_entries-theta.new.entries.items; theta = c.cut_entries-theta.result } ≡ cut g.E.SketchEntry.key (2 ^ c.args.table.now.map.lg_nom) (map_of g.E.SketchEntry.key (c.args.lists.now.held.items ++ c.args.lists.now.added.items)) c.args.table.now.map.kept.theta
is_cut g c =
    let power : c.nominal_size.result ≡ 2 ^ c.args.table.now.map.lg_nom = c.nominal_size.ensures.power ∙ ap (λ (n : ℕ). 2 ^ n) c.lg_nom_size.ensures in
    rw (power, c.retention_theta-own.ensures.theta, c.in_ok-gather.ensures.held) at c.cut_entries-theta.ensures

bounds : (g : Over) (c : goal.After-set_retention_theta-arg-1 g) → IsRetained g.E.SketchEntry.key (record { entries = c.cut_entries-theta.new.entries.items; theta = c.cut_entries-theta.result })
bounds g c = rw (is_cut g c) (IsRetained-cut g.E.SketchEntry.key (2 ^ c.args.table.now.map.lg_nom) _ c.args.table.now.map.kept.theta (map_sound g.E.SketchEntry.key c.args.table.now.map c.args.lists.now.held.items c.args.lists.now.added.items c.requires.lists))

pub set_retention_theta-requires-clause-low : goal.set_retention_theta-requires-clause-low
set_retention_theta-requires-clause-low g c = (bounds g c).theta_low

pub set_retention_theta-requires-clause-high : goal.set_retention_theta-requires-clause-high
set_retention_theta-requires-clause-high g c = (bounds g c).theta_high

pub returns-clause-lists : goal.returns-clause-lists
returns-clause-lists g c =
    let power : c.nominal_size.result ≡ 2 ^ c.args.table.now.map.lg_nom = c.nominal_size.ensures.power ∙ ap (λ (n : ℕ). 2 ^ n) c.lg_nom_size.ensures in
    rw c.in_ok-gather.ensures.added (lists-trimmed g.E.SketchEntry.key c.args.table.now.map c.args.lists.now.held.items c.args.lists.now.added.items c.requires.lists c.cut_entries-theta.new.entries.items c.cut_entries-theta.result c.set_retention_theta.new.self.map
    (rw (power, c.retention_theta-own.ensures.theta, c.in_ok-gather.ensures.held) at c.cut_entries-theta.ensures) c.set_retention_theta.ensures.after)

pub returns-clause-after : goal.returns-clause-after
returns-clause-after g c =
    let power : c.nominal_size.result ≡ 2 ^ c.args.table.now.map.lg_nom = c.nominal_size.ensures.power ∙ ap (λ (n : ℕ). 2 ^ n) c.lg_nom_size.ensures in
    rw c.in_ok-gather.ensures.added (map-trimmed g.E.SketchEntry.key c.args.table.now.map c.args.lists.now.held.items c.args.lists.now.added.items c.requires.lists c.cut_entries-theta.new.entries.items c.cut_entries-theta.result c.set_retention_theta.new.self.map
    (rw (power, c.retention_theta-own.ensures.theta, c.in_ok-gather.ensures.held) at c.cut_entries-theta.ensures) c.set_retention_theta.ensures.after)

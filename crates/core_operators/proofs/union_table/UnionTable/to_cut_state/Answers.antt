use Rattle.std.proofs.Common.{◌≡◌, ℕ, ◌^◌, ◌<◌, ◌≤◌, ◌++◌, length, ap, ◌∙◌, subst, arith}
use Rattle.std.proofs.Math.Pow.{pow_mono}
use Rattle.core_laws.specs.declared.TheConstants.{MAX_LG_K}
use Rattle.core_laws.specs.Maps.{map_of}
use Rattle.core_laws.specs.Cuts.{cut, IsRetained}
use Rattle.core_compact.specs.CompactState.{IsCompactOf}
use Rattle.core_compact.proofs.LawsOfShown.{IsShown-retained}
use Rattle.core_laws.proofs.insertions.Cases.{length-cut}
use Rattle.core_laws.proofs.maps.MapsOfLists.{ascending-map_of}
use Rattle.core_table.proofs.OtherOrders.{map_of-ascending}
use Rattle.core_operators.specs.Lists.{AreLists}
use Rattle.core_operators.proofs.ListedMerge.{both_apart, listed-cut}
use Rattle.core_operators.proofs.union_table.UnionTable.to_cut_state.Goals as goal

pub cut_clones-requires-clause-apart : goal.cut_clones-requires-clause-apart
cut_clones-requires-clause-apart g c = both_apart g.E.SketchEntry.key c.self.inside.slots.map c.in-Some.lists.held.items c.in-Some.lists.added.items (rw c.in-Some.is at c.self.invariant)

pub state_of-requires : goal.state_of-requires
state_of-requires g c =
    let key = g.E.SketchEntry.key in
    let t = c.self.inside.slots.map in
    let l = c.in-Some.lists in
    let are : AreLists key t l.held.items l.added.items = rw c.in-Some.is at c.self.invariant in
    let high : c.args.theta ≤ t.kept.theta = rw (← c.self.view_is, c.in-Some.is) at c.requires.high in
    let small : t.lg_nom ≤ MAX_LG_K = rw (← c.self.view_is, c.in-Some.is) at c.requires.small in
    let power : c.nominal_size.result ≡ 2 ^ t.lg_nom = c.nominal_size.ensures.power ∙ ap (λ (n : ℕ). 2 ^ n) c.lg_nom_size.ensures in
    let is = rw power at c.in_ok-cut.ensures in
    let sound : IsRetained key (record { entries = c.in_ok-cut.cut.entries.items; theta = c.in_ok-cut.cut.theta }) = rw is (listed-cut key t l.held.items l.added.items are c.args.theta c.requires.low high (2 ^ t.lg_nom)) in
    let most : 2 ^ t.lg_nom ≤ 2 ^ 26 = pow_mono {i = t.lg_nom} {j = 26} (omega (arith, small)) in
    let count : length c.in_ok-cut.cut.entries.items ≡ length (cut key (2 ^ t.lg_nom) (map_of key (l.held.items ++ l.added.items)) c.args.theta).entries = ap (λ v. length v.entries) is in
    let few : length c.in_ok-cut.cut.entries.items < 2 ^ 32 = omega (arith, count, length-cut key (2 ^ t.lg_nom) (map_of key (l.held.items ++ l.added.items)) c.args.theta (ascending-map_of key (l.held.items ++ l.added.items)), most) in
    IsShown-retained key (record { entries = c.in_ok-cut.cut.entries.items; theta = c.in_ok-cut.cut.theta }) c.seed_hash.result c.args.ordered sound few

pub returns-clause-ok : goal.returns-clause-ok
returns-clause-ok g c =
    let key = g.E.SketchEntry.key in
    let t = c.self.inside.slots.map in
    let l = c.in-Some.lists in
    let are : AreLists key t l.held.items l.added.items = rw c.in-Some.is at c.self.invariant in
    let high : c.args.theta ≤ t.kept.theta = rw (← c.self.view_is, c.in-Some.is) at c.requires.high in
    let power : c.nominal_size.result ≡ 2 ^ t.lg_nom = c.nominal_size.ensures.power ∙ ap (λ (n : ℕ). 2 ^ n) c.lg_nom_size.ensures in
    let is = rw power at c.in_ok-cut.ensures in
    let sound : IsRetained key (record { entries = c.in_ok-cut.cut.entries.items; theta = c.in_ok-cut.cut.theta }) = rw is (listed-cut key t l.held.items l.added.items are c.args.theta c.requires.low high (2 ^ t.lg_nom)) in
    let whole = ap (λ ys. record { entries = ys; theta = c.in_ok-cut.cut.theta }) (map_of-ascending key c.in_ok-cut.cut.entries.items sound.ascending) ∙ is in
    rw (← c.self.view_is, c.in-Some.is) (subst (λ v. IsCompactOf key v t.seed_hash c.args.ordered c.state_of.result) whole (rw c.seed_hash.ensures at c.state_of.ensures))

use Rattle.std.proofs.Common.{◌^◌}
use Rattle.core_laws.proofs.cuts.WithinWholeMaps.{cut_below}
use Rattle.core_operators.proofs.union.UnionState.to_compact_sketch_state.Goals as goal

pub returns-clause-ok : goal.returns-clause-ok
returns-clause-ok g c =
    rw (← c.self.view_is, c.if-self-2.false, cut_below g.E.SketchEntry.key (2 ^ c.self.inside.table.map.lg_nom) c.self.inside.table.map.kept.entries c.self.inside.theta c.self.invariant.table_sound.kept.ascending) c.to_cut_state.ensures.ok

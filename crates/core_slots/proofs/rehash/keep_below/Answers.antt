use Rattle.std.proofs.Common.{rules, arith}
use Rattle.std.proofs.lemmas.List.{places}
use Rattle.core_slots.proofs.Moves.{low_count, kept_map, kept_count}
use Rattle.core_slots.proofs.rehash.keep_below.Goals as goal

pub gather-requires-clause-room : goal.gather-requires-clause-room
gather-requires-clause-room g c =
    omega (arith, low_count g.E.SketchEntry.key g.E.PathEntry.content c.args.lg c.args.theta c.args.slots.now.items _ c.requires.laid_out c.deref_mut.ensures.value, c.requires.kept, c.in_ok-others.ensures.size)

pub returns-clause-map : goal.returns-clause-map
returns-clause-map g c =
    kept_map g.E.SketchEntry.key g.E.PathEntry.content c.args.lg c.args.theta _ _ c.requires.laid_out c.deref_mut.ensures.value _ _ (search (rules, places)) c.gather.ensures.map

pub returns-clause-placed : goal.returns-clause-placed
returns-clause-placed g c =
    kept_count g.E.SketchEntry.key g.E.PathEntry.content c.args.lg c.args.theta _ _ c.requires.laid_out c.deref_mut.ensures.value _ _ (search (rules, places)) c.gather.ensures.map _ _ _ c.gather.ensures.laid_out c.gather.ensures.placed

use Rattle.std.proofs.Common.{◌≡◌}
use Rattle.keys_lines.specs.Lines.{lines_of_all}
use Rattle.keys_sketches.specs.Keys.{line_state, with_lines}
use Rattle.keys_sketches.proofs.Turns.{leads_itself, leads_next, leads_end}
use Rattle.keys_sketches.proofs.sources.add_sources.Goals as goal

pub loop-init : goal.loop-init
loop-init g c = leads_itself c.args.hashing (g.S.Sources.texts c.args.sources.now) (line_state c.args.sketch.now)

pub loop-preserved : goal.loop-preserved
loop-preserved g c =
    leads_next c.args.hashing g.S.Source.Read.remaining (g.S.Sources.texts c.args.sources.now) (g.S.Sources.texts c.loop.sources) (g.S.Sources.texts c.next_source.new.self)
    (line_state c.args.sketch.now) (line_state c.loop.sketch) (line_state c.add_source.new.sketch) c.in-Ok-Some.field-0 c.in-Ok-Some.source c.loop.invariant c.in-Ok-Some.ensures c.in-Ok-Some.field-0-is c.in_ok-add_source-in-Ok-Some.ensures.lines

pub returns-in-Ok-None-clause-lines : goal.returns-in-Ok-None-clause-lines
returns-in-Ok-None-clause-lines g c =
    leads_end c.args.hashing g.S.Source.Read.remaining (g.S.Sources.texts c.args.sources.now) (g.S.Sources.texts c.loop.sources) (g.S.Sources.texts c.next_source.new.self)
    (line_state c.args.sketch.now) (line_state c.loop.sketch) c.in-Ok-None.field-0 (λ texts. line_state c.loop.sketch ≡ with_lines c.args.hashing (line_state c.args.sketch.now) (lines_of_all texts)) c.loop.invariant c.in-Ok-None.ensures c.in-Ok-None.field-0-is (λ texts is. is)

use Rattle.std.proofs.Common.{◌≡◌, ◌++◌, [], take, sym, ap, ◌∙◌, refl, arith}
use Rattle.std.proofs.lemmas.List.{append-nil}
use Rattle.std.proofs.KnownBytes.{Consumes-nil, Consumes-whole, Consumes-trans, Consumes-kept}
use Rattle.keys_sketches.specs.Keys.{line_state, with_lines}
use Rattle.keys_lines.specs.Lines.{lines_of, lines_after}
use Rattle.keys_sketches.proofs.Seeding.{taken_seed, takes_seed}
use Rattle.keys_sketches.proofs.Takings.{takes_all, takes_both}
use Rattle.keys_sketches.proofs.sketching.add_lines.Goals.{in-Ok+in_ok-lines-in-Ok, in-Err+else-ne}
use Rattle.keys_sketches.proofs.sketching.add_lines.Goals as goal

pub loop-init : goal.loop-init
loop-init g c = ([], [], Consumes-nil (g.R.Read.remaining c.args.reader.now), c.new-last.ensures, λ more. refl)

pub returns-in-Ok-eq0-clause-lines : goal.returns-in-Ok-eq0-clause-lines
returns-in-Ok-eq0-clause-lines g c =
    let inv = c.loop.invariant in
    let all = inv.0 ++ take c.in-Ok-eq0.field-0 c.read.new.buf in
    let none : all ≡ inv.0 = ap (λ n. inv.0 ++ take n c.read.new.buf) c.in-Ok-eq0.field-0-test ∙ append-nil inv.0 in
    Consumes-whole (g.R.Read.remaining c.args.reader.now) (g.R.Read.remaining c.read.new.self) all _
    (Consumes-trans (g.R.Read.remaining c.args.reader.now) (g.R.Read.remaining c.loop.reader) (g.R.Read.remaining c.read.new.self) inv.0 (take c.in-Ok-eq0.field-0 c.read.new.buf) inv.2 c.in-Ok-eq0.ensures.bytes.0)
    (c.in-Ok-eq0.ensures.bytes.1 c.in-Ok-eq0.field-0-test (omega arith))
    (c.in_ok-take_last-in-Ok-eq0.ensures.taken c.args.hashing inv.1 inv.3 ∙ sym (takes_all c.args.hashing (line_state c.args.sketch.now) (line_state c.loop.sketch) inv.0 inv.1 inv.4) ∙ ap (λ bs. with_lines c.args.hashing (line_state c.args.sketch.now) (lines_of bs)) (sym none))

pub returns-in-Ok-eq0-clause-seeded : goal.returns-in-Ok-eq0-clause-seeded
returns-in-Ok-eq0-clause-seeded g c =
    let inv = c.loop.invariant in
    taken_seed c.args.hashing (lines_after inv.1 []) c.loop.sketch c.take_last.new.sketch (c.in_ok-take_last-in-Ok-eq0.ensures.taken c.args.hashing inv.1 inv.3)
    ∙ takes_seed c.args.hashing (line_state c.args.sketch.now) (line_state c.loop.sketch) [] inv.0 inv.1 inv.4

pub loop-preserved : goal.loop-preserved
loop-preserved g c = let inv = c.loop.invariant in elim c.match-read.branch [
  | in-Ok+in_ok-lines-in-Ok w ↦
      let block = take w.in-Ok.count c.read.new.buf in
      let step = w.in_ok-lines-in-Ok.ensures.takes inv.1 inv.3 in
      rw (w.last-is, w.sketch-is) (
        inv.0 ++ block,
        step.0,
        Consumes-trans (g.R.Read.remaining c.args.reader.now) (g.R.Read.remaining c.loop.reader) (g.R.Read.remaining c.read.new.self) inv.0 block inv.2 w.in-Ok.ensures.bytes.0,
        step.1,
        takes_both c.args.hashing (line_state c.args.sketch.now) (line_state c.loop.sketch) (line_state w.take_block.new.sketch) [] inv.0 inv.1 block step.0 inv.4 step.2,
      )
  | in-Err+else-ne w ↦
      rw (w.last-is, w.sketch-is) (
        inv.0,
        inv.1,
        Consumes-kept (g.R.Read.remaining c.args.reader.now) (g.R.Read.remaining c.loop.reader) (g.R.Read.remaining c.read.new.self) inv.0 inv.2 w.in-Err.ensures.bytes,
        inv.3,
        inv.4,
      )
]

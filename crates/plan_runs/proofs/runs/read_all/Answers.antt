use Rattle.std.proofs.Common.{◌≡◌, ◌++◌, take, sym, ap, subst, ◌∙◌, arith}
use Rattle.std.specs.Io.KnownBytes.{Consumes}
use Rattle.std.proofs.lemmas.List.{append-nil}
use Rattle.std.proofs.KnownBytes.{Consumes-whole, Consumes-trans, Consumes-kept}
use Rattle.plan_runs.proofs.runs.read_all.Goals.{in-Ok+in_ok-extend_from_slice-in-Ok, in-Err+else-ne}
use Rattle.plan_runs.proofs.runs.read_all.Goals as goal

pub returns-in-Ok-eq0-clause-all : goal.returns-in-Ok-eq0-clause-all
returns-in-Ok-eq0-clause-all g c =
    let text = c.loop.text.items in
    let none : text ≡ text ++ take c.in-Ok-eq0.field-0 c.read.new.buf = sym (append-nil text) ∙ ap (λ n. text ++ take n c.read.new.buf) (sym c.in-Ok-eq0.field-0-test) in
    Consumes-whole (g.R.Read.remaining c.args.reader.now) (g.R.Read.remaining c.read.new.self) (text ++ take c.in-Ok-eq0.field-0 c.read.new.buf) (λ bytes. text ≡ bytes)
    (Consumes-trans (g.R.Read.remaining c.args.reader.now) (g.R.Read.remaining c.loop.reader) (g.R.Read.remaining c.read.new.self) text (take c.in-Ok-eq0.field-0 c.read.new.buf) c.loop.invariant c.in-Ok-eq0.ensures.bytes.0)
    (c.in-Ok-eq0.ensures.bytes.1 c.in-Ok-eq0.field-0-test (omega arith)) none

pub loop-preserved : goal.loop-preserved
loop-preserved g c = elim c.match-read.branch [
  | in-Ok+in_ok-extend_from_slice-in-Ok w ↦
      subst (λ text. Consumes (g.R.Read.remaining c.args.reader.now) (g.R.Read.remaining c.read.new.self) text.items) (sym w.text-is)
      (subst (Consumes (g.R.Read.remaining c.args.reader.now) (g.R.Read.remaining c.read.new.self)) (sym w.in_ok-extend_from_slice-in-Ok.ensures.items)
      (Consumes-trans (g.R.Read.remaining c.args.reader.now) (g.R.Read.remaining c.loop.reader) (g.R.Read.remaining c.read.new.self) c.loop.text.items (take w.in-Ok.count c.read.new.buf) c.loop.invariant w.in-Ok.ensures.bytes.0))
  | in-Err+else-ne w ↦
      subst (λ text. Consumes (g.R.Read.remaining c.args.reader.now) (g.R.Read.remaining c.read.new.self) text.items) (sym w.text-is)
      (Consumes-kept (g.R.Read.remaining c.args.reader.now) (g.R.Read.remaining c.loop.reader) (g.R.Read.remaining c.read.new.self) c.loop.text.items c.loop.invariant w.in-Err.ensures.bytes)
]

use Rattle.std.proofs.Common.{◌≡◌, subst}
use Rattle.std.specs.Prelude.{IfSome, IfOk}
use Rattle.keys_lines.specs.Lines.{lines_of}
use Rattle.keys_lines.specs.declared.key.Key.{Key}
use Rattle.keys_lines.specs.declared.key.Hashing.{Hashing}
use Rattle.keys_sketches.specs.Keys.{value_of_lines, sketch_of_value}
use Rattle.distinct_commands.proofs.eval.sketch_source.Goals as goal

pub returns-clause-sketch : goal.returns-clause-sketch
returns-clause-sketch g c =
    let hashing : Key → Hashing = λ key. record { key = key; seed = c.args.seed } in
    subst (λ (key : Key). IfSome (g.R.Read.remaining c.args.source.now) (λ text. IfOk c.sketch_lines.result (λ s. s ≡ sketch_of_value c.args.seed (value_of_lines (hashing key) c.args.options.now.lg_k (lines_of text))))) c.key.ensures c.sketch_lines.ensures.sketch

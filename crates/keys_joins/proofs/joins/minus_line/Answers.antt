use Rattle.std.proofs.Common.{ℕ, ◌≡◌, sym, ap, ◌∙◌}
use Rattle.std.proofs.lemmas.Result.{IfOk-weaker}
use Rattle.core_compact.specs.CompactState.{Compact}
use Rattle.theta_sketches.specs.Image.{written}
use Rattle.keys_groups.specs.United.{image_line}
use Rattle.keys_joins.specs.Joins.{remainder_of}
use Rattle.keys_joins.proofs.joins.minus_line.Goals as goal

pub returns-clause-line : goal.returns-clause-line
returns-clause-line c = λ first files are is seeded.
    let name = c.args.group.name.items in
    let left = c.in_ok-left.left in
    let whole = c.in_ok-left.ensures.remainder first files are (is ∙ ap first.sketch (sym c.as_slice.ensures.value)) seeded ∙ ap (remainder_of c.args.seed first files) c.as_slice.ensures.value in
    IfOk-weaker c.sketch_line.result (λ v. v.items ≡ image_line c.as_slice-2.result.now (written left)) (λ v. v.items ≡ image_line name (written (remainder_of c.args.seed first files name)))
    (λ v line. line ∙ ap (λ n. image_line n (written left)) c.as_slice-2.ensures.value ∙ ap (λ (s : Compact ℕ). image_line name (written s)) whole)
    c.sketch_line.ensures.line

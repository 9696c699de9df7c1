use Rattle.std.proofs.Common.{take, refl, ap, ◌∙◌, ◌∷◌, length}
use Rattle.std.proofs.lemmas.List.{take_at}
use Rattle.keys_lines.specs.Keys.{line_hash}
use Rattle.keys_lines.proofs.Cutting.{line_found}
use Rattle.keys_lines.proofs.hashed_lines.hash_first_line.Goals as goal

pub returns-then-count-lt-LANES-clause-line : goal.returns-then-count-lt-LANES-clause-line
returns-then-count-lt-LANES-clause-line c =
    line_found c.args.hashing c.args.text.now 32 c.first_of_lanes-count.result c.front_hash.result c.in-Some.ensures.cases.enough c.first_of_lanes-count.ensures c.if-count-lt-LANES.true c.front_hash.ensures

pub returns-clause-line : goal.returns-clause-line
returns-clause-line c =
    let line = c.in-Some-cut_line.line.now in
    let parts = c.in-Some-cut_line.ensures.parts in
    (line, c.in-Some-cut_line.ensures.line, parts, c.long_hash.ensures ∙ ap (λ text. line_hash c.args.hashing (take (length line) text)) parts ∙ ap (line_hash c.args.hashing) (take_at line (10 ∷ c.in-Some-cut_line.rest.now) (length line) refl))

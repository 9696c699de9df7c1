use Rattle.std.proofs.Common.{◌≡◌, length, take, take_all, ap, ◌∙◌, arith}
use Rattle.sketch_base.specs.Bytes.{number}
use Rattle.sketch_base.proofs.Words.{number-four}
use Rattle.sketch_base.proofs.murmur.read_four.Goals as goal

pub returns-in-Some : goal.returns-in-Some
returns-in-Some c =
    let bs = c.args.bytes.now in
    let same : c.in-Some.half.now ≡ take 4 bs = c.in-Some.ensures.cases.same in
    let whole : take 4 bs ≡ bs = take_all 4 bs (omega arith) in
    let all = same ∙ whole in
    c.from_le_bytes.ensures ∙ number-four c.in-Some.half.now (ap length all ∙ c.requires) ∙ ap number all

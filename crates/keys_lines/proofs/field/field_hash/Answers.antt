use Rattle.std.proofs.Common.{◌≡◌, ◌-◌, ◌/◌, ◌<◌, take, drop, sym, ap, ◌∙◌, arith}
use Rattle.std.proofs.lemmas.List.{take-take, take_rest}
use Rattle.sketch_base.specs.Seed.{hash_of}
use Rattle.keys_lines.proofs.field.field_hash.Goals as goal

pub returns-in-Some-first_chunk : goal.returns-in-Some-first_chunk
unfolding hash_of
returns-in-Some-first_chunk c =
    let text = c.args.text.now in
    let start = c.in-Some.start in
    let long = c.in-Some.end - start in
    let front = c.in-Some-first_chunk.front.now in
    let few : c.in-Some.end < 32 = c.in-Some.ensures.few in
    let same : take long front ≡ take long (drop start text) =
    ap (take long) (c.in-Some-first_chunk.ensures.cases.same ∙ ap (take 32) (take_rest text start)) ∙ take-take long 32 (drop start text) (omega (arith, few)) in
    ap (λ n. n / 2) (c.finish.ensures.hash c.args.seed (take long front) c.of_front.ensures) ∙ ap (hash_of c.args.seed) (same ∙ sym c.in-Some.ensures.key)

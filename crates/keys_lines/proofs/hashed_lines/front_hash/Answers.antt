use Rattle.std.proofs.Common.{◌≡◌, ◌/◌, take, sym, ap, ◌∙◌, arith}
use Rattle.std.proofs.lemmas.List.{take-take}
use Rattle.sketch_base.specs.Seed.{hash_of}
use Rattle.keys_lines.specs.Keys.{key_of}
use Rattle.keys_lines.specs.declared.key.Key.{Key}
use Rattle.keys_lines.proofs.hashed_lines.front_hash.Goals as goal

pub returns-in-Line : goal.returns-in-Line
unfolding hash_of
returns-in-Line c =
    let line = take c.args.count c.args.text.now in
    let same : take c.args.count c.args.front.now ≡ line = ap (take c.args.count) c.requires.front ∙ take-take c.args.count 32 c.args.text.now (omega arith) in
    ap (λ n. n / 2) (c.finish.ensures.hash c.args.hashing.seed (take c.args.count c.args.front.now) c.of_front.ensures)
    ∙ ap (λ l. hash_of c.args.hashing.seed l) same
    ∙ ap (λ (key : Key). hash_of c.args.hashing.seed (key_of key line)) (sym c.in-Line.is)

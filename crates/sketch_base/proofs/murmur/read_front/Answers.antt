use Rattle.std.proofs.Common.{◌*◌, ◌%◌, ◌^◌, ap, ◌∙◌, arith}
use Rattle.sketch_base.proofs.Words.{word-front}
use Rattle.sketch_base.proofs.murmur.read_front.Goals as goal

pub returns : goal.returns
returns c =
    ap (λ n. n % ((1 * 2 ^ (8 * c.args.count)) % 2 ^ 64)) c.read_word.ensures
    ∙ word-front c.args.bytes.now c.args.count c.requires.few c.requires.enough (λ i. omega (arith, c.type_inv.bytes i))

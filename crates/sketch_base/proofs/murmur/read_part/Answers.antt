use Rattle.std.proofs.Common.{◌≡◌, ◌-◌, ◌*◌, ◌%◌, ◌^◌, length, take, drop, bit_or, ap, sym, ◌∙◌, arith}
use Rattle.sketch_base.specs.Bytes.{number}
use Rattle.sketch_base.proofs.Parts.{halves}
use Rattle.sketch_base.proofs.Words.{word-short}
use Rattle.sketch_base.proofs.murmur.read_part.Goals as goal

pub returns : goal.returns
returns c =
    let bs = c.args.bytes.now in
    let front : c.read_four.result ≡ number (take 4 bs) = c.read_four.ensures ∙ ap number c.split_at.ensures.front in
    let back : c.read_four-2.result ≡ number (drop (length bs - 4) bs) = c.read_four-2.ensures ∙ ap number c.split_at-2.ensures.back in
    (λ i. bit_or (front i) ((back i * 2 ^ (8 * (length bs - 4))) % 2 ^ 64))
    ∙ halves bs (omega arith) c.requires (λ i. omega (arith, c.type_inv.bytes i))
    ∙ sym (word-short bs (omega arith))

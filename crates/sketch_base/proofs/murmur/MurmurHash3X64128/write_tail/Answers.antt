use Rattle.std.proofs.Common.{◌+◌, ◌%◌, ◌<◌, ◌^◌, length, arith, sym, ◌∙◌}
use Rattle.sketch_base.proofs.Writes.{write-tail}
use Rattle.sketch_base.proofs.murmur.MurmurHash3X64128.write_tail.Goals as goal

pub returns : goal.returns
returns c =
    let s = c.args.self.now in
    let bs = c.args.tail.now in
    let fits : s.total < 2 ^ 64 = omega arith in
    (λ i. record { h1 = s.h1; h2 = s.h2; k1 = c.read_word-self.ensures i; k2 = c.read_second_word-self.ensures i; total = (s.total + length bs) % 2 ^ 64 })
    ∙ sym (write-tail s c.requires.aligned fits bs c.requires.size)

use Rattle.std.proofs.Common.{◌≡◌, ◌+◌, ◌%◌, ◌<◌, ◌^◌, length, take, arith, sym, ◌∙◌, length-take-le}
use Rattle.sketch_base.proofs.Writes.{write-tail}
use Rattle.sketch_base.proofs.murmur.MurmurHash3X64128.write_front.Goals as goal

pub returns : goal.returns
returns c =
    let s = c.args.self.now in
    let front = take c.args.count c.args.bytes.now in
    let fits : s.total < 2 ^ 64 = omega arith in
    let count : length front ≡ c.args.count = length-take-le c.args.count c.args.bytes.now (omega arith) in
    let few : length front < 16 = omega (arith, count) in
    (λ i. record { h1 = s.h1; h2 = s.h2; k1 = c.read_first_front-self.ensures i; k2 = c.read_second_front-self.ensures i; total = (s.total + sym count i) % 2 ^ 64 })
    ∙ sym (write-tail s c.requires.aligned fits front few)

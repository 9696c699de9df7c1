use Rattle.std.proofs.Common.{◌≡◌, [], ◌++◌, ◌-◌, take, sym, subst, ◌∙◌, arith, List, ℕ}
use Rattle.sketch_base.specs.declared.murmur.MurmurHash3X64128.{MurmurHash3X64128}
use Rattle.sketch_base.specs.MurmurState.{HasWritten}
use Rattle.sketch_base.proofs.Words.{front_parts}
use Rattle.sketch_base.proofs.Writes.{new_aligned, write-HasWritten}
use Rattle.sketch_base.proofs.murmur.MurmurHash3X64128.of_front.Goals as goal

pub write_front-requires-clause-aligned : goal.write_front-requires-clause-aligned
write_front-requires-clause-aligned c = new_aligned c.args.seed c.with_seed-hasher.result c.with_seed-hasher.ensures

pub write_block-requires : goal.write_block-requires
write_block-requires c = new_aligned c.args.seed c.with_seed-hasher.result c.with_seed-hasher.ensures

pub returns-then-count-lt16 : goal.returns-then-count-lt16
returns-then-count-lt16 c =
    let front = take c.args.count c.args.bytes.now in
    let P : MurmurHash3X64128 → Type 0 = λ s. HasWritten c.args.seed front s in
    subst P (sym c.write_front.ensures) (write-HasWritten c.args.seed [] front c.with_seed-hasher.result c.with_seed-hasher.ensures)

pub returns-in-Some : goal.returns-in-Some
returns-in-Some c =
    let seed = c.args.seed in
    let bs = c.args.bytes.now in
    let n = c.args.count in
    let block = c.in-Some.block.now in
    let tail = take (n - 16) c.in-Some.others.now in
    let whole : block ++ tail ≡ take n bs = (λ i. c.in-Some.ensures.cases.0 i ++ take (n - 16) (c.in-Some.ensures.cases.1 i)) ∙ front_parts bs n (omega arith) in
    let At : List ℕ → MurmurHash3X64128 → Type 0 = λ xs s. HasWritten seed xs s in
    let begun = subst (At block) (sym c.write_block.ensures.written) (write-HasWritten seed [] block c.with_seed-hasher.result c.with_seed-hasher.ensures) in
    let ended = subst (At (block ++ tail)) (sym c.write_front-in-Some.ensures) (write-HasWritten seed block tail c.write_block.new.self begun) in
    subst (λ (xs : List ℕ). HasWritten seed xs c.write_front-in-Some.new.self) whole ended

use Rattle.std.proofs.Common.{rules, ◌≡◌, ◌++◌, ap, ◌∙◌, sym, length, ◌/◌, map, arith}
use Rattle.std.proofs.lemmas.Iterator.{YieldsList-from_slice, YieldsList-from_map}
use Rattle.std.proofs.lemmas.Iterator.Adapters.{items_from_extend}
use Rattle.std.specs.Slice.Iter.{iter_rest}
use Rattle.std.specs.Simd.{first_chunks}
use Rattle.keys_sketches.specs.Hex.{pair_value}
use Rattle.keys_sketches.proofs.Digits.{pairs_spell, odd_spells_nothing, other_spells_nothing}
use Rattle.keys_sketches.proofs.hex.read_hex.Goals.{then-text-eq1-via-then-text-eq1, then-text-eq1-via-else-text-eq1+then-not-are_digits}
use Rattle.keys_sketches.proofs.hex.read_hex.Goals as goal

pub returns-then-text-eq1 : goal.returns-then-text-eq1
returns-then-text-eq1 g c = elim c.then-text-eq1.branch [
  | then-text-eq1-via-then-text-eq1 w ↦ odd_spells_nothing c.args.text.now (omega (arith, w.if-text-eq1.true))
  | then-text-eq1-via-else-text-eq1+then-not-are_digits w ↦ other_spells_nothing c.args.text.now (sym w.if-not-are_digits.ensures)
]

pub returns : goal.returns
returns g c =
    let text = c.args.text.now in
    let count = length text / 2 in
    let pairs = first_chunks 2 count text in
    let source = YieldsList-from_slice pairs (ap iter_rest c.map-found.ensures.source ∙ c.iter.ensures.rest ∙ c.as_chunks.ensures.front) in
    let all = items_from_extend c.extend.result c.extend.ensures.ran (YieldsList-from_map _ pair_value source c.map-found.ensures.closure (λ x r q k. search rules)) in
    let made = rw c.in_ok-extend.was at all in
    let items : c.extend.new.self.items ≡ map pair_value pairs = made.0 ∙ ap (λ l. l ++ map pair_value pairs) c.in_ok-bytes.ensures.items in
    rw items (pairs_spell count text (omega (arith)) (sym c.if-not-are_digits.ensures))

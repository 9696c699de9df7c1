use Rattle.std.proofs.Common.{map, sym, ◌∙◌, arith}
use Rattle.std.proofs.lemmas.List.{length-map}
use Rattle.expression_text.proofs.FirstNames.{no_name}
use Rattle.expression_text.proofs.Frames.{name_found, other_names}
use Rattle.expression_text.proofs.parsing.place_of.Goals as goal

pub loop-i-preserved : goal.loop-i-preserved
loop-i-preserved g c =
    other_names (λ v. v.items) c.args.names.now c.args.word.now c.as_slice.result.now c.loop-i.i c.index-names-i.result c.loop-i-test.true c.index-names-i.is c.as_slice.ensures.value (sym c.eq.ensures ∙ c.if-eq.false) c.loop-i.invariant

pub returns-then-eq-clause-found : goal.returns-then-eq-clause-found
returns-then-eq-clause-found g c = name_found (λ v. v.items) c.args.names.now c.args.word.now c.as_slice.result.now c.loop-i.i c.index-names-i.result c.loop-i-test.true c.index-names-i.is c.as_slice.ensures.value (sym c.eq.ensures ∙ c.if-eq.true)

pub returns-clause-none : goal.returns-clause-none
returns-clause-none g c =
    let names = c.args.names.now in
    no_name (map (λ v. v.items) names) c.args.word.now (λ k inside. c.loop-i.invariant k (omega (arith, inside, length-map names (λ v. v.items), c.loop-i-test.false)))

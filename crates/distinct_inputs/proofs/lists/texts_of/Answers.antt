use Rattle.std.proofs.Common.{◌≡◌, [], ◌∷◌, ◌++◌, length, sym, ap, subst, ◌∙◌, append_assoc, append-nil, arith}
use Rattle.distinct_inputs.specs.Lists.{names_of, texts_of, IsName}
use Rattle.distinct_inputs.proofs.ListNames.{nothing_named, named_more}
use Rattle.distinct_inputs.proofs.lists.texts_of.Goals as goal

pub loop-name-preserved : goal.loop-name-preserved
loop-name-preserved c =
    let old = names_of c.loop-name.texts.items in
    let name = c.in-Some.name.now.items in
    let others = texts_of c.in-Some.others.now in
    let put = c.in_ok-put_name.ensures.put ∙ ap (λ n. old ++ n ∷ []) c.as_slice.ensures.value in record {
      listed =
          c.loop-name.invariant.listed
          ∙ ap (λ ns. old ++ ns) (ap texts_of c.in-Some.ensures.cases.0)
          ∙ sym (append_assoc old (name ∷ []) others)
          ∙ ap (λ ns. ns ++ others) (sym put);
      named = named_more old name _ c.loop-name.invariant.named (subst IsName c.as_slice.ensures.value c.in_ok-put_name.ensures.named) put;
    }

pub returns-clause-names : goal.returns-clause-names
returns-clause-names c =
    let old = names_of c.loop-name.texts.items in
    let none : length c.loop-name.left.now ≡ 0 = grind (arith, c.in_default.ensures.cases, c.in_default.ensures.variant, c.in_default.not-Some) in
    sym (c.loop-name.invariant.listed ∙ ap (λ ns. old ++ ns) (nothing_named (λ name. name.items) c.loop-name.left.now none) ∙ append-nil old)

use Rattle.std.proofs.Common.{ℕ, ◌≡◌, List, refl, sym, ap, subst, ◌∙◌}
use Rattle.std.specs.Prelude.{flat_map}
use Rattle.std.proofs.lemmas.Result.{IfOk-weaker}
use Rattle.distinct_arguments.specs.declared.options.Order.{Order}
use Rattle.distinct_arguments.specs.declared.options.Order.TheVariants.{Name, Greatest}
use Rattle.distinct_arguments.specs.Faults.{options_of}
use Rattle.distinct_commands.specs.Groups.{chosen_order, AreOrdered}
use Rattle.distinct_commands.specs.Ranked.{first_items, AreRanked}
use Rattle.distinct_commands.specs.declared.ranked.Ranked.{Ranked}
use Rattle.distinct_commands.proofs.Ranking.{texts_by_name}
use Rattle.distinct_commands.proofs.sum_groups.ordered_texts.Goals as goal

pub returns-in-Greatest : goal.returns-in-Greatest
returns-in-Greatest c = λ number text names has.
    let options = options_of c.args.options.now in
    let ranked : chosen_order options ≡ Greatest = sym c.unwrap_or.ensures ∙ c.in-Greatest.is in
    IfOk-weaker c.first_ranked_text.result (λ v. (ordered : List (List ℕ)) × AreRanked number names ordered × (v.items ≡ flat_map text (first_items options.most ordered)))
    (λ v. (ordered : List (List ℕ)) × AreOrdered (chosen_order options) number names ordered × (v.items ≡ flat_map text (first_items options.most ordered)))
    (λ v is. (is.0, subst (λ (order : Order). AreOrdered order number names is.0) (sym ranked) is.1, is.2)) (c.first_ranked_text.ensures number text names has)

pub returns-in-Name : goal.returns-in-Name
returns-in-Name c = λ number text names has.
    let options = options_of c.args.options.now in
    let by_name : chosen_order options ≡ Name = sym c.unwrap_or.ensures ∙ c.in-Name.is in
    let texts_of : List Ranked → List ℕ = λ groups. flat_map (λ group. group.text.items) (first_items options.most groups) in
    IfOk-weaker c.first_texts.result (λ v. v.items ≡ texts_of c.as_slice.result.now)
    (λ v. (ordered : List (List ℕ)) × AreOrdered (chosen_order options) number names ordered × (v.items ≡ flat_map text (first_items options.most ordered)))
    (λ v is. (names, subst (λ (order : Order). AreOrdered order number names names) (sym by_name) refl, is ∙ ap texts_of c.as_slice.ensures.value ∙ texts_by_name number text options.most names c.args.ranked.items has)) c.first_texts.ensures

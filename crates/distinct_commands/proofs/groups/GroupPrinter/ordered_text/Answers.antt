use Rattle.std.proofs.Common.{ℕ, ◌≡◌, List, refl, sym, subst, ◌∙◌}
use Rattle.std.proofs.lemmas.Result.{IfOk-weaker}
use Rattle.distinct_arguments.specs.declared.options.Order.{Order}
use Rattle.distinct_arguments.specs.declared.options.Order.TheVariants.{Name}
use Rattle.distinct_arguments.specs.Faults.{options_of}
use Rattle.distinct_commands.specs.Groups.{counted_names, groups_text, group_estimate, chosen_order, AreOrdered}
use Rattle.distinct_commands.specs.Ranked.{first_items}
use Rattle.distinct_commands.proofs.groups.GroupPrinter.ordered_text.Goals as goal

pub returns-in-Name-clause-printed : goal.returns-in-Name-clause-printed
returns-in-Name-clause-printed g c = λ sketch names left.
    let options = options_of c.args.self.options.now in
    let estimate = group_estimate options sketch in
    let counted = counted_names options sketch names in
    let by_name : chosen_order options ≡ Name = sym c.unwrap_or.ensures ∙ c.in-Name.is in
    IfOk-weaker c.groups_text.result (λ v. v.items ≡ groups_text c.args.self.listing options sketch (first_items options.most counted))
    (λ v. (ordered : List (List ℕ)) × AreOrdered (chosen_order options) estimate counted ordered × (v.items ≡ groups_text c.args.self.listing options sketch (first_items options.most ordered)))
    (λ v is. (counted, subst (λ (order : Order). AreOrdered order estimate counted counted) (sym by_name) refl, is)) (c.groups_text.ensures.printed sketch names left)

use Rattle.std.proofs.Common.{ℕ, ◌≡◌, List, ap, ◌∙◌}
use Rattle.std.specs.Prelude.{flat_map}
use Rattle.std.proofs.lemmas.Result.{IfOk-weaker}
use Rattle.distinct_commands.specs.Ranked.{AreRanked, first_items}
use Rattle.distinct_commands.specs.declared.ranked.Ranked.{Ranked}
use Rattle.distinct_commands.proofs.Ranking.{texts_in_order}
use Rattle.distinct_commands.proofs.ranked.first_ranked_text.Goals as goal

pub returns : goal.returns
returns c = λ estimate text names has.
    let most = c.args.most in
    let texts_of : List Ranked → List ℕ = λ groups. flat_map (λ group. group.text.items) (first_items most groups) in
    IfOk-weaker c.first_texts.result (λ v. v.items ≡ texts_of c.as_slice.result.now) (λ v. (ordered : List (List ℕ)) × AreRanked estimate names ordered × (v.items ≡ flat_map text (first_items most ordered)))
    (λ v joined. texts_in_order estimate text most names c.args.groups.items c.sort_groups.new.groups.items v.items has c.sort_groups.ensures.permutation c.sort_groups.ensures.sorted (joined ∙ ap texts_of c.as_slice.ensures.value))
    c.first_texts.ensures

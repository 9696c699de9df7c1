use Rattle.std.proofs.Common.{ℕ, ◌++◌, Bool, cond, List, [], ◌∷◌, map, string_bytes, ap, ◌∙◌}
use Rattle.std.proofs.lemmas.List.{length-map}
use Rattle.distinct_arguments.specs.Places.{chosen, last_place}
use Rattle.distinct_arguments.specs.declared.places.Place.TheVariants.{Front}
use Rattle.distinct_arguments.proofs.ChosenWords.{pushed, passed, finished, placed}
use Rattle.distinct_arguments.proofs.places.push_chosen.Goals as goal

pub loop-word-preserved : goal.loop-word-preserved
loop-word-preserved c =
    let out = map (λ word. string_bytes word) c.loop-word.out.items in
    let rest = map (λ word. string_bytes word) c.loop-word.rest.now in
    let others = map (λ word. string_bytes word) c.in-Some.others.now in
    let text = c.as_str-text.result.now in
    let parted = ap (map (λ word. string_bytes word)) c.in-Some.ensures.cases.0 in record {
      pushed = pushed c.args.files c.loop-word.place out _ c.next_place-place.result (string_bytes c.in-Some.word.now) text rest others _
          (c.in_ok-push_if.ensures ∙ ap (λ (b : Bool). out ++ cond b (text ∷ []) []) c.is_chosen.ensures)
          c.next_place-place.ensures c.as_str-text.ensures.value parted c.loop-word.invariant.pushed;
      last = passed c.loop-word.place c.next_place-place.result (string_bytes c.in-Some.word.now) text rest others _
          c.next_place-place.ensures c.as_str-text.ensures.value parted c.loop-word.invariant.last;
    }

pub returns : goal.returns
returns c =
    let rest = map (λ word. string_bytes word) c.loop-word.rest.now in
    let none = length-map c.loop-word.rest.now (λ word. string_bytes word) ∙ c.in_default.ensures.cases in record {
      pushed = finished c.args.files c.loop-word.place _ rest _ none c.loop-word.invariant.pushed;
      place = placed c.loop-word.place rest _ none c.loop-word.invariant.last;
    }

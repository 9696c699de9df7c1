use Rattle.std.proofs.Common.{◌≡◌, ◌++◌, map, length, string_bytes}
use Rattle.distinct_arguments.specs.Places.{chosen, last_place}
use Rattle.distinct_arguments.specs.declared.places.Place.TheVariants.{Front}
use Rattle.distinct_arguments.proofs.places.push_chosen.Given as goal

-- what was appended, and what is chosen of the words that are left, are all; these lead to the last place
abbrev pub invariant-loop-word : goal.invariant-loop-word
invariant-loop-word l = record {
  pushed : map (λ word. string_bytes word) l.out.items ++ chosen l.files l.place (map (λ word. string_bytes word) l.rest)
      ≡ map (λ word. string_bytes word) l.initial.out.items ++ chosen l.files Front (map (λ word. string_bytes word) l.words);
  last : last_place l.place (map (λ word. string_bytes word) l.rest) ≡ last_place Front (map (λ word. string_bytes word) l.words);
}

abbrev pub decreases-loop-word : goal.decreases-loop-word
decreases-loop-word l = length l.rest

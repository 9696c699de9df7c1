use Rattle.std.proofs.Common.{◌≡◌, ℕ, ◌-◌, Some, drop, sym, ap, ◌∙◌, arith}
use Rattle.std.specs.Option.{option_map}
use Rattle.keys_parts.specs.Parts.{part_of, part_within}
use Rattle.keys_parts.specs.Stages.{rest_of, passed}
use Rattle.keys_parts.proofs.Parted.{places_rest, front_rest, empty_rest}
use Rattle.keys_parts.proofs.part.Part.new.Goals.{then-places, else-places+then-places-eq0, else-places+else-places-eq0}
use Rattle.keys_parts.proofs.part.Part.new.Goals as goal

pub returns : goal.returns
returns g c = λ text stands. ap (option_map (rest_of c.if-places.stage)) stands ∙ ap Some (elim c.if-places.branch as (λ _. rest_of c.if-places.stage (drop (c.args.places.from - 1) text) ≡ part_within c.args.places text) [
  | then-places w ↦ rw w.stage-is (empty_rest c.args.places.from c.args.places.to text (omega arith))
  | else-places+then-places-eq0 w ↦ rw w.stage-is (
      ap (λ (n : ℕ). passed (c.args.places.to - 1) (drop (n - 1) text)) w.if-places-eq0.true
      ∙ front_rest c.args.places.to text (omega arith)
      ∙ ap (λ (n : ℕ). part_of n c.args.places.to text) (sym w.if-places-eq0.true))
  | else-places+else-places-eq0 w ↦ rw w.stage-is (places_rest c.args.places.from c.args.places.to text (omega arith) (omega arith))
])

use Rattle.std.proofs.Common.{◌≡◌, ◌^◌, [], ◌∷◌, ap, sym, ◌∙◌}
use Rattle.sketch_base.specs.Seed.{seed_hash}
use Rattle.core_compact.specs.CompactState.{compact_value}
use Rattle.core_laws.specs.Entries.{hash_key, first_hash}
use Rattle.core_laws.specs.Operators.{unite}
use Rattle.expression_evaluation.specs.Contents.{contents_of}
use Rattle.expression_evaluation.proofs.TwoSketches.{nothing_united}
use Rattle.expression_evaluation.proofs.OpenUnions.{opened_again, opened_new}
use Rattle.expression_evaluation.proofs.theta.opened.Goals.{in-Made, in-Open+else-open-lg_k+in_ok-sketch-in-Open}
use Rattle.expression_evaluation.proofs.theta.opened.Goals as goal

pub returns-then-open-lg_k-clause-opened : goal.returns-then-open-lg_k-clause-opened
returns-then-open-lg_k-clause-opened g c =
    let open_one = c.in-Open.open in
    opened_again c.args.lg_k open_one.lg_k (seed_hash c.args.seed) open_one.union (contents_of c.args.first) c.if-open-lg_k.true open_one.open_union (ap (λ r. contents_of r) c.in-Open.is) c.requires.seeded

pub unite_sketch-requires-clause-seed : goal.unite_sketch-requires-clause-seed
unite_sketch-requires-clause-seed g c =
    let same : c.match-first.sketch ≡ contents_of c.args.first =
    elim c.match-first.branch [
      | in-Made w ↦ w.sketch-is ∙ sym (ap (λ r. contents_of r) w.in-Made.is)
      | in-Open+else-open-lg_k+in_ok-sketch-in-Open w ↦ w.sketch-is ∙ w.in_ok-sketch-in-Open.ensures.contents ∙ sym (ap (λ r. contents_of r) w.in-Open.is)
    ] in
    ap (λ s. s.seed_hash) same ∙ c.requires.seeded ∙ sym (ap (λ u. u.seed_hash) c.in_ok-union.ensures.made)

pub returns-clause-opened : goal.returns-clause-opened
returns-clause-opened g c =
    let same : c.match-first.sketch ≡ contents_of c.args.first =
    elim c.match-first.branch [
      | in-Made w ↦ w.sketch-is ∙ sym (ap (λ r. contents_of r) w.in-Made.is)
      | in-Open+else-open-lg_k+in_ok-sketch-in-Open w ↦ w.sketch-is ∙ w.in_ok-sketch-in-Open.ensures.contents ∙ sym (ap (λ r. contents_of r) w.in-Open.is)
    ] in
    let lg = c.args.lg_k in
    let h = seed_hash c.args.seed in
    let start = c.in_ok-union.union in
    let made = c.in_ok-union.ensures.made in
    opened_new lg h start c.unite_sketch.new.union (compact_value hash_key (contents_of c.args.first)) made c.in_ok-unite_sketch.ensures.made
    (c.in_ok-unite_sketch.ensures.united [] (nothing_united hash_key first_hash (λ x y same. same) lg h start made)
    ∙ ap (λ s. unite hash_key first_hash (2 ^ start.lg_k) start.start (compact_value hash_key s ∷ [])) same)

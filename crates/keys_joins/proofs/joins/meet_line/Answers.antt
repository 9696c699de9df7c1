use Rattle.std.proofs.Common.{ℕ, ◌≡◌, [], ◌∷◌, Bool, cond, true, sym, ap, subst, ◌∙◌}
use Rattle.std.proofs.lemmas.Result.{IfOk-weaker}
use Rattle.core_compact.specs.CompactState.{Compact}
use Rattle.theta_sketches.specs.Image.{written}
use Rattle.keys_groups.specs.United.{image_line}
use Rattle.keys_joins.specs.Joins.{all_have, intersection_of, joined_line, sketches_at, AreAllAt}
use Rattle.keys_joins.specs.declared.joins.Join.TheVariants.{Meet as MeetGroups}
use Rattle.keys_joins.proofs.joins.meet_line.Goals as goal

pub returns-in-Some-clause-line : goal.returns-in-Some-clause-line
returns-in-Some-clause-line c = λ first files are is.
    let name = c.args.group.name.items in
    let seed = c.args.seed in
    let met = c.in_ok-sketch-in-Some.sketch in
    let items = c.in-Some.sketches.items in
    let found = subst (AreAllAt files c.as_slice.result.now c.args.group.sketch) c.in-Some.is (c.in_ok-sketches.ensures.all files are) in
    let have : all_have files name ≡ true = ap (all_have files) (sym c.as_slice.ensures.value) ∙ found.0 in
    let all : items ≡ first.sketch name ∷ sketches_at files name =
    found.1 ∙ ap (λ (s : Compact ℕ). s ∷ sketches_at files c.as_slice.result.now) is ∙ ap (λ n. first.sketch name ∷ sketches_at files n) c.as_slice.ensures.value in
    let whole : met ≡ intersection_of seed (first.sketch name ∷ sketches_at files name) =
    c.in_ok-sketch-in-Some.ensures.met ∙ ap (intersection_of seed) (c.as_slice-in-Some.ensures.value ∙ all) in
    let line_of = λ (s : Compact ℕ). image_line name (written s) in
    IfOk-weaker c.sketch_line.result (λ v. v.items ≡ image_line c.as_slice-in-Some-2.result.now (written met)) (λ v. v.items ≡ joined_line MeetGroups seed first files name)
    (λ v line.
    line ∙ ap (λ n. image_line n (written met)) c.as_slice-in-Some-2.ensures.value ∙ ap line_of whole
    ∙ ap (λ (b : Bool). cond b (line_of (intersection_of seed (first.sketch name ∷ sketches_at files name))) []) (sym have))
    c.sketch_line.ensures.line

use Rattle.std.proofs.Common.{true, ap, ◌∙◌}
use Rattle.std.proofs.lemmas.Result.{IfOk-weaker}
use Rattle.core_compact.proofs.Answered.{answer-seed}
use Rattle.core_laws.specs.Entries.{hash_key}
use Rattle.core_laws.specs.declared.TheConstants.{MAX_THETA}
use Rattle.core_state.specs.Updatable.{sketch_value}
use Rattle.core_compact.specs.CompactState.{ordered_sketch}
use Rattle.keys_sketches.specs.Keys.{line_hashes, sketch_of_value}
use Rattle.keys_sketches.proofs.Worth.{given_lines, trimmed_value, ordered_answer}
use Rattle.keys_sketches.proofs.sketching.trim_and_compact.Goals as goal

pub returns-clause-sketch : goal.returns-clause-sketch
returns-clause-sketch g c = λ hashing lg_k lines is.
    let t = c.trim.new.self in
    let trimmed = c.in_ok-trim.ensures.given lg_k MAX_THETA hashing.seed (line_hashes hashing lines) (given_lines hashing lg_k lines c.args.sketch.now is) in
    IfOk-weaker c.compact.result _ _ (λ s answer.
    ordered_answer hash_key (sketch_value t) t.map.seed_hash s answer
    ∙ ap (ordered_sketch (sketch_value t)) (ap (λ m. m.seed_hash) trimmed.sketch.of_map.made_with)
    ∙ ap (sketch_of_value hashing.seed) (trimmed_value hashing lg_k lines c.args.sketch.now t is c.in_ok-trim.ensures.same_emptiness trimmed)) c.compact.ensures.ok

pub returns-clause-seeded : goal.returns-clause-seeded
returns-clause-seeded g c = IfOk-weaker c.compact.result _ _ (λ s answer. answer-seed hash_key (sketch_value c.trim.new.self) c.trim.new.self.map.seed_hash true s answer ∙ ap (λ m. m.seed_hash) c.in_ok-trim.ensures.after) c.compact.ensures.ok

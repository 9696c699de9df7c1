use Rattle.std.proofs.Common.{[], true, None, ◌∙◌}
use Rattle.std.proofs.lemmas.Result.{err_from_is_err_and}
use Rattle.core_laws.specs.declared.TheConstants.{MAX_THETA, MIN_LG_K}
use Rattle.core_laws.specs.Settings.{settings_refusal}
use Rattle.keys_lines.specs.Keys.{hashing_of}
use Rattle.keys_lines.specs.declared.key.Key.TheVariants.{Line}
use Rattle.keys_sketches.proofs.Refused.{least_size, only_memory, refuses_memory}
use Rattle.keys_sketches.proofs.images.empty_sketch.Goals as goal

pub returns-clause-empty : goal.returns-clause-empty
returns-clause-empty g c = c.trim_and_compact.ensures.sketch (hashing_of Line c.args.seed) MIN_LG_K [] c.in_ok-sketch.ensures.new

pub returns-in_err-sketch-clause-refused : goal.returns-in_err-sketch-clause-refused
returns-in_err-sketch-clause-refused g c = λ accepted.
    let p = err_from_is_err_and c.from_residual.result c.from_residual.ensures.1 in
    let only = only_memory (settings_refusal MIN_LG_K MAX_THETA c.args.seed) true c.in_err-sketch.field-0.0 (least_size c.args.seed accepted) c.in_err-sketch.ensures.refused in
    refuses_memory c.from_residual.result None p.0 p.1 (p.2 ∙ only.0)

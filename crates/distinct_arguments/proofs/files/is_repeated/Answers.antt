use Rattle.std.proofs.Common.{◌+◌, map, string_bytes, Bool, cond, ap, ◌∙◌, arith}
use Rattle.distinct_arguments.specs.Arguments.{standard_files}
use Rattle.distinct_arguments.specs.Words.{is_standard}
use Rattle.distinct_arguments.proofs.Meanings.{use_counted}
use Rattle.distinct_arguments.proofs.files.is_repeated.Goals as goal

pub loop-file-preserved : goal.loop-file-preserved
loop-file-preserved c = record {
  all = use_counted (string_bytes c.in-Some.file.now) (map (λ file. string_bytes file) c.loop-file.rest.now) (map (λ file. string_bytes file) c.in-Some.others.now) c.loop-file.count c.number_if-count.result (c.args.uses + standard_files (map (λ file. string_bytes file) c.args.files.now))
      (ap (map (λ file. string_bytes file)) c.in-Some.ensures.cases.0) (c.number_if-count.ensures.value ∙ ap (λ (b : Bool). cond b 1 0) (c.is_standard.ensures ∙ ap is_standard c.as_str.ensures.value)) c.loop-file.invariant.all;
  limited = omega arith;
}

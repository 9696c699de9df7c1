use Rattle.std.proofs.Common.{ap, ◌∙◌}
use Rattle.distinct_arguments.specs.Faults.{options_of}
use Rattle.distinct_inputs.specs.Lists.{names_of}
use Rattle.distinct_commands.specs.Texts.{file_count_text, head_of}
use Rattle.distinct_commands.proofs.EachFile.{counts_begin, counts_more, counts_end}
use Rattle.distinct_commands.proofs.job.Job.count_each.Goals as goal

pub loop-init : goal.loop-init
loop-init g c =
    counts_begin (options_of c.args.self.options.now) c.args.self.seed (g.S.Sources.texts c.args.self.inputs.sources) (head_of c.args.self.options.now.form) c.args.self.inputs.current.now (names_of c.args.self.inputs.left.now) _
    (ap (λ v. v.items) c.into_bytes-text.ensures.value ∙ c.in_ok-head.ensures)

pub loop-preserved : goal.loop-preserved
loop-preserved g c =
    let options = options_of c.args.self.options.now in
    counts_more options c.args.self.seed (g.S.Sources.texts c.args.self.inputs.sources) (g.S.Sources.texts c.loop.inputs.sources) (g.S.Sources.texts c.next_lines.new.inputs.sources)
    (head_of c.args.self.options.now.form) c.args.self.inputs.current.now (names_of c.args.self.inputs.left.now) c.loop.text.items
    c.loop.inputs.current.now c.loop.inputs.left.now c.next_lines.new.inputs.current.now c.next_lines.new.inputs.left.now
    _ c.in-Some.sketch c.as_bytes.result.now _ c.loop.invariant c.in_ok-sketch.ensures.sketches c.in-Some.is c.next_lines.ensures.named
    (c.as_bytes.ensures.value ∙ c.in_ok-line-in-Some.ensures ∙ ap (λ name. file_count_text options name c.in-Some.sketch) c.name.ensures) c.in_ok-extend_from_slice-in-Some.ensures.items

pub returns-in-None-clause-printed : goal.returns-in-None-clause-printed
returns-in-None-clause-printed g c =
    counts_end (options_of c.args.self.options.now) c.args.self.seed (g.S.Sources.texts c.args.self.inputs.sources) _ _ (head_of c.args.self.options.now.form) _ _ c.loop.text.items _ _ _
    c.loop.invariant c.in_ok-sketch.ensures.sketches c.in-None.is

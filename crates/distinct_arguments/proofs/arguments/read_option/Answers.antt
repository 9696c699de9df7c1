use Rattle.std.proofs.Common.{ℕ, ◌+◌, List, length, map, string_bytes, ap, ◌∙◌, subst, arith}
use Rattle.std.specs.Option.{option_map}
use Rattle.distinct_arguments.specs.Words.{split_option}
use Rattle.distinct_arguments.specs.Arguments.{Action, help, sets, awaits}
use Rattle.distinct_arguments.specs.Faults.{options_of, IsStep}
use Rattle.distinct_arguments.proofs.Meanings.{meaning_action, wrong_action}
use Rattle.distinct_arguments.proofs.arguments.read_option.Goals as goal

pub returns-in-Help : goal.returns-in-Help
returns-in-Help c =
    let others = map (λ other. string_bytes other) c.args.others.now in
    let n = c.split_option-setting.ensures.name ∙ ap (λ (w : List ℕ). (split_option w).name) c.as_str.ensures.value in
    let v = c.split_option-setting.ensures.value ∙ ap (λ (w : List ℕ). (split_option w).value) c.as_str.ensures.value in
    meaning_action c.args.command (options_of c.args.options) (string_bytes c.args.word.now) others c.requires.no_end c.requires.no_file c.split_option-setting.result.0.now (option_map (λ text. text.now) c.split_option-setting.result.1) help n v c.in-Help.ensures

pub returns-in-Sets : goal.returns-in-Sets
returns-in-Sets c =
    let others = map (λ other. string_bytes other) c.args.others.now in
    let n = c.split_option-setting.ensures.name ∙ ap (λ (w : List ℕ). (split_option w).name) c.as_str.ensures.value in
    let v = c.split_option-setting.ensures.value ∙ ap (λ (w : List ℕ). (split_option w).value) c.as_str.ensures.value in (
      omega arith,
      meaning_action c.args.command (options_of c.args.options) (string_bytes c.args.word.now) others c.requires.no_end c.requires.no_file c.split_option-setting.result.0.now (option_map (λ text. text.now) c.split_option-setting.result.1) (sets (options_of c.in-Sets.changed)) n v c.in-Sets.ensures,
    )

pub returns-in-Awaits : goal.returns-in-Awaits
returns-in-Awaits c =
    let others = map (λ other. string_bytes other) c.args.others.now in
    let n = c.split_option-setting.ensures.name ∙ ap (λ (w : List ℕ). (split_option w).name) c.as_str.ensures.value in
    let v = c.split_option-setting.ensures.value ∙ ap (λ (w : List ℕ). (split_option w).value) c.as_str.ensures.value in
    subst (λ (a : Action). IsStep c.args.command (options_of c.args.options) (length c.args.others.now + 1) a c.read_value.result)
    (meaning_action c.args.command (options_of c.args.options) (string_bytes c.args.word.now) others c.requires.no_end c.requires.no_file c.split_option-setting.result.0.now (option_map (λ text. text.now) c.split_option-setting.result.1) (awaits (record { option = c.in-Awaits.option; name = c.split_option-setting.result.0.now })) n v c.in-Awaits.ensures)
    c.read_value.ensures

pub returns-in-Wrong : goal.returns-in-Wrong
returns-in-Wrong c =
    let others = map (λ other. string_bytes other) c.args.others.now in
    let n = c.split_option-setting.ensures.name ∙ ap (λ (w : List ℕ). (split_option w).name) c.as_str.ensures.value in
    let v = c.split_option-setting.ensures.value ∙ ap (λ (w : List ℕ). (split_option w).value) c.as_str.ensures.value in
    wrong_action c.args.command (options_of c.args.options) (string_bytes c.args.word.now) others c.requires.no_end c.requires.no_file c.split_option-setting.result.0.now (option_map (λ text. text.now) c.split_option-setting.result.1) c.in-Wrong.fault n v c.in-Wrong.ensures

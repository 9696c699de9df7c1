use Rattle.std.proofs.Common.{◌≡◌, ℕ, List, sym, ap, subst, ◌∙◌, arith}
use Rattle.std.specs.Prelude.{map, length, string_bytes}
use Rattle.distinct_messages.specs.Failures.{display_name}
use Rattle.distinct_inputs.specs.Images.{remaining_images}
use Rattle.distinct_inputs.proofs.ListNames.{nothing_named}
use Rattle.distinct_arguments.specs.Faults.{options_of}
use Rattle.distinct_commands.specs.Showing.{AreOfOne, IfPassed, IsAppended, NamesFile}
use Rattle.distinct_commands.proofs.ShownImages.{begins_by_name, more_by_name, more_of_one, all_by_name, named_by_name, none_seen, next_named}
use Rattle.distinct_commands.proofs.show.show_files.Goals as goal

pub loop-file-init : goal.loop-file-init
loop-file-init g c = record {
  shows = begins_by_name (options_of c.args.options.now) (remaining_images g.S.Source.Read.remaining g.S.Sources.texts c.args.images.now) _ _ _ c.new.ensures.items c.new-2.ensures.items;
  of_one = subst (AreOfOne g.S.Sources.may_fail) (sym c.new-2.ensures.items) tt;
  whole = c.requires.images;
  named = c.requires.named;
}

pub loop-file-preserved : goal.loop-file-preserved
loop-file-preserved g c =
    let options = options_of c.args.options.now in
    let old = remaining_images g.S.Source.Read.remaining g.S.Sources.texts c.args.images.now in
    let name = string_bytes c.in-Some.file.now in
    let noted = c.in_ok-seen.ensures.advances c.loop-file.invariant.whole in
    let next = next_named _ c.loop-file.images.inputs.left.now _ _ c.in-Some.file.now c.in-Some.others.now noted.1 (c.loop-file.invariant.named ∙ c.in-Some.ensures.cases.0) in
    let named = subst (λ (current : List ℕ). IfPassed c.in_ok-seen.field-0 (NamesFile (display_name current))) next.0 (c.in_ok-seen.ensures.names c.requires.whole) in
    let put = subst (λ (n : List ℕ). IsAppended options n c.in-Some-2.seen c.loop-file.answer.bytes.items c.loop-file.answer.passed.items c.put_seen.new.answer.bytes.items c.put_seen.new.answer.passed.items) (c.display_name.ensures ∙ ap display_name c.as_str.ensures.value) c.in_ok-put_seen.ensures.appended in
    record {
      shows = more_by_name options old (map (λ name. string_bytes name) c.args.files.now) _ _ _ (map (λ name. string_bytes name) c.loop-file.left.now) name (map (λ name. string_bytes name) c.in-Some.others.now) _ c.in-Some-2.seen _ _ _ c.loop-file.invariant.shows (ap (map (λ name. string_bytes name)) c.in-Some.ensures.cases.0) c.in_ok-seen.ensures.sees c.in-Some-2.is named put;
      of_one = more_of_one g.S.Sources.may_fail options (display_name name) _ c.in-Some-2.seen _ _ _ _ c.loop-file.invariant.of_one c.in_ok-seen.ensures.of_one c.in-Some-2.is put;
      whole = noted.0;
      named = next.1;
    }

pub returns-in_default-2-clause-shown : goal.returns-in_default-2-clause-shown
returns-in_default-2-clause-shown g c =
    all_by_name (options_of c.args.options.now) (remaining_images g.S.Source.Read.remaining g.S.Sources.texts c.args.images.now) (map (λ name. string_bytes name) c.args.files.now) _ _ _ (map (λ name. string_bytes name) c.loop-file.left.now) _ _ c.loop-file.invariant.shows c.in_ok-seen.ensures.sees (none_seen _ c.in_default-2.not-Some)

pub returns-clause-shown : goal.returns-clause-shown
returns-clause-shown g c =
    let none : length c.loop-file.left.now ≡ 0 = grind (arith, c.in_default.ensures.cases, c.in_default.ensures.variant, c.in_default.not-Some) in
    named_by_name (options_of c.args.options.now) (remaining_images g.S.Source.Read.remaining g.S.Sources.texts c.args.images.now) (map (λ name. string_bytes name) c.args.files.now) _ _ _ (map (λ name. string_bytes name) c.loop-file.left.now) c.loop-file.invariant.shows (nothing_named (λ name. string_bytes name) c.loop-file.left.now none)

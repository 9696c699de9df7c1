use Rattle.std.proofs.Common.{◌≡◌, [], ◌++◌, ◌∷◌, ◌+◌, length, refl, rules, sym, ap, subst, ◌∙◌}
use Rattle.std.proofs.lemmas.Result.{IfOk-weaker}
use Rattle.keys_lines.specs.Lines.{Lacks}
use Rattle.keys_fields.specs.Ahead.{ahead_remaining, shown_of}
use Rattle.keys_fields.specs.Passing.{bytes_for, is_left_out}
use Rattle.keys_fields.proofs.Reading.{empty_of, at_end, shown_consumed, shown_line, shown_piece, end_read}
use Rattle.keys_fields.proofs.mapped.read_on.Goals as goal

pub returns-then-count-eq0-clause-same : goal.returns-then-count-eq0-clause-same
returns-then-count-eq0-clause-same g c =
    let text = ahead_remaining g.R.Read.remaining c.args.ahead.now in
    let rest = ahead_remaining g.R.Read.remaining c.fill.new.self in
    let none : shown_of c.fill.new.self ≡ [] = sym c.shown-available.ensures ∙ empty_of c.shown-available.result.now c.if-count-eq0.true in
    end_read (bytes_for c.args.passing.now) (is_left_out c.args.passing.now) c.args.waiting.now.items c.args.left_out.now c.args.begun.now.items text rest c.end_text.new.waiting.items c.end_text.new.left_out c.end_text.new.begun.items
    c.in_ok-fill.ensures.kept (at_end text rest c.in_ok-fill.ensures.kept (c.in_ok-fill.ensures.end none)) c.end_text.ensures.same

pub returns-then-count-eq0-clause-end : goal.returns-then-count-eq0-clause-end
returns-then-count-eq0-clause-end g c =
    let none : shown_of c.fill.new.self ≡ [] = sym c.shown-available.ensures ∙ empty_of c.shown-available.result.now c.if-count-eq0.true in
    IfOk-weaker c.end_text.result _ _ (λ s is e. (is e, c.in_ok-fill.ensures.end none)) c.end_text.ensures.end

pub returns-in_ok-end_line-in-Some-clause-same : goal.returns-in_ok-end_line-in-Some-clause-same
returns-in_ok-end_line-in-Some-clause-same g c =
    let text = ahead_remaining g.R.Read.remaining c.args.ahead.now in
    let middle = ahead_remaining g.R.Read.remaining c.fill.new.self in
    let rest = ahead_remaining g.R.Read.remaining c.consume.new.self in
    let shown = shown_of c.fill.new.self in
    let front = c.in-Some.front.now in
    let behind = c.in-Some.field-0-1.now in
    let parts : shown ≡ front ++ 10 ∷ behind = sym c.shown-available.ensures ∙ c.in-Some.ensures.parts in
    let put = c.in_ok-end_line-in-Some.ensures.ok in
    shown_line (bytes_for c.args.passing.now) (is_left_out c.args.passing.now) c.args.waiting.now.items c.args.left_out.now c.args.begun.now.items text rest shown front behind put.0 c.end_line.new.waiting.items c.end_line.new.begun.items c.end_line.new.left_out (length front + 1) refl parts
    c.in-Some.ensures.line (shown_consumed text middle rest _ c.in_ok-fill.ensures.kept c.consume.ensures) put.1 put.2 c.in_ok-end_line-in-Some.ensures.counted c.in_ok-end_line-in-Some.ensures.ended

pub returns-in_ok-extend_from_slice-in-None-clause-same : goal.returns-in_ok-extend_from_slice-in-None-clause-same
returns-in_ok-extend_from_slice-in-None-clause-same g c =
    let text = ahead_remaining g.R.Read.remaining c.args.ahead.now in
    let middle = ahead_remaining g.R.Read.remaining c.fill.new.self in
    let rest = ahead_remaining g.R.Read.remaining c.consume-in-None.new.self in
    let shown = shown_of c.fill.new.self in
    shown_piece (bytes_for c.args.passing.now) (is_left_out c.args.passing.now) c.args.waiting.now.items c.args.left_out.now c.args.begun.now.items text rest shown c.extend_from_slice.new.self.items (length c.shown-available.result.now) (ap length c.shown-available.ensures)
    (subst (Lacks 10) c.shown-available.ensures c.in-None.ensures.none) (shown_consumed text middle rest _ c.in_ok-fill.ensures.kept c.consume-in-None.ensures) (search rules)

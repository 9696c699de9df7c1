use Rattle.std.proofs.Common.{ℕ, ◌≡◌, List, [], ◌++◌, ◌∷◌, ◌+◌, eqb, length, length-append, refl, sym, ap, subst, ◌∙◌, append_assoc, append-nil, arith}
use Rattle.std.specs.Prelude.{IfErr, IfSome}
use Rattle.std.specs.Io.Buffered.{reader_remaining}
use Rattle.std.proofs.lemmas.Result.{err_from_is_err_and}
use Rattle.keys_groups.specs.Groups.{without_lf}
use Rattle.keys_groups.specs.Reading.{ReadsLine}
use Rattle.keys_groups.proofs.ReadInTurn.{begins, continues, ends}
use Rattle.keys_sketches.proofs.Turns.{if_some, if_any}
use Rattle.keys_totals.specs.Refusals.{LacksNumber, LacksNumberAt, FailsIf}
use Rattle.keys_totals.specs.Totals.{AreTotalled}
use Rattle.keys_totals.proofs.LackingLines.{lacking_last}
use Rattle.keys_totals.proofs.reading.add_lines.Goals as goal

pub loop-passed-init : goal.loop-passed-init
loop-passed-init g c =
    let room = ap (λ n. eqb n 0) c.in-Ok.ensures.capacity in record {
      parted = begins g.R.Read.remaining c.in-Ok.buffered c.args.reader (λ taken. length taken ≡ 0) c.in-Ok.ensures.inner c.in-Ok.ensures.empty room refl;
      added = λ before has.
          begins g.R.Read.remaining c.in-Ok.buffered c.args.reader (λ taken. AreTotalled c.args.by c.args.amount (before ++ taken) c.args.totals.now.map) c.in-Ok.ensures.inner c.in-Ok.ensures.empty room
          (subst (λ (lines : List (List ℕ)). AreTotalled c.args.by c.args.amount lines c.args.totals.now.map) (sym (append-nil before)) has);
    }

pub loop-passed-preserved : goal.loop-passed-preserved
loop-passed-preserved g c =
    let by = c.args.by in
    let amount = c.args.amount in
    let bytes = c.next_line.new.line.items in
    let known = reader_remaining g.R.Read.remaining c.loop-passed.buffered in
    let left = reader_remaining g.R.Read.remaining c.next_line.new.reader in
    let passed = c.loop-passed.passed in
    let was = c.loop-passed.totals.map in
    let now = c.add_line.new.totals.map in
    let line = c.without_lf-bytes.ensures ∙ ap without_lf c.as_slice.ensures.value in
    let read = subst (ReadsLine known left bytes) c.in-Ok-true.field-0-test c.in-Ok-true.ensures in record {
      parted =
          continues (g.R.Read.remaining c.args.reader) known left bytes (λ taken. length taken ≡ passed) (λ taken. length taken ≡ passed + 1) c.loop-passed.invariant.parted read
          (λ done counted. omega (arith, length-append done (without_lf bytes ∷ []), counted));
      added = λ before has.
          continues (g.R.Read.remaining c.args.reader) known left bytes (λ taken. AreTotalled by amount (before ++ taken) was) (λ taken. AreTotalled by amount (before ++ taken) now) (c.loop-passed.invariant.added before has) read
          (λ done holds.
          subst (λ (lines : List (List ℕ)). AreTotalled by amount lines now) (append_assoc before done (without_lf bytes ∷ []))
          (subst (λ (text : List ℕ). AreTotalled by amount ((before ++ done) ++ text ∷ []) now) line (c.in_ok-add_line-in-Ok-true.ensures.added (before ++ done) holds)));
    }

pub returns-in-Ok-false-clause-added : goal.returns-in-Ok-false-clause-added
returns-in-Ok-false-clause-added g c = λ before has.
    let bytes = c.next_line.new.line.items in
    let known = reader_remaining g.R.Read.remaining c.loop-passed.buffered in
    let left = reader_remaining g.R.Read.remaining c.next_line.new.reader in
    ends (g.R.Read.remaining c.args.reader) known left bytes (λ taken. AreTotalled c.args.by c.args.amount (before ++ taken) c.loop-passed.totals.map) (c.loop-passed.invariant.added before has)
    (subst (ReadsLine known left bytes) c.in-Ok-false.field-0-test c.in-Ok-false.ensures)

pub returns-in_err-add_line-in-Ok-true-clause-numbered : goal.returns-in_err-add_line-in-Ok-true-clause-numbered
returns-in_err-add_line-in-Ok-true-clause-numbered g c =
    let amount = c.args.amount in
    let passed = c.loop-passed.passed in
    let bytes = c.next_line.new.line.items in
    let text = g.R.Read.remaining c.args.reader in
    let known = reader_remaining g.R.Read.remaining c.loop-passed.buffered in
    let left = reader_remaining g.R.Read.remaining c.next_line.new.reader in
    let line = c.without_lf-bytes.ensures ∙ ap without_lf c.as_slice.ensures.value in
    let reason = c.in_err-add_line-in-Ok-true.field-0.0 in
    let p = err_from_is_err_and c.from_residual.result c.from_residual.ensures.1 in
    subst (λ r. IfSome text (λ all. IfErr r (LacksNumberAt amount all))) (sym p.1) (subst (λ v. IfSome text (λ all. LacksNumberAt amount all v)) (sym p.2)
    (lacking_last amount passed text known left bytes reason c.loop-passed.invariant.parted (subst (ReadsLine known left bytes) c.in-Ok-true.field-0-test c.in-Ok-true.ensures)
    (subst (λ (bs : List ℕ). LacksNumber amount bs passed reason) line c.in_err-add_line-in-Ok-true.ensures.lacking)))

pub returns-in_err-add_line-in-Ok-true-clause-fallible : goal.returns-in_err-add_line-in-Ok-true-clause-fallible
returns-in_err-add_line-in-Ok-true-clause-fallible g c =
    let fails = FailsIf g.R.TextReader.may_fail in
    let p = err_from_is_err_and c.from_residual.result c.from_residual.ensures.1 in
    subst (λ r. IfErr r fails) (sym p.1) (subst fails (sym p.2) (c.in_err-add_line-in-Ok-true.ensures.fallible g.R.TextReader.may_fail))

pub returns-in-Err-next_line-clause-numbered : goal.returns-in-Err-next_line-clause-numbered
returns-in-Err-next_line-clause-numbered g c =
    let text = g.R.Read.remaining c.args.reader in
    if_some text (λ all. Unit {0}) (λ all. LacksNumberAt c.args.amount all c.read_failure.result) (λ all any. c.read_failure.ensures.text c.args.amount all) (if_any text)

pub returns-in-Err-next_line-clause-refused : goal.returns-in-Err-next_line-clause-refused
returns-in-Err-next_line-clause-refused g c = c.read_failure.ensures.refused c.args.amount

use Rattle.std.proofs.Common.{ℕ, List, [], ◌++◌, ◌∷◌, ◌+◌, eqb, refl, sym, ap, subst, ◌∙◌, append-nil}
use Rattle.std.specs.Option.{option_map}
use Rattle.std.specs.Io.Buffered.{reader_remaining}
use Rattle.keys_lines.specs.Lines.{lines_of}
use Rattle.keys_groups.specs.Groups.{without_lf}
use Rattle.keys_groups.specs.Reading.{ReadsLine}
use Rattle.keys_groups.specs.United.{IsUniting, AreAdded, IsFlawless, IsAddError}
use Rattle.keys_groups.proofs.ReadInTurn.{begins, continues, ends}
use Rattle.keys_sketches.proofs.Turns.{if_some}
use Rattle.keys_groups.proofs.UnitedInTurn.{AreCounted, counted_more, read_behind, first_at}
use Rattle.keys_groups.proofs.uniting.add_lines.Goals as goal

pub loop-passed-init : goal.loop-passed-init
loop-passed-init g c =
    let seed = c.args.seed in
    let lg_k = c.args.lg_k in
    let room = ap (λ n. eqb n 0) c.in-Ok.ensures.capacity in record {
      counted = λ before uniting.
          begins g.R.Read.remaining c.in-Ok.buffered c.args.reader (λ taken. AreCounted seed lg_k 0 before taken c.args.groups.now.map) c.in-Ok.ensures.inner c.in-Ok.ensures.empty room
          (record {
            added = record {
              uniting = subst (λ (lines : List (List ℕ)). IsUniting seed lg_k lines c.args.groups.now.map) (sym (append-nil before)) uniting;
              flawless = tt;
            };
            count = refl;
          });
      ready = c.requires.ready;
    }

pub loop-passed-preserved : goal.loop-passed-preserved
loop-passed-preserved g c = record {
  counted = λ before uniting.
      let seed = c.args.seed in
      let lg_k = c.args.lg_k in
      let passed = c.loop-passed.passed in
      let bytes = c.next_line.new.line.items in
      let known = reader_remaining g.R.Read.remaining c.loop-passed.buffered in
      let left = reader_remaining g.R.Read.remaining c.next_line.new.reader in
      let was = c.loop-passed.groups.map in
      let now = c.add_line.new.self.map in
      let line = c.without_lf-bytes.ensures ∙ ap without_lf c.as_slice.ensures.value in
      continues (g.R.Read.remaining c.args.reader) known left bytes (λ taken. AreCounted seed lg_k passed before taken was) (λ taken. AreCounted seed lg_k (passed + 1) before taken now) (c.loop-passed.invariant.counted before uniting)
      (subst (ReadsLine known left bytes) c.in-Ok-true.field-0-test c.in-Ok-true.ensures)
      (λ done holds.
      counted_more seed lg_k passed before done (without_lf bytes) was now holds
      (subst (λ (text : List ℕ). IsUniting seed lg_k ((before ++ done) ++ text ∷ []) now) line (c.in-Ok-add_line.ensures.uniting (before ++ done) holds.added.uniting))
      (subst (IsFlawless seed) line (c.in-Ok-add_line.ensures.flawless (before ++ done) holds.added.uniting)));
  ready = c.in-Ok-add_line.ensures.ready;
}

pub returns-in-Ok-false-clause-lines : goal.returns-in-Ok-false-clause-lines
returns-in-Ok-false-clause-lines g c = λ before uniting.
    let seed = c.args.seed in
    let lg_k = c.args.lg_k in
    let passed = c.loop-passed.passed in
    let groups = c.loop-passed.groups.map in
    let known = reader_remaining g.R.Read.remaining c.loop-passed.buffered in
    let left = reader_remaining g.R.Read.remaining c.next_line.new.reader in
    let bytes = c.next_line.new.line.items in
    if_some (g.R.Read.remaining c.args.reader) (λ text. AreCounted seed lg_k passed before (lines_of text) groups) (λ text. AreAdded seed lg_k before (lines_of text) groups) (λ text counted. counted.added)
    (ends (g.R.Read.remaining c.args.reader) known left bytes (λ taken. AreCounted seed lg_k passed before taken groups) (c.loop-passed.invariant.counted before uniting)
    (subst (ReadsLine known left bytes) c.in-Ok-false.field-0-test c.in-Ok-false.ensures))

pub returns-in-Err-add_line-clause-first : goal.returns-in-Err-add_line-clause-first
returns-in-Err-add_line-clause-first g c = λ before uniting.
    let seed = c.args.seed in
    let passed = c.loop-passed.passed in
    let known = reader_remaining g.R.Read.remaining c.loop-passed.buffered in
    let left = reader_remaining g.R.Read.remaining c.next_line.new.reader in
    let bytes = c.next_line.new.line.items in
    let line = c.without_lf-bytes.ensures ∙ ap without_lf c.as_slice.ensures.value in
    first_at seed passed (without_lf bytes) (option_map lines_of (g.R.Read.remaining c.args.reader)) c.failure_at.result
    (c.failure_at.ensures.line seed (without_lf bytes) (subst (λ (text : List ℕ). IsAddError seed text c.in-Err-add_line.reason) line c.in-Err-add_line.ensures.failed))
    (read_behind seed c.args.lg_k passed before c.loop-passed.groups.map (g.R.Read.remaining c.args.reader) known left bytes (c.loop-passed.invariant.counted before uniting)
    (subst (ReadsLine known left bytes) c.in-Ok-true.field-0-test c.in-Ok-true.ensures))

pub returns-in-Err-add_line-clause-fallible : goal.returns-in-Err-add_line-clause-fallible
returns-in-Err-add_line-clause-fallible g c = c.failure_at.ensures.fallible g.R.TextReader.may_fail

pub returns-in-Err-next_line-clause-first : goal.returns-in-Err-next_line-clause-first
returns-in-Err-next_line-clause-first g c = λ before uniting. c.read_failure.ensures.first c.args.seed (option_map lines_of (g.R.Read.remaining c.args.reader))

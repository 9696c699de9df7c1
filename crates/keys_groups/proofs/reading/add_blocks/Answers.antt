use Rattle.std.proofs.Common.{◌≡◌, ◌++◌, [], take, sym, ap, subst, ◌∙◌, arith}
use Rattle.std.proofs.lemmas.List.{append-nil}
use Rattle.std.proofs.KnownBytes.{Consumes-nil, Consumes-whole, Consumes-trans, Consumes-kept}
use Rattle.keys_lines.specs.Lines.{lines_of, lines_after}
use Rattle.keys_groups.specs.Reading.{TakesLines}
use Rattle.keys_groups.specs.States.{IsGrouped}
use Rattle.keys_groups.proofs.TakenLines.{takes_none, takes_both, takes_all}
use Rattle.keys_groups.proofs.reading.add_blocks.Goals.{in-Ok+in_ok-take_block-in-Ok, in-Err+else-ne}
use Rattle.keys_groups.proofs.reading.add_blocks.Goals as goal

pub loop-init : goal.loop-init
loop-init g c = record {
  named = c.requires.named;
  read = (
    [],
    Consumes-nil (g.R.Read.remaining c.args.reader.now),
    λ before grouped. subst (TakesLines c.args.grouping before [] [] c.args.groups.now.entries.items) (sym c.new-begun.ensures.items) (takes_none c.args.grouping before c.args.groups.now.entries.items grouped),
  );
}

pub returns-in-Ok-eq0-clause-lines : goal.returns-in-Ok-eq0-clause-lines
returns-in-Ok-eq0-clause-lines g c = λ before grouped.
    let grouping = c.args.grouping in
    let inv = c.loop.invariant.read in
    let old = g.R.Read.remaining c.args.reader.now in
    let now = g.R.Read.remaining c.read.new.self in
    let all = inv.0 ++ take c.in-Ok-eq0.field-0 c.read.new.buf in
    let none : all ≡ inv.0 = ap (λ n. inv.0 ++ take n c.read.new.buf) c.in-Ok-eq0.field-0-test ∙ append-nil inv.0 in
    let begun = c.loop.begun.items in
    let new = c.take_last.new.groups.entries.items in
    let so_far = inv.2 before grouped in
    Consumes-whole old now all (λ text. IsGrouped grouping (before ++ lines_of text) new)
    (Consumes-trans old (g.R.Read.remaining c.loop.reader) now inv.0 (take c.in-Ok-eq0.field-0 c.read.new.buf) inv.1 c.in-Ok-eq0.ensures.bytes.0)
    (c.in-Ok-eq0.ensures.bytes.1 c.in-Ok-eq0.field-0-test (omega arith))
    (subst (λ text. IsGrouped grouping (before ++ lines_of text) new) (sym none)
    (takes_all grouping before inv.0 begun c.loop.groups.entries.items new so_far
    (subst (λ last. IsGrouped grouping ((before ++ so_far.0) ++ lines_after last []) new) c.as_slice.ensures.value (c.in_ok-take_last-in-Ok-eq0.ensures.taken (before ++ so_far.0) so_far.1))))

pub loop-preserved : goal.loop-preserved
loop-preserved g c =
    let inv = c.loop.invariant.read in
    let grouping = c.args.grouping in
    let old = g.R.Read.remaining c.args.reader.now in
    let mid = g.R.Read.remaining c.loop.reader in
    let now = g.R.Read.remaining c.read.new.self in
    elim c.match-read.branch [
      | in-Ok+in_ok-take_block-in-Ok w ↦
          let block = take w.in-Ok.count c.read.new.buf in
          rw (w.groups-is, w.begun-is) (record {
            named = w.in_ok-take_block-in-Ok.ensures.named;
            read = (
              inv.0 ++ block,
              Consumes-trans old mid now inv.0 block inv.1 w.in-Ok.ensures.bytes.0,
              λ before grouped.
                  let so_far = inv.2 before grouped in
                  takes_both grouping before inv.0 block c.loop.begun.items w.take_block.new.begun.items c.loop.groups.entries.items w.take_block.new.groups.entries.items so_far
                  (w.in_ok-take_block-in-Ok.ensures.takes (before ++ so_far.0) so_far.1),
            );
          })
      | in-Err+else-ne w ↦
          rw (w.groups-is, w.begun-is) (record {
            named = c.loop.invariant.named;
            read = (inv.0, Consumes-kept old mid now inv.0 inv.1 w.in-Err.ensures.bytes, inv.2);
          })
    ]

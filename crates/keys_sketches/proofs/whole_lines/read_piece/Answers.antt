use Rattle.std.proofs.Common.{◌≤◌, ap, subst, ◌∙◌, arith, length}
use Rattle.std.specs.Io.BufRead.{FillKeeps}
use Rattle.std.proofs.BufReadLemmas.{Consumes_shown}
use Rattle.keys_sketches.proofs.ReadLines.{cut_length, cut_read, uncut_read}
use Rattle.keys_sketches.proofs.whole_lines.read_piece.Goals.{in-Some, in-None}
use Rattle.keys_sketches.proofs.whole_lines.read_piece.Goals as goal

pub returns-clause-continues : goal.returns-clause-continues
returns-clause-continues g c =
    let items = c.in_ok-extend_from_slice.ensures.items in
    let rested = c.fill_buf.follows.lender-at-none in
    let filled = subst (FillKeeps _ (g.R.Read.remaining rested) (g.R.BufRead.consumable_len rested)) c.in-Ok.is c.fill_buf.follows.holds-at-none in
    let text = g.R.Read.remaining c.args.reader.now in
    let rest = g.R.Read.remaining c.consume.new.self in
    let shown = c.in-Ok.available.now in
    let count = c.match-cut_line.count in
    let moved = λ (within : count.0 ≤ length shown). Consumes_shown _ _ _ _ shown count.0 within c.in-Ok.ensures.front c.in-Ok.ensures.end filled.0 filled.1 c.consume.ensures.bytes in
    elim c.match-cut_line.branch [
      | in-Some w ↦
          let counted = ap (λ p. p.0) w.count-is in
          cut_read text rest shown w.in-Some.front.now w.in-Some.field-0-1.now c.args.line.now.items c.extend_from_slice.new.self.items count.0 count.1 counted (ap (λ p. p.1) w.count-is) w.in-Some.ensures.parts w.in-Some.ensures.line
          (moved (cut_length shown w.in-Some.front.now w.in-Some.field-0-1.now count.0 counted w.in-Some.ensures.parts)).0 items
      | in-None w ↦
          let counted = ap (λ p. p.0) w.count-is in
          let all = moved (omega (arith, counted)) in
          uncut_read text rest shown c.args.line.now.items c.extend_from_slice.new.self.items count.0 count.1 counted (ap (λ p. p.1) w.count-is ∙ w.is_empty.ensures) w.in-None.ensures.none all.0 all.1 items
    ]

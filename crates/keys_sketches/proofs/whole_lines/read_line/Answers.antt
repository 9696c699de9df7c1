use Rattle.std.proofs.Common.{◌≡◌, true, length, subst, arith}
use Rattle.std.proofs.BufReadLemmas.{IsAtEnd-of_take_through}
use Rattle.keys_sketches.specs.WholeLines.{Continues}
use Rattle.keys_sketches.proofs.ReadLines.{more_read, line_read}
use Rattle.keys_sketches.proofs.whole_lines.read_line.Goals as goal

pub returns-then-branch-clause-end : goal.returns-then-branch-clause-end
returns-then-branch-clause-end g c none =
    let text = g.R.Read.remaining c.args.reader.now in
    let rest = g.R.Read.remaining c.read_piece.new.reader in
    let old = c.args.line.now.items in
    let new = c.read_piece.new.line.items in
    let whole : Continues true text rest old new =
    more_read true text (g.R.Read.remaining c.loop.reader) rest old c.loop.line.items new c.loop.invariant.2 (subst (λ d. Continues d (g.R.Read.remaining c.loop.reader) rest c.loop.line.items new) c.if-branch.true c.in_ok-read_piece.ensures.continues) in
    let same : length new ≡ length old = omega (arith, none, c.len.ensures, c.len-start.ensures, c.loop.invariant.0, c.loop.invariant.1, c.in_ok-read_piece.ensures.grows, c.read_piece.new.line.ok, c.args.line.now.ok, c.loop.line.ok) in
    IsAtEnd-of_take_through 10 text old new (line_read text rest old new whole).0 same

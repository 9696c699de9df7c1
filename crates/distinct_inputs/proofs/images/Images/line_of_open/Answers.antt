use Rattle.std.proofs.Common.{ℕ, List, Option, Some, Vec, Global, sym, subst, arith, ne_eqb}
use Rattle.std.specs.Io.Buffered.{reader_remaining}
use Rattle.keys_sketches.specs.Sources.{GivesNext}
use Rattle.distinct_inputs.specs.Images.{remaining_parts}
use Rattle.distinct_inputs.proofs.ImageLines.{next_line, count_of_nothing}
use Rattle.distinct_inputs.proofs.images.Images.line_of_open.Goals as goal

pub returns-clause-next : goal.returns-clause-next
returns-clause-next g c =
    subst (λ (left : Option (List (List ℕ))). GivesNext (λ (w : Vec ℕ Global). Some w.items) (remaining_parts g.S.Source.Read.remaining g.S.Sources.texts c.args.self.now) left (Some c.in_ok-image.image)) (sym c.in_ok-image.ensures.left)
    (rw (c.in-Some.is) (next_line c.args.self.now.hex c.args.self.now.line _ c.in_ok-count.count (reader_remaining g.S.Source.Read.remaining c.in-Some.reader) _ _ c.new-line.result.items c.read_line.new.line.items c.as_slice.result.now (λ v. v.items) c.in_ok-image.image c.requires.lines
    c.new-line.ensures.items c.in_ok-count.ensures.bytes c.in_ok-count.ensures.rest (omega (arith, c.read_line.new.line.ok, c.new-line.result.ok, c.in_ok-count.ensures.ok)) (ne_eqb c.in_ok-count.count 0 c.if-count-eq0.false) c.as_slice.ensures.value c.in_ok-image.ensures.spelled (ne_eqb c.saturating_add-self.result 0 (λ e. absurd (omega (arith, e, c.saturating_add-self.ensures))))))

pub returns-then-self-eq0-clause-noted : goal.returns-then-self-eq0-clause-noted
returns-then-self-eq0-clause-noted g c = rw c.new.ensures.items (let none = count_of_nothing c.args.self.now.sums in omega (arith, none))

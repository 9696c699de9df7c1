use Rattle.std.proofs.Common.{ℕ, ◌≤◌, Bool, Option, Vec, Global, refl, subst, ◌∙◌}
use Rattle.std.specs.Prelude.{IfSome}
use Rattle.keys_sketches.specs.Sources.{GivesNext}
use Rattle.distinct_inputs.specs.Images.{remaining_parts, count_of, GivesOrCloses}
use Rattle.distinct_inputs.proofs.ImageLines.{known_same, none_of, gives_first, opened, at_last}
use Rattle.distinct_inputs.proofs.images.Images.next_line.Goals as goal

pub loop-init : goal.loop-init
loop-init g c = record { hex = c.requires.lines; sums = refl; same = known_same (remaining_parts g.S.Source.Read.remaining g.S.Sources.texts c.args.self.now) }

pub line_of_open-requires : goal.line_of_open-requires
line_of_open-requires g c = record { lines = c.loop.invariant.hex }

pub returns-in-Some : goal.returns-in-Some
returns-in-Some g c = record {
  next = gives_first (remaining_parts g.S.Source.Read.remaining g.S.Sources.texts c.args.self.now) (remaining_parts g.S.Source.Read.remaining g.S.Sources.texts c.loop.self) (remaining_parts g.S.Source.Read.remaining g.S.Sources.texts c.line_of_open.new.self) (λ v. v.items) c.line_of_open.new.self.«open» c.in_ok-image.field-0 c.in-Some.image c.loop.invariant.same c.in_ok-image.ensures.next c.in-Some.is;
  sums = c.in_ok-image.ensures.sums ∙ c.loop.invariant.sums;
  noted = subst (λ (b : Bool). count_of b c.in-Some.image.items ≤ c.line_of_open.new.self.most) c.loop.invariant.sums
      (subst (λ (o : Option (Vec ℕ Global)). IfSome o (λ v. count_of c.loop.self.sums v.items ≤ c.line_of_open.new.self.most)) c.in-Some.is c.in_ok-image.ensures.noted);
}

pub returns-in_default-2 : goal.returns-in_default-2
returns-in_default-2 g c =
    let now = remaining_parts g.S.Source.Read.remaining g.S.Sources.texts c.loop.self in
    let new = remaining_parts g.S.Source.Read.remaining g.S.Sources.texts c.line_of_open.new.self in
    let closes = subst (GivesOrCloses (λ v. v.items) now new c.line_of_open.new.self.«open») (none_of c.in_ok-image.field-0 c.in_default.not-Some) c.in_ok-image.ensures.next in
    record {
      next = at_last (remaining_parts g.S.Source.Read.remaining g.S.Sources.texts c.args.self.now) now _ c.line_of_open.new.self.hex c.line_of_open.new.self.line g.S.Source.Read.remaining c.line_of_open.new.self.«open» _ _ _ c.loop.invariant.same (c.in_ok-image.ensures.hex ∙ c.loop.invariant.hex) closes
          (subst (GivesNext g.S.Source.Read.remaining _ _) (none_of c.in_ok-input.field-0 c.in_default-2.not-Some) c.in_ok-input.ensures.next);
      sums = c.in_ok-image.ensures.sums ∙ c.loop.invariant.sums;
      noted = tt;
    }

pub loop-preserved : goal.loop-preserved
loop-preserved g c =
    let now = remaining_parts g.S.Source.Read.remaining g.S.Sources.texts c.loop.self in
    let new = remaining_parts g.S.Source.Read.remaining g.S.Sources.texts c.line_of_open.new.self in
    let closes = subst (GivesOrCloses (λ v. v.items) now new c.line_of_open.new.self.«open») (none_of c.in_ok-image.field-0 c.in_default.not-Some) c.in_ok-image.ensures.next in
    record {
      hex = c.in_ok-image.ensures.hex ∙ c.loop.invariant.hex;
      sums = c.in_ok-image.ensures.sums ∙ c.loop.invariant.sums;
      same = opened (remaining_parts g.S.Source.Read.remaining g.S.Sources.texts c.args.self.now) now c.line_of_open.new.self.hex c.line_of_open.new.self.line g.S.Source.Read.remaining c.line_of_open.new.self.«open» _ _ c.in-Some-2.input c.in_ok-new.field-0 c.loop.invariant.same (c.in_ok-image.ensures.hex ∙ c.loop.invariant.hex) closes
          (subst (GivesNext g.S.Source.Read.remaining _ _) c.in-Some-2.is c.in_ok-input.ensures.next) c.in_ok-new.ensures.inner c.in_ok-new.ensures.empty c.in_ok-new.ensures.capacity;
    }

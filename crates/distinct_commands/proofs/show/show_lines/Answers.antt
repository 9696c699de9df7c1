use Rattle.std.proofs.Common.{sym, subst}
use Rattle.distinct_inputs.specs.Images.{remaining_images}
use Rattle.distinct_arguments.specs.Faults.{options_of}
use Rattle.distinct_commands.specs.Showing.{AreOfOne}
use Rattle.distinct_commands.proofs.ShownImages.{begins, more_shown, more_of_one, all_shown, none_seen}
use Rattle.distinct_commands.proofs.show.show_lines.Goals as goal

pub loop-init : goal.loop-init
loop-init g c = record {
  shows = begins (options_of c.args.options.now) (remaining_images g.S.Source.Read.remaining g.S.Sources.texts c.args.images.now) _ _ c.new.ensures.items c.new-2.ensures.items;
  of_one = subst (AreOfOne g.S.Sources.may_fail) (sym c.new-2.ensures.items) tt;
}

pub loop-preserved : goal.loop-preserved
loop-preserved g c = record {
  shows = more_shown (options_of c.args.options.now) (remaining_images g.S.Source.Read.remaining g.S.Sources.texts c.args.images.now) _ _ _ _ _ c.in-Some.seen _ _ _ c.loop.invariant.shows c.in_ok-seen.ensures.sees c.in-Some.is c.in_ok-put_seen.ensures.appended;
  of_one = more_of_one g.S.Sources.may_fail (options_of c.args.options.now) _ _ c.in-Some.seen _ _ _ _ c.loop.invariant.of_one c.in_ok-seen.ensures.of_one c.in-Some.is c.in_ok-put_seen.ensures.appended;
}

pub returns-in_default-clause-shown : goal.returns-in_default-clause-shown
returns-in_default-clause-shown g c =
    all_shown (options_of c.args.options.now) (remaining_images g.S.Source.Read.remaining g.S.Sources.texts c.args.images.now) _ _ _ _ _ c.loop.invariant.shows c.in_ok-seen.ensures.sees (none_seen _ c.in_default.not-Some)

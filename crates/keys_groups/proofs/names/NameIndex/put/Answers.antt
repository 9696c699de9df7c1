use Rattle.keys_groups.proofs.Marks.{still_reached}
use Rattle.keys_groups.proofs.names.NameIndex.put.Goals as goal

pub returns-then-put_in_levels-clause-kept : goal.returns-then-put_in_levels-clause-kept
returns-then-put_in_levels-clause-kept c = λ other before. still_reached c.args.self.now.buckets.items c.put_in_levels.new.buckets.items c.args.self.now.levels.items other before (λ bucket. c.put_in_levels.ensures.kept bucket other before)

pub returns-then-not-is_worth_growing-clause-kept : goal.returns-then-not-is_worth_growing-clause-kept
returns-then-not-is_worth_growing-clause-kept c = λ other before. still_reached c.args.self.now.buckets.items c.put_in_levels.new.buckets.items c.args.self.now.levels.items other before (λ bucket. c.put_in_levels.ensures.kept bucket other before)

pub returns-in_err-grow-clause-kept : goal.returns-in_err-grow-clause-kept
returns-in_err-grow-clause-kept c = λ other before reached.
    c.grow.ensures.kept other before (still_reached c.args.self.now.buckets.items c.put_in_levels.new.buckets.items c.args.self.now.levels.items other before (λ bucket. c.put_in_levels.ensures.kept bucket other before) reached)

pub returns-clause-kept : goal.returns-clause-kept
returns-clause-kept c = λ other before reached.
    still_reached c.grow.new.self.buckets.items c.put_in_levels-2.new.buckets.items c.grow.new.self.levels.items other before (λ bucket. c.put_in_levels-2.ensures.kept bucket other before)
    (c.grow.ensures.kept other before (still_reached c.args.self.now.buckets.items c.put_in_levels.new.buckets.items c.args.self.now.levels.items other before (λ bucket. c.put_in_levels.ensures.kept bucket other before) reached))
